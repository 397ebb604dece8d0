use Rattle.std.proofs.Common.{take}
use Rattle.csv.specs.Records.{fields_of, AllText}
use Rattle.wb_csv.proofs.settings.is_text.Given as goal

-- the fields so far are UTF-8
abbrev pub invariant-loop-place : goal.invariant-loop-place
invariant-loop-place l = AllText (take l.place (fields_of l.row))
