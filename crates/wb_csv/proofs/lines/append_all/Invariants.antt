use Rattle.std.proofs.Common.{◌≡◌, ◌++◌, take, map}
use Rattle.csv.specs.Records.{fields_of}
use Rattle.wb_csv.specs.Lines.{field_of, joined}
use Rattle.wb_csv.proofs.lines.append_all.Given as goal

-- the fields so far are appended
abbrev pub invariant-loop-place : goal.invariant-loop-place
invariant-loop-place l =
    l.text.items ≡ l.fn.text.items ++ joined (take l.place (map (field_of l.settings) (fields_of l.row)))
