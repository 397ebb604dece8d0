use Rattle.std.proofs.Common.{◌≡◌, false, take}
use Rattle.std.specs.List.{list_any}
use Rattle.format_csv.specs.Fields.{is_special}
use Rattle.woldbraid_writers.proofs.csv_writer.needs_quotes.Given as goal

-- no byte so far is special
abbrev pub invariant-loop-byte : goal.invariant-loop-byte
invariant-loop-byte l = list_any is_special (take l.byte-index l.field) ≡ false
