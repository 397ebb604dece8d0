use Rattle.std.proofs.Common.{◌≡◌, ◌∷◌, ◌++◌, take}
use Rattle.format_csv.specs.Fields.{doubled}
use Rattle.woldbraid_writers.proofs.csv_writer.append_quoted.Given as goal

-- the bytes so far are appended, after the opening quote
abbrev pub invariant-loop-byte : goal.invariant-loop-byte
invariant-loop-byte l = l.bytes.items ≡ l.fn.bytes.items ++ 34 ∷ doubled (take l.byte-index l.field)
