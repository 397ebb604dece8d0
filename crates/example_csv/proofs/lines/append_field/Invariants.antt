use Rattle.std.proofs.Common.{◌≡◌, ◌++◌, take}
use Rattle.example_csv.specs.Lines.{escaped}
use Rattle.example_csv.proofs.lines.append_field.Given as goal

-- the bytes so far are appended
abbrev pub invariant-loop-byte : goal.invariant-loop-byte
invariant-loop-byte l = l.line.items ≡ l.fn.line.items ++ escaped (take l.byte-index l.field)
