use Rattle.std.proofs.Common.{◌≡◌, ◌++◌, take}
use Rattle.format_csv.specs.Fields.{doubled}
use Rattle.wb_csv.proofs.lines.append_doubled.Given as goal

-- the bytes so far are appended
abbrev pub invariant-loop-byte : goal.invariant-loop-byte
invariant-loop-byte l = l.text.items ≡ l.fn.text.items ++ doubled (take l.byte-index l.field)
