use Rattle.std.proofs.Common.{◌≡◌, ◌++◌, take}
use Rattle.std.specs.List.{flat_map}
use Rattle.wb_replies.specs.Lines.{escaped}
use Rattle.wb_replies.proofs.lines.append_quoted.Given as goal

-- the bytes so far are appended
abbrev pub invariant-loop-byte : goal.invariant-loop-byte
invariant-loop-byte l = l.text.items ≡ l.initial.text.items ++ flat_map escaped (take l.byte-index l.held)
