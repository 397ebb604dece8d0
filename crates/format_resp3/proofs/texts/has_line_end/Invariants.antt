use Rattle.std.proofs.Common.{◌≡◌, false, take}
use Rattle.std.specs.List.{list_any}
use Rattle.format_resp3.specs.Texts.{ends_line}
use Rattle.format_resp3.proofs.texts.has_line_end.Given as goal

-- no byte so far ends a line
abbrev pub invariant-loop-byte : goal.invariant-loop-byte
invariant-loop-byte l = list_any ends_line (take l.byte-index l.text) ≡ false
