-- What was written, and then the characters that are left to write, is the front of the text.
use Rattle.std.proofs.Common.{◌≡◌, ℕ, List, ◌++◌, take, encode_utf8_all}
use Rattle.std.specs.Fmt.{HasWrittenStyled, IsFlush}
use Rattle.bstr.specs.Utf8.{lossy_chars}
use Rattle.winnow_kinds.proofs.lossy.write_front.Given as goal

abbrev pub invariant-loop-left : goal.invariant-loop-left
invariant-loop-left g l =
    IsFlush l.initial.f
    → (done : List ℕ) × HasWrittenStyled g.W.Write.write_str_gives l.initial.f done l.f
    × (done ++ encode_utf8_all (take l.left l.chars) ≡ encode_utf8_all (take l.fn.count (lossy_chars l.fn.bytes)))
