use Rattle.std.proofs.Common.{◌≡◌, ◌<◌, ℕ, false, get_or}
use Rattle.winnow_error_parse.specs.CharSpan.{is_boundary}
use Rattle.winnow_error_parse.proofs.char_span.first_boundary.Given as goal

abbrev pub invariant-loop-place : goal.invariant-loop-place
invariant-loop-place l = (k : ℕ) → k < l.place → is_boundary (get_or l.bytes k 0) ≡ false
