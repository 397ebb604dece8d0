use Rattle.std.proofs.Common.{◌≡◌, ◌≤◌, ◌<◌, ℕ, false, length, get_or}
use Rattle.winnow_error_parse.specs.CharSpan.{is_boundary}
use Rattle.winnow_error_parse.proofs.char_span.last_boundary.Given as goal

abbrev pub invariant-loop-end : goal.invariant-loop-end
invariant-loop-end l = (l.end ≤ length l.bytes) × ((k : ℕ) → l.end ≤ k → k < length l.bytes → is_boundary (get_or l.bytes k 0) ≡ false)

abbrev pub decreases-loop-end : goal.decreases-loop-end
decreases-loop-end l = l.end
