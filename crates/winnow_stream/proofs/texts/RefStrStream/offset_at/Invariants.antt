use Rattle.std.proofs.Common.{◌≡◌, ◌≤◌, length}
use Rattle.winnow_stream.proofs.texts.RefStrStream.offset_at.Given as goal

abbrev pub invariant-loop-offset : goal.invariant-loop-offset
invariant-loop-offset l =
    goal.iterator-loop-offset.can_next l.offset-iterator
    × goal.iterator-loop-offset.is_finite l.offset-iterator
    × (l.count ≡ length l.yielded)
    × (l.count ≤ l.tokens)
