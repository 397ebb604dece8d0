use Rattle.std.proofs.Common.{◌≡◌, ◌≤◌, Bool, length, take}
use Rattle.winnow_stream.specs.Source.{HoldsAll, Computes}
use Rattle.winnow_token.proofs.parsers.take_while.count_held.Given as goal

-- each token that was read is held, and there are at most `greatest` of them
abbrev pub invariant-loop-offset : goal.invariant-loop-offset
invariant-loop-offset g l = record {
  can : (goal.iterator-loop-offset g).can_next l.offset-iterator;
  ends : (goal.iterator-loop-offset g).is_finite l.offset-iterator;
  counted : l.count ≡ length l.yielded;
  within : l.count ≤ l.greatest;
  all_held : (holds : _ → Bool) → Computes (goal.P-post g l.held) holds
      → HoldsAll holds (take l.count (g.I.Stream.remaining l.input));
}
