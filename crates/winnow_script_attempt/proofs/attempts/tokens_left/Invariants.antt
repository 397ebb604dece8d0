use Rattle.std.proofs.Common.{◌≡◌, ◌+◌, length}
use Rattle.winnow_script_attempt.proofs.attempts.tokens_left.Given as goal

abbrev pub invariant-loop-tokens : goal.invariant-loop-tokens
invariant-loop-tokens g l = record {
  valid : g.S.Stream.valid l.later;
  counted : l.tokens + length (g.S.Stream.remaining l.later)
      ≡ length (g.S.Stream.remaining l.fn.rest);
}

abbrev pub decreases-loop-tokens : goal.decreases-loop-tokens
decreases-loop-tokens g l = length (g.S.Stream.remaining l.later)
