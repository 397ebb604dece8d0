use Rattle.std.proofs.Common.{◌≡◌, ◌≤◌}
use Rattle.format_resp.specs.Wanted.{last_first, with_next}
use Rattle.format_resp.proofs.wanted.len_without_zeros.Given as goal

-- the numbers that are left want the same
abbrev pub invariant-loop-now : goal.invariant-loop-now
invariant-loop-now l =
    (l.now ≤ l.len) × (with_next (last_first l.now l.counts) ≡ with_next (last_first l.len l.counts))

abbrev pub decreases-loop-now : goal.decreases-loop-now
decreases-loop-now l = l.now
