use Rattle.std.proofs.Common.{◌≡◌, drop}
use Rattle.winnow_match.specs.Comparison.{is_prefix}
use Rattle.winnow_match.proofs.compare_bytes.begins_with_short.Given as goal

abbrev pub invariant-loop-at : goal.invariant-loop-at
invariant-loop-at l =
    is_prefix (drop l.at l.prefix) (drop l.at l.input) ≡ is_prefix l.prefix l.input
