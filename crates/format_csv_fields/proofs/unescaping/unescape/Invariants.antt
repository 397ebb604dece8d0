use Rattle.std.proofs.Common.{◌≡◌, ◌≤◌, ◌-◌, ◌++◌, length, drop}
use Rattle.format_csv.specs.Fields.{doubled}
use Rattle.format_csv_fields.proofs.unescaping.unescape.Given as goal

-- the bytes before the index spell the value so far
abbrev pub invariant-loop-length : goal.invariant-loop-length
invariant-loop-length l =
    (l.at ≤ length l.inside) × (l.inside ≡ doubled l.value.items ++ drop l.at l.inside)

abbrev pub decreases-loop-length : goal.decreases-loop-length
decreases-loop-length l = length l.inside - l.at
