use Rattle.std.proofs.Common.{◌≡◌, ◌≤◌, ◌-◌, [], length, drop}
use Rattle.csv.specs.Records.{fields_of, partial_of}
use Rattle.format_csv.proofs.lemmas.FillGoneLemmas.{Gone}
use Rattle.format_csv.proofs.filling.fill.Given as goal

-- the fields before the index are read, with a comma after each
abbrev pub invariant-loop-length : goal.invariant-loop-length
invariant-loop-length l = (l.at ≤ length l.bytes)
    × Gone l.bytes (drop l.at l.bytes) (fields_of l.row) × (partial_of l.row ≡ [])

abbrev pub decreases-loop-length : goal.decreases-loop-length
decreases-loop-length l = length l.bytes - l.at
