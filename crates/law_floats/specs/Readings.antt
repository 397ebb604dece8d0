-- The float that was read, and the bytes that write it.
use Rattle.std.specs.Prelude.{◌≡◌, ℕ, List, Some}
use Rattle.std.specs.Float.Ieee as ieee
use Rattle.fast_float.specs.Parse.{parse_float}
use Rattle.winnow_stream.specs.Source.{Source}
use Rattle.winnow_parser.specs.Outcome.{Ahead}
use Rattle.winnow_parser.specs.Taken.{IsFrontTaken}

-- the value is the nearest float to the number that a slice writes, and the slice is what stands
-- between the two places
abbrev pub IsOfFront : {R S T : Type 0} → ieee.Format → (R → ieee.Float) → (S → List ℕ)
    → (S → Source T → ℕ → Type 0) → Ahead T → Ahead T → R → Type 0
IsOfFront {R} {S} format value bytes is_slice a b x = (s : S)
    × ((parse_float format (bytes s) ≡ Some (value x)) × IsFrontTaken is_slice s a b)
