-- The location of a stream in the whole input, in its offsets, if the stream keeps one.
use Rattle.std.specs.Prelude.{◌≡◌, ℕ, ◌+◌, Option, Some, None}

-- the location after a width; a stream that keeps none has none after it either
abbrev pub location_behind : Option ℕ → ℕ → Option ℕ
location_behind None n = None
location_behind (Some location) n = Some (location + n)

-- the last token ended at the location, and the next one starts there
abbrev pub IsLocation : {S : Type 0} → (S → Option ℕ) → (S → ℕ) → (S → ℕ) → Type 0
IsLocation {S} location ends starts = (s : S) → (location s ≡ Some (ends s)) × (location s ≡ Some (starts s))
