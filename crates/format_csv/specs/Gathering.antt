-- The chunks of a quoted field.
use Rattle.std.specs.Prelude.{◌≡◌, ℕ, List, [], ◌∷◌, ◌++◌}

-- the bytes end with a quote
abbrev pub EndsWithQuote : List ℕ → Type 0
EndsWithQuote bytes = (front : List ℕ) × (bytes ≡ front ++ 34 ∷ [])
