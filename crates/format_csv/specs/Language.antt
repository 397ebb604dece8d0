-- Records: fields with commas between them, and the end of a line or of the input.
use Rattle.std.specs.Prelude.{◌≡◌, ◌≢◌, ℕ, Bool, false, List, [], ◌∷◌, ◌++◌, ◌⊎◌}
use Rattle.format_csv.specs.Fields.{SpellsField}

-- the bytes spell these values, each with a comma before it
abbrev pub SpellsMore : List (List ℕ) → List ℕ → Type 0
SpellsMore [] bytes = bytes ≡ []
SpellsMore (value ∷ values) bytes = (text : List ℕ) × ((more : List ℕ)
    × ((bytes ≡ 44 ∷ (text ++ more)) × SpellsField value text × SpellsMore values more))

-- the bytes spell a record of these values, at least one, with commas between them
abbrev pub SpellsRecord : List (List ℕ) → List ℕ → Type 0
SpellsRecord [] bytes = ⊥
SpellsRecord (value ∷ values) bytes = (text : List ℕ) × ((more : List ℕ)
    × ((bytes ≡ text ++ more) × SpellsField value text × SpellsMore values more))

-- a record ends here, and the rest follows: after CR LF, after LF alone, or at the end of an input
-- to which nothing is added
abbrev pub EndsRecord : Bool → List ℕ → List ℕ → Type 0
EndsRecord partial bytes rest = (bytes ≡ 13 ∷ 10 ∷ rest) ⊎ ((bytes ≡ 10 ∷ rest)
    ⊎ ((bytes ≡ []) × (rest ≡ []) × (partial ≡ false)))

-- the bytes begin with a record of these values and its end, and the rest follows; nothing at all
-- is no record
abbrev pub RecordAhead : Bool → List ℕ → List (List ℕ) → List ℕ → Type 0
RecordAhead partial bytes values rest = (bytes ≢ []) × ((text : List ℕ) × ((more : List ℕ)
    × ((bytes ≡ text ++ more) × SpellsRecord values text × EndsRecord partial more rest)))
