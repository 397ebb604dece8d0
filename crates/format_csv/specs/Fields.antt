-- Fields, as RFC 4180 writes them: 34 is a quote, 44 a comma, 13 CR, and 10 LF.
use Rattle.std.specs.Prelude.{◌≡◌, ℕ, ◌==◌, Bool, not, ◌||◌, if◌then◌else◌, List, [], ◌∷◌, ◌++◌, ◌⊎◌}
use Rattle.std.specs.List.{flat_map}
use Rattle.format_lemmas.specs.Bytes.{Each}

-- a quote, a comma, CR or LF, which do not stand for themselves outside quotes
abbrev pub is_special : ℕ → Bool
is_special byte = 34 == byte || (44 == byte || (13 == byte || 10 == byte))

-- any other byte, which stands for itself
abbrev pub is_plain : ℕ → Bool
is_plain byte = not (is_special byte)

-- a byte between quotes: a quote is written twice, any other byte once
abbrev pub twice : ℕ → List ℕ
twice byte = if 34 == byte then 34 ∷ 34 ∷ [] else byte ∷ []

-- the bytes with each quote doubled
abbrev pub doubled : List ℕ → List ℕ
doubled bytes = flat_map twice bytes

-- the bytes spell the value: as they stand, if all are plain; or between quotes, with each quote
-- doubled
abbrev pub SpellsField : List ℕ → List ℕ → Type 0
SpellsField value bytes = (Each is_plain value × (bytes ≡ value)) ⊎ (bytes ≡ 34 ∷ (doubled value ++ 34 ∷ []))
