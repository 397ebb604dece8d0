-- Where a record breaks off, and whether its closing quote is missing.
use Rattle.std.specs.Prelude.{◌≡◌, ℕ, Bool, List, [], ◌∷◌, ◌++◌}
use Rattle.format_lemmas.specs.Bytes.{StartsWith}
use Rattle.format_csv.specs.Language.{SpellsRecord, EndsRecord}

-- a record breaks off at the rest: fields stand before it, and it begins neither with a comma nor
-- with the end of a record
abbrev pub BreaksOff : Bool → List ℕ → List ℕ → Type 0
BreaksOff partial bytes rest = (values : List (List ℕ)) × ((text : List ℕ) × ((bytes ≡ text ++ rest)
    × SpellsRecord values text × ¬ (StartsWith 44 rest)
    × ((after : List ℕ) → ¬ (EndsRecord partial rest after))))

-- a closing quote is missing at the end: with one more quote the bytes spell a record
abbrev pub IsUnclosed : List ℕ → Type 0
IsUnclosed bytes = (values : List (List ℕ)) × SpellsRecord values (bytes ++ 34 ∷ [])
