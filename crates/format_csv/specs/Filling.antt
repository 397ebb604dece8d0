-- The results of filling a record. 44 is a comma, 13 CR, and 10 LF.
use Rattle.std.specs.Prelude.{◌≡◌, ◌≢◌, ℕ, ◌≤◌, Bool, true, false, not, List, [], ◌∷◌, ◌++◌, length, drop, ◌⊎◌}
use Rattle.winnow_reader.specs.Reading.{MayFollow}
use Rattle.format_lemmas.specs.Bytes.{StartsWith}
use Rattle.format_csv.specs.Language.{EndsRecord, RecordAhead}
use Rattle.format_csv.specs.Answers.{IsBegun}
use Rattle.format_csv.specs.Tables.{HasNoRecord, IsDamagedAt}
use Rattle.format_csv.specs.declared.filling.Follow.{Follow}
use Rattle.format_csv.specs.declared.filling.Follow.TheVariants.{Comma, End, Open, Broken}
use Rattle.format_csv.specs.declared.filling.Found.{Found}
use Rattle.format_csv.specs.declared.filling.Found.TheVariants.{Record, NeedsMore, Damaged}

-- with each continuation that may follow, the rest starts with no comma and no end of a record
abbrev pub CannotFollow : Bool → List ℕ → Type 0
CannotFollow ended rest = (more : List ℕ) → MayFollow ended more false
    → ¬ (StartsWith 44 (rest ++ more)) × ((after : List ℕ) → ¬ (EndsRecord false (rest ++ more) after))

-- the rest of a field starts with a comma, or with an end of the record of length n, or it is empty
-- or CR alone and more may follow, or it starts with a byte that cannot follow
abbrev pub Follows : Bool → List ℕ → Follow → Type 0
Follows ended rest Comma = rest ≡ 44 ∷ drop 1 rest
Follows ended rest (End n) = (n ≤ length rest) × EndsRecord (not ended) rest (drop n rest)
Follows ended rest Open = (ended ≡ false) × ((rest ≡ []) ⊎ (rest ≡ 13 ∷ []))
Follows ended rest Broken = (rest ≢ []) × CannotFollow ended rest

-- the bytes begin with this record, the rest follows it, and they begin with no other record
abbrev pub IsRecordOf : List ℕ → List (List ℕ) → List ℕ → Type 0
IsRecordOf bytes values rest = RecordAhead false bytes values rest
    × ((others : List (List ℕ)) (after : List ℕ) → RecordAhead false bytes others after
    → (others ≡ values) × (after ≡ rest))

-- the bytes begin with this record, and with each continuation that may follow with no other
abbrev pub BeginsJust : Bool → List ℕ → List (List ℕ) → List ℕ → Type 0
BeginsJust ended bytes values rest = RecordAhead (not ended) bytes values rest
    × ((more : List ℕ) → MayFollow ended more false → IsRecordOf (bytes ++ more) values (rest ++ more))

-- the bytes begin with no record yet, and some continuation makes them a record
abbrev pub IsUnfinished : Bool → List ℕ → Type 0
IsUnfinished ended bytes = (ended ≡ false) × IsBegun bytes
    × ((values : List (List ℕ)) (rest : List ℕ) → ¬ (RecordAhead true bytes values rest))

-- with each continuation that may follow, the bytes begin with no record and are malformed at this
-- rest
abbrev pub IsDamagedBefore : Bool → List ℕ → List ℕ → Type 0
IsDamagedBefore ended bytes rest = (more : List ℕ) → MayFollow ended more false
    → HasNoRecord (bytes ++ more) × IsDamagedAt (bytes ++ more) (rest ++ more)

-- the result of filling a record from the bytes, and the fields of the record after it
abbrev pub Fills : Bool → List ℕ → Found → List (List ℕ) → Type 0
Fills ended bytes (Record n) fields = (n ≤ length bytes) × BeginsJust ended bytes fields (drop n bytes)
Fills ended bytes NeedsMore fields = IsUnfinished ended bytes
Fills ended bytes (Damaged n) fields = (n ≤ length bytes) × IsDamagedBefore ended bytes (drop n bytes)
