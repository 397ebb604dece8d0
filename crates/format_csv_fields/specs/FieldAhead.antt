-- One field of a record, and what ends it. 44 is a comma, and 13 is CR.
use Rattle.std.specs.Prelude.{◌≡◌, ◌≢◌, ℕ, ◌≤◌, ◌<◌, Bool, true, false, not, List, [], ◌∷◌, ◌++◌, length, drop, ◌⊎◌}
use Rattle.winnow_reader.specs.Reading.{MayFollow}
use Rattle.format_csv.specs.Fields.{SpellsField}
use Rattle.format_csv.specs.Language.{EndsRecord}
use Rattle.format_csv_fields.specs.declared.after.Ending.{Ending}
use Rattle.format_csv_fields.specs.declared.after.Ending.TheVariants.{Comma, Record}
use Rattle.format_csv_fields.specs.declared.after.After.{After}
use Rattle.format_csv_fields.specs.declared.after.After.TheVariants.{Ends, Open, Broken}

-- the bytes are a comma and the rest; or they begin with an end of the record, and the rest follows
abbrev pub EndsField : Bool → Ending → List ℕ → List ℕ → Type 0
EndsField partial Comma bytes rest = bytes ≡ 44 ∷ rest
EndsField partial Record bytes rest = EndsRecord partial bytes rest

-- the bytes begin with this text, which spells this value, and with this ending; the rest follows
abbrev pub FieldAhead : Bool → List ℕ → List ℕ → List ℕ → Ending → List ℕ → Type 0
FieldAhead partial bytes text value ending rest = (more : List ℕ)
    × ((bytes ≡ text ++ more) × SpellsField value text × EndsField partial ending more rest)

-- the bytes begin with this field and ending, and with no other
abbrev pub IsFieldOf : List ℕ → List ℕ → List ℕ → Ending → List ℕ → Type 0
IsFieldOf bytes text value ending rest = FieldAhead false bytes text value ending rest
    × ((t v : List ℕ) (e : Ending) (r : List ℕ) → FieldAhead false bytes t v e r
    → (v ≡ value) × (e ≡ ending) × (r ≡ rest))

-- the bytes begin with this field and ending, and with each continuation that may follow with no
-- other
abbrev pub BeginsJust : Bool → List ℕ → List ℕ → List ℕ → Ending → List ℕ → Type 0
BeginsJust ended bytes text value ending rest = FieldAhead (not ended) bytes text value ending rest
    × ((more : List ℕ) → MayFollow ended more false
    → IsFieldOf (bytes ++ more) text value ending (rest ++ more))

-- the bytes begin with a field and its ending
abbrev pub HasField : Bool → List ℕ → Type 0
HasField partial bytes = (text : List ℕ) × ((value : List ℕ) × ((ending : Ending)
    × ((rest : List ℕ) × FieldAhead partial bytes text value ending rest)))

-- the bytes begin with no field and ending yet, and some continuation makes them begin with one
abbrev pub IsUnfinished : Bool → List ℕ → Type 0
IsUnfinished ended bytes = (ended ≡ false) × ((more : List ℕ) × HasField true (bytes ++ more))
    × ¬ (HasField true bytes)

-- the field breaks off at the rest: its text comes before, and neither a comma nor an end of the
-- record follows; or its closing quote is missing at the end
abbrev pub IsBrokenAt : List ℕ → List ℕ → Type 0
IsBrokenAt bytes rest = ((text : List ℕ) × ((value : List ℕ) × ((bytes ≡ text ++ rest)
    × SpellsField value text × ((ending : Ending) (after : List ℕ) → ¬ (EndsField false ending rest after)))))
    ⊎ ((value : List ℕ) × (SpellsField value (bytes ++ 34 ∷ []) × (rest ≡ [])))

-- with each continuation that may follow, the bytes begin with no field and ending, and are
-- malformed at this rest
abbrev pub IsDamagedBefore : Bool → List ℕ → List ℕ → Type 0
IsDamagedBefore ended bytes rest = (more : List ℕ) → MayFollow ended more false
    → ¬ (HasField false (bytes ++ more)) × IsBrokenAt (bytes ++ more) (rest ++ more)

-- with each continuation that may follow, the text of the field is longer than the limit
abbrev pub IsTooLong : Bool → ℕ → List ℕ → Type 0
IsTooLong ended limit bytes = (limit < length bytes) × ((more : List ℕ) → MayFollow ended more false
    → (text value : List ℕ) (ending : Ending) (rest : List ℕ)
    → FieldAhead false (bytes ++ more) text value ending rest → limit < length text)

-- the rest of a field begins with this ending, of n bytes; or it is empty or CR alone and more may
-- follow; or no continuation makes it begin with an ending
abbrev pub Follows : Bool → List ℕ → After → Type 0
Follows ended rest (Ends ending n) =
    (n ≤ length rest) × EndsField (not ended) ending rest (drop n rest)
Follows ended rest Open = (ended ≡ false) × ((rest ≡ []) ⊎ (rest ≡ 13 ∷ []))
Follows ended rest Broken = (rest ≢ []) × ((more : List ℕ) → MayFollow ended more false
    → (ending : Ending) (after : List ℕ) → ¬ (EndsField false ending (rest ++ more) after))
