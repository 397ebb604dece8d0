-- What a plain struct shows of a record of comma-separated values.
use Rattle.std.specs.Prelude.{◌≡◌, ℕ, ◌+◌, List, [], ◌∷◌, ◌++◌, length}
use Rattle.std.specs.Vec.{vec_ptr}
use Rattle.std.specs.Global.{Vec}
use Rattle.woldbraid_readers.specs.declared.csv_record.CsvRecord.{CsvRecord}

-- the bytes of the fields, one field after the other
unfoldable pub joined : List (List ℕ) → List ℕ
joined [] = []
joined (field ∷ fields) = field ++ joined fields

-- the offsets at which the fields end, if they begin at this one
unfoldable pub ends_from : ℕ → List (List ℕ) → List ℕ
ends_from start [] = []
ends_from start (field ∷ fields) = (start + length field) ∷ ends_from (start + length field) fields

-- the offsets at which the fields end in their joined bytes
abbrev pub ends_of : List (List ℕ) → List ℕ
ends_of fields = ends_from 0 fields

-- the struct shows these fields, whose bytes and ends are lent
abbrev pub ShowsFields : List (List ℕ) → CsvRecord → Vec ℕ → Vec ℕ → Type 0
ShowsFields fields shown text ends = (text.items ≡ joined fields) × (ends.items ≡ ends_of fields)
    × (shown.text ≡ vec_ptr text) × (shown.ends ≡ vec_ptr ends)
    × (shown.count ≡ length fields) × (shown.place ≡ 0)

-- the struct shows no record, and an error at this place
abbrev pub ShowsNoRecord : ℕ → CsvRecord → Type 0
ShowsNoRecord place shown = (shown.count ≡ 0) × (shown.place ≡ place)
