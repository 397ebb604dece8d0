-- Records of comma-separated values that are being written, and what each call makes of them. 44 is
-- a comma, 13 CR, and 10 LF.
use Rattle.std.specs.Prelude.{◌≡◌, ℕ, Bool, true, false, if◌then◌else◌, List, [], ◌∷◌, ◌++◌, map, ⊤}
use Rattle.format_csv.specs.Writing.{written_field}
use Rattle.woldbraid_writers.specs.declared.status.Status.{Status}
use Rattle.woldbraid_writers.specs.declared.status.Status.TheVariants as status
use Rattle.woldbraid_writers.specs.declared.csv_writer.CsvWriter.{CsvWriter}

-- records that are being written: their bytes so far, but for those that were dropped, and whether
-- the last record has a field and goes on
pub record Table : Type 0 where
  pub text : List ℕ
  pub goes_on : Bool

-- what a writer has
abbrev pub table_of : CsvWriter → Table
table_of w = record { text = w.text.items; goes_on = w.goes_on }

-- what a call writes: a field of these bytes, or the end of the record
pub data Entry : Type 0 where
  Field : List ℕ → Entry
  End : Entry

-- a field after the others of its record
abbrev pub field_text : Bool → List ℕ → List ℕ
field_text goes_on field = if goes_on then 44 ∷ written_field field else written_field field

-- the records after the call
abbrev pub after_entry : Table → Entry → Table
after_entry t (Field field) =
    record { text = t.text ++ field_text t.goes_on field; goes_on = true }
after_entry t End = record { text = t.text ++ 13 ∷ 10 ∷ []; goes_on = false }

-- the records after these calls, one after the other
unfoldable pub after_entries : Table → List Entry → Table
after_entries t [] = t
after_entries t (entry ∷ entries) = after_entries (after_entry t entry) entries

-- the calls that write a record: its fields, and its end
abbrev pub entries_of : List (List ℕ) → List Entry
entries_of fields = map Field fields ++ End ∷ []

-- records of these bytes, of which the last has ended
abbrev pub ended_table : List ℕ → Table
ended_table text = record { text = text; goes_on = false }

-- why nothing was written: a record without a field ends, or memory was refused
abbrev pub IsWhyNoEntry : Table → Entry → Status → Type 0
IsWhyNoEntry t End status.Unexpected = t.goes_on ≡ false
IsWhyNoEntry t entry status.Refused = ⊤
IsWhyNoEntry t entry other = ⊥

-- a record ends only after a field
abbrev pub MayCome : Table → Entry → Type 0
MayCome t (Field field) = ⊤
MayCome t End = t.goes_on ≡ true

-- the call was written, and could be; or nothing was, for the reason of the status
abbrev pub WritesEntry : Table → Entry → Status → Table → Type 0
WritesEntry t entry status.Ok u = MayCome t entry × (u ≡ after_entry t entry)
WritesEntry t entry s u = (u ≡ t) × IsWhyNoEntry t entry s
