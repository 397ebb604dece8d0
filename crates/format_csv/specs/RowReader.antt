-- The records that a `RowReader` has read of bytes in pieces, and the result of a call.
use Rattle.std.specs.Prelude.{◌≡◌, ℕ, ◌≤◌, ◌<◌, false, List, [], ◌∷◌, ◌++◌, length, Result, Ok, Err}
use Rattle.winnow_reader.specs.Reading.{MayFollow}
use Rattle.winnow_reader.specs.State.{ReaderState, taken_by, fed_of}
use Rattle.winnow_reader.specs.SameValues.{IsThrough}
use Rattle.winnow_reader.specs.declared.next.Next.{Next}
use Rattle.winnow_reader.specs.declared.next.Next.TheVariants.{Value, NeedsMore, Done}
use Rattle.format_csv.specs.Tables.{AreRecords}
use Rattle.format_csv.specs.Reading.{FindsDamage}
use Rattle.format_csv.specs.declared.grammar.Row.{Row}
use Rattle.format_csv.specs.Filling.{BeginsJust, IsUnfinished}
use Rattle.format_csv.specs.declared.row_reader.RowError.{RowError}
use Rattle.format_csv.specs.declared.row_reader.RowError.TheVariants.{Damaged, Refused}

-- a reader has read these records of this joined input: for each continuation they are the first
-- records of the input, and the remaining input comes after them
pub record HasRead (f : ReaderState Row) (input : List ℕ) (rows : List (List (List ℕ))) : Type 0 where
  pub reads : (more : List ℕ) → MayFollow f.ended more false
      → AreRecords (input ++ more) rows (f.ahead ++ more)
  pub fed : fed_of f ≡ length input

-- the new reader has read the records of the old one, and one more piece belongs to the input
abbrev pub ReadsAlso : ReaderState Row → List ℕ → ReaderState Row → Type 0
ReadsAlso old piece new = (input : List ℕ) (rows : List (List (List ℕ)))
    → HasRead old input rows → HasRead new (input ++ piece) rows

-- the new reader has read the records of the old one, of the same input
abbrev pub ReadsThrough : ReaderState Row → ReaderState Row → Type 0
ReadsThrough old new = (input : List ℕ) (rows : List (List (List ℕ)))
    → HasRead old input rows → HasRead new input rows

-- the records that a call has read: one if it returns a value, else none
abbrev pub row_read : Result (Next (Unit {0})) RowError → List (List ℕ) → List (List (List ℕ))
row_read (Ok (Value x)) fields = fields ∷ []
row_read (Ok NeedsMore) fields = []
row_read (Ok Done) fields = []
row_read (Err e) fields = []

-- the new reader has read the records of the old one, then the record that the call has read
abbrev pub ReadsOn : ReaderState Row → Result (Next (Unit {0})) RowError → List (List ℕ)
    → ReaderState Row → Type 0
ReadsOn old result fields new = (input : List ℕ) (rows : List (List (List ℕ)))
    → HasRead old input rows → HasRead new input (rows ++ row_read result fields)

-- the fields are those of the record ahead, of n bytes, and the reader consumes these; n is not 0
abbrev pub TakesRecord : ReaderState Row → List (List ℕ) → ReaderState Row → Type 0
TakesRecord old fields new = (n : ℕ) × ((0 < n) × (n ≤ length old.ahead)
    × BeginsJust old.ended old.ahead fields new.ahead × (new ≡ taken_by old n))

-- the result of a call, the fields of the record, and the reader after it. With a value the record
-- ahead is consumed. Otherwise the reader is unchanged and there are no fields: the record ahead is
-- unfinished, the input is at its end, the record is malformed at the place, or memory was refused
abbrev pub ReadsNext : ReaderState Row → Result (Next (Unit {0})) RowError → List (List ℕ)
    → ReaderState Row → Type 0
ReadsNext old (Ok (Value x)) fields new = TakesRecord old fields new
ReadsNext old (Ok NeedsMore) fields new =
    IsUnfinished old.ended old.ahead × (fields ≡ []) × (new ≡ old)
ReadsNext old (Ok Done) fields new = IsThrough old × (fields ≡ []) × (new ≡ old)
ReadsNext old (Err (Damaged place)) fields new = FindsDamage old place × (fields ≡ []) × (new ≡ old)
ReadsNext old (Err (Refused e)) fields new = (fields ≡ []) × (new ≡ old)
