-- What was read and written of an input, and what a failure says of it.
use Rattle.std.specs.Prelude.{◌≡◌, ◌≢◌, ℕ, ◌+◌, ◌<◌, ◌^◌, Bool, false, List, [], ◌∷◌, ◌++◌, length, Option, None, Some, vec_len, Result, Ok, Err, ◌⊎◌, ⊤}
use Rattle.std.specs.List.{flat_map, sum_by}
use Rattle.std.specs.Io.KnownBytes.{Appends}
use Rattle.winnow.specs.State.{ReaderState, fed_of}
use Rattle.winnow.specs.Reading.{MayFollow, HasRead}
use Rattle.format_csv.specs.Language.{RecordAhead}
use Rattle.format_csv.specs.Answers.{values_of}
use Rattle.format_csv.specs.Widths.{RowVec, first_width, HaveWidth}
use Rattle.format_csv.specs.Tables.{rows_in, AreRecords, HasNoRecord, IsDamagedAt}
use Rattle.format_csv.specs.Reading.{RowInPieces}
use Rattle.format_csv.specs.Marks.{HasText, IsRefused}
use Rattle.format_csv.specs.declared.marks.Mark.{Mark}
use Rattle.example_csv.specs.Positions.{line_feeds, after_feed, IsPositionAfter, feeds_of}
use Rattle.example_csv.specs.Lines.{line_of}
use Rattle.example_csv.specs.Failures.{fault_at}
use Rattle.example_csv.specs.declared.positions.Position.{Position}
use Rattle.example_csv.specs.declared.failure.Fault.{Fault}
use Rattle.example_csv.specs.declared.failure.Failure.{Failure}
use Rattle.example_csv.specs.declared.failure.Failure.TheVariants.{Damaged, Uneven, Marked, Stopped}
use Rattle.example_csv.specs.declared.progress.Progress.{Progress}

-- records as lines, one after the other
abbrev pub lines_of : List RowVec → List ℕ
lines_of rows = flat_map (λ row. line_of (values_of row)) rows

-- how many line feeds records take
abbrev pub feeds_in : List RowVec → ℕ
feeds_in rows = sum_by (λ row. feeds_of row.items) rows

-- the number of fields of the first record, if there is one
abbrev pub width_of : List RowVec → Option ℕ
width_of [] = None
width_of (row ∷ rows) = Some (vec_len row)

-- of this input a reader has read these records, which all have the same number of fields, and this
-- is kept of them; the input is not too long to be counted
pub record HasCounted {R : Type 0} (f : ReaderState R) (progress : Progress) (input : List ℕ) (rows : List RowVec) : Type 0 where
  pub read : HasRead (λ r. RowInPieces) f input rows
  pub fed : fed_of f ≡ length input
  pub fits : fed_of f + 1 < 2 ^ 64
  pub feeds : progress.feeds ≡ feeds_in rows
  pub width : progress.width ≡ width_of rows
  pub even : HaveWidth (first_width rows) rows

-- after these records of the input no record stands at the front, and what does is damaged at this
-- position, by this fault
pub record BreaksAt (input : List ℕ) (rows : List RowVec) (position : Position) (fault : Fault) : Type 0 where
  pub begun : List ℕ
  pub before : List ℕ
  pub rest : List ℕ
  pub reads : AreRecords input (rows_in rows) begun
  pub missed : HasNoRecord begun
  pub damaged : IsDamagedAt begun rest
  pub whole : input ≡ before ++ rest
  pub stands : IsPositionAfter before position
  pub names : fault ≡ fault_at rest

-- after these records of the input one begins on this line that has this number of fields, and the
-- first record has another
pub record IsUneven (input : List ℕ) (rows : List RowVec) (line fields first : ℕ) : Type 0 where
  pub before : List ℕ
  pub begun : List ℕ
  pub row : RowVec
  pub rest : List ℕ
  pub reads : AreRecords input (rows_in rows) begun
  pub ahead : RecordAhead false begun (values_of row) rest
  pub whole : input ≡ before ++ begun
  pub stands : IsPositionAfter before (record { line = line; column = 1 })
  pub has : vec_len row ≡ fields
  pub had : width_of rows ≡ Some first
  pub differs : fields ≢ first

-- what a failure says of a text, after these records of it; a mark stands before a text, not in it
abbrev pub IsFailureOf : List ℕ → List RowVec → Failure → Type 0
IsFailureOf input rows (Damaged position fault) = BreaksAt input rows position fault
IsFailureOf input rows (Uneven line fields first) = IsUneven input rows line fields first
IsFailureOf input rows (Marked mark) = ⊥
IsFailureOf input rows (Stopped trouble) = ⊤

-- the failure is one of the input's: memory was not refused, and neither reading nor writing failed
abbrev pub IsOfInput : Failure → Type 0
IsOfInput (Damaged position fault) = ⊤
IsOfInput (Uneven line fields first) = ⊤
IsOfInput (Marked mark) = ⊤
IsOfInput (Stopped trouble) = ⊥

-- the other number of fields fits what is kept: it is that of the first record, if there was one
abbrev pub FitsWidth : Option ℕ → ℕ → Type 0
FitsWidth None fields = ⊤
FitsWidth (Some first) fields = fields ≡ first

-- a record of this number of fields is another than the first, and the failure says so
abbrev pub IsOtherWidth : Progress → ℕ → Failure → Type 0
IsOtherWidth progress fields failure = (first : ℕ) × ((progress.width ≡ Some first)
    × (fields ≢ first) × (failure ≡ Uneven (progress.feeds + 1) fields first))

-- the failure is damage before this rest, which these bytes counts before since the line began that
-- comes after this number of line feeds
abbrev pub IsDamageAfter : ℕ → List ℕ → List ℕ → Failure → Type 0
IsDamageAfter feeds before rest failure = (position : Position) × ((failure ≡ Damaged position (fault_at rest))
    × (position.line ≡ 1 + (feeds + line_feeds before)) × (position.column ≡ 1 + after_feed before))

module _ {R : Type 0} where
  -- some records were read of some input
  abbrev pub IsBegun : ReaderState R → Progress → Type 0
  IsBegun f progress = (input : List ℕ) × ((rows : List RowVec) × HasCounted f progress input rows)

  -- no matter what was read, some records more were read since, and these were written
  abbrev pub WritesOn : ReaderState R → Progress → Option (List ℕ)
      → ReaderState R → Progress → Option (List ℕ) → Type 0
  WritesOn f p held g q now = (input : List ℕ) (rows : List RowVec) → HasCounted f p input rows
      → (more : List RowVec) × (HasCounted g q input (rows ++ more) × Appends held now (lines_of more))

  -- no matter what was read and what follows, the failure is one of the input after some records
  -- more, and these were written
  abbrev pub StopsWith : ReaderState R → Progress → Option (List ℕ)
      → Failure → Option (List ℕ) → Type 0
  StopsWith f p held failure now = IsOfInput failure → (input : List ℕ) (rows : List RowVec)
      → HasCounted f p input rows → (more : List RowVec) × (Appends held now (lines_of more)
      × ((follow : List ℕ) → MayFollow f.ended follow false
      → IsFailureOf (input ++ follow) (rows ++ more) failure))

-- of these bytes, to which more may come, some records were read, and their lines were written
-- after what was held
pub record Copies {R : Type 0} (input : List ℕ) (held now : Option (List ℕ)) (f : ReaderState R) (progress : Progress) : Type 0 where
  pub rows : List RowVec
  pub counts : HasCounted f progress input rows
  pub wrote : Appends held now (lines_of rows)
  pub goes_on : f.ended ≡ false

-- the whole input are these records, all with the same number of fields, and they were written
abbrev pub CopiesAll : List ℕ → Option (List ℕ) → Option (List ℕ) → Type 0
CopiesAll input held now = (rows : List RowVec) × (AreRecords input (rows_in rows) []
    × HaveWidth (first_width rows) rows × Appends held now (lines_of rows))

-- the failure is one of the input after some records, and these were written
abbrev pub CopiesUntil : List ℕ → Failure → Option (List ℕ) → Option (List ℕ) → Type 0
CopiesUntil input failure held now = IsOfInput failure → (rows : List RowVec)
    × (Appends held now (lines_of rows) × IsFailureOf input rows failure)

-- the text is copied whole, or until there
abbrev pub TellsText : List ℕ → Option (List ℕ) → Option (List ℕ) → Result (Unit {0}) Failure
    → Type 0
TellsText input held now (Ok done) = CopiesAll input held now
TellsText input held now (Err failure) = CopiesUntil input failure held now

-- the input has a text, which is copied whole
abbrev pub CopiesInput : Bool → List ℕ → Option (List ℕ) → Option (List ℕ) → Type 0
CopiesInput skips input held now = (text : List ℕ) × (HasText skips input text × CopiesAll text held now)

-- the failure is a mark for which the input has no text, and nothing was written; or it is one of
-- the text, which was copied until there
abbrev pub StopsInput : Bool → List ℕ → Failure → Option (List ℕ) → Option (List ℕ) → Type 0
StopsInput skips input failure held now = IsOfInput failure
    → ((mark : Mark) × ((failure ≡ Marked mark) × IsRefused skips input mark × Appends held now []))
    ⊎ ((text : List ℕ) × (HasText skips input text × CopiesUntil text failure held now))
