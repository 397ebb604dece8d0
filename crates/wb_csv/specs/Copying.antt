-- What was read and written of an input, and what a failure says of it.
use Rattle.std.specs.Prelude.{◌≡◌, ℕ, ◌+◌, ◌≤◌, ◌<◌, ◌^◌, true, false, List, [], ◌∷◌, ◌++◌, length, Option, IfSome, Result, Ok, Err, ◌⊎◌, ⊤}
use Rattle.std.specs.List.{flat_map}
use Rattle.std.specs.Io.KnownBytes.{Appends}
use Rattle.winnow_reader.specs.State.{ReaderState, fed_of}
use Rattle.winnow_reader.specs.Reading.{MayFollow}
use Rattle.format_csv.specs.Language.{RecordAhead}
use Rattle.format_csv.specs.Tables.{AreRecords, HasNoRecord, IsDamagedAt}
use Rattle.format_csv.specs.Marks.{HasText, IsRefused}
use Rattle.format_csv.specs.RowReader.{HasRead}
use Rattle.format_csv.specs.declared.grammar.Row.{Row}
use Rattle.format_csv.specs.declared.marks.Mark.{Mark}
use Rattle.wb_base.specs.Positions.{line_feeds, after_feed, IsPositionAfter}
use Rattle.wb_base.specs.Excerpts.{IsExcerpt}
use Rattle.wb_base.specs.declared.position.Position.{Position}
use Rattle.wb_base.specs.declared.excerpt.Excerpt.{Excerpt}
use Rattle.wb_csv.specs.Settings.{width_of, FitAll, Refuses}
use Rattle.wb_csv.specs.Lines.{line_of, exchanged_by}
use Rattle.wb_csv.specs.Failures.{fault_at}
use Rattle.wb_csv.specs.Progress.{feeds_in}
use Rattle.wb_csv.specs.declared.settings.Settings.{Settings}
use Rattle.wb_csv.specs.declared.settings.Wanted.{Wanted}
use Rattle.wb_csv.specs.declared.progress.Progress.{Progress}
use Rattle.wb_csv.specs.declared.failure.Fault.{Fault}
use Rattle.wb_csv.specs.declared.failure.Failure.{Failure}
use Rattle.wb_csv.specs.declared.failure.Failure.TheVariants.{Damaged, Uneven, Long, Marked, Stopped}

-- records as lines, one after the other
abbrev pub lines_of : Settings → List (List (List ℕ)) → List ℕ
lines_of settings rows = flat_map (line_of settings) rows

-- the bytes are these records, one after the other, of at most so many bytes each with its end,
-- and a rest
abbrev pub AreShort : ℕ → List ℕ → List (List (List ℕ)) → List ℕ → Type 0
AreShort limit bytes [] rest = bytes ≡ rest
AreShort limit bytes (row ∷ rows) rest = (more : List ℕ) × (RecordAhead false bytes row more
    × (length bytes ≤ limit + length more) × AreShort limit more rows rest)

-- the bytes are more than so many, and each record that they begin with has more
abbrev pub IsOver : ℕ → List ℕ → Type 0
IsOver limit bytes = (limit < length bytes) × ((row : List (List ℕ)) (rest : List ℕ)
    → RecordAhead false bytes row rest → limit + length rest < length bytes)

-- of this input a reader has read these records, which lack nothing and are not too long, and this
-- is kept of them; the input is not too long to be counted
pub record HasCounted (settings : Settings) (f : ReaderState Row) (progress : Progress) (input : List ℕ) (rows : List (List (List ℕ))) : Type 0 where
  pub read : HasRead f input rows
  pub short : fed_of f + 1 < 2 ^ 64
  pub feeds : progress.feeds ≡ feeds_in rows
  pub width : progress.width ≡ width_of rows
  pub fits : FitAll settings rows
  pub shorts : (more : List ℕ) → MayFollow f.ended more false
      → AreShort settings.limit (input ++ more) rows (f.ahead ++ more)

-- after these records of the input no record stands at the front, and what does is damaged at this
-- position, by this fault, and this is its line, with the delimiter back in its place
pub record BreaksAt (settings : Settings) (input : List ℕ) (rows : List (List (List ℕ))) (position : Position) (fault : Fault) (excerpt : Option Excerpt) : Type 0 where
  pub begun : List ℕ
  pub before : List ℕ
  pub rest : List ℕ
  pub reads : AreRecords input rows begun
  pub missed : HasNoRecord begun
  pub damaged : IsDamagedAt begun rest
  pub whole : input ≡ before ++ rest
  pub stands : IsPositionAfter before position
  pub names : fault ≡ fault_at settings.delimiter rest
  pub shows : IfSome excerpt (IsExcerpt (exchanged_by settings before) (exchanged_by settings rest))

-- after these records of the input one begins on this line that has this number of fields, and it
-- lacks this
pub record IsUneven (settings : Settings) (input : List ℕ) (rows : List (List (List ℕ))) (line fields : ℕ) (wanted : Wanted) : Type 0 where
  pub before : List ℕ
  pub begun : List ℕ
  pub row : List (List ℕ)
  pub rest : List ℕ
  pub reads : AreRecords input rows begun
  pub ahead : RecordAhead false begun row rest
  pub whole : input ≡ before ++ begun
  pub stands : IsPositionAfter before (record { line = line; column = 1 })
  pub has : length row ≡ fields
  pub refuses : Refuses settings (width_of rows) row wanted

-- after these records of the input one begins on this line that has more bytes than this limit,
-- which is that of the settings
pub record IsLong (settings : Settings) (input : List ℕ) (rows : List (List (List ℕ))) (line limit : ℕ) : Type 0 where
  pub before : List ℕ
  pub begun : List ℕ
  pub reads : AreRecords input rows begun
  pub whole : input ≡ before ++ begun
  pub stands : IsPositionAfter before (record { line = line; column = 1 })
  pub allowed : limit ≡ settings.limit
  pub over : IsOver limit begun

-- what a failure says of a text, after these records of it; a mark stands before a text, not in it
abbrev pub IsFailureOf : Settings → List ℕ → List (List (List ℕ)) → Failure → Type 0
IsFailureOf settings input rows (Damaged position fault excerpt) =
    BreaksAt settings input rows position fault excerpt
IsFailureOf settings input rows (Uneven line fields wanted) =
    IsUneven settings input rows line fields wanted
IsFailureOf settings input rows (Long line limit) = IsLong settings input rows line limit
IsFailureOf settings input rows (Marked mark) = ⊥
IsFailureOf settings input rows (Stopped trouble) = ⊤

-- the failure is one of the input's: memory was not refused, and neither reading nor writing failed
abbrev pub IsOfInput : Failure → Type 0
IsOfInput (Damaged position fault excerpt) = ⊤
IsOfInput (Uneven line fields wanted) = ⊤
IsOfInput (Long line limit) = ⊤
IsOfInput (Marked mark) = ⊤
IsOfInput (Stopped trouble) = ⊥

-- the failure is damage before this rest, and these bytes stand before it since the line began that
-- comes after this number of line feeds
abbrev pub IsDamageAfter : Settings → ℕ → List ℕ → List ℕ → Failure → Type 0
IsDamageAfter settings feeds before rest failure = (position : Position)
    × ((excerpt : Option Excerpt)
    × ((failure ≡ Damaged position (fault_at settings.delimiter rest) excerpt)
    × (position.line ≡ 1 + (feeds + line_feeds before)) × (position.column ≡ 1 + after_feed before)
    × IfSome excerpt (IsExcerpt (exchanged_by settings before) (exchanged_by settings rest))))

-- the failure is a record of more bytes than the settings allow, in the line after so many line
-- feeds
abbrev pub IsTooLong : Settings → ℕ → ℕ → Failure → Type 0
IsTooLong settings feeds bytes failure =
    (settings.limit < bytes) × (failure ≡ Long (feeds + 1) settings.limit)

-- some records were read of some input
abbrev pub IsBegun : Settings → ReaderState Row → Progress → Type 0
IsBegun settings f progress =
    (input : List ℕ) × ((rows : List (List (List ℕ))) × HasCounted settings f progress input rows)

-- whatever was read, some records more were read since, and their lines are this text
abbrev pub ReadsLines : Settings → ReaderState Row → Progress → ReaderState Row → Progress
    → List ℕ → Type 0
ReadsLines settings f p g q text = (input : List ℕ) (rows : List (List (List ℕ)))
    → HasCounted settings f p input rows → (more : List (List (List ℕ)))
    × (HasCounted settings g q input (rows ++ more) × (text ≡ lines_of settings more))

-- whatever was read and follows, the failure is one of the input after some records
-- more, whose lines are this text
abbrev pub StopsAfter : Settings → ReaderState Row → Progress → Failure → List ℕ → Type 0
StopsAfter settings f p failure text = IsOfInput failure → (input : List ℕ)
    (rows : List (List (List ℕ))) → HasCounted settings f p input rows
    → (more : List (List (List ℕ))) × ((text ≡ lines_of settings more)
    × ((follow : List ℕ) → MayFollow f.ended follow false
    → IsFailureOf settings (input ++ follow) (rows ++ more) failure))

-- whatever was read, some records more were read since, and their lines were written
abbrev pub WritesOn : Settings → ReaderState Row → Progress → Option (List ℕ) → ReaderState Row
    → Progress → Option (List ℕ) → Type 0
WritesOn settings f p held g q now =
    (text : List ℕ) × (ReadsLines settings f p g q text × Appends held now text)

-- the failure is one of the input after some records more, and their lines were written
abbrev pub StopsWith : Settings → ReaderState Row → Progress → Option (List ℕ) → Failure
    → Option (List ℕ) → Type 0
StopsWith settings f p held failure now = IsOfInput failure
    → (text : List ℕ) × (StopsAfter settings f p failure text × Appends held now text)

-- of these bytes, to which more may come, some records were read, and their lines were written
-- after what was held
pub record Copies (settings : Settings) (input : List ℕ) (held now : Option (List ℕ)) (f : ReaderState Row) (progress : Progress) : Type 0 where
  pub rows : List (List (List ℕ))
  pub counts : HasCounted settings f progress input rows
  pub wrote : Appends held now (lines_of settings rows)
  pub goes_on : f.ended ≡ false

-- the whole input are these records, none of which is too long, and their lines were written
abbrev pub CopiesAll : Settings → List ℕ → Option (List ℕ) → Option (List ℕ) → Type 0
CopiesAll settings input held now = (rows : List (List (List ℕ)))
    × (AreRecords input rows [] × FitAll settings rows × Appends held now (lines_of settings rows)
    × AreShort settings.limit input rows [])

-- the failure is one of the input after some records, and their lines were written
abbrev pub CopiesUntil : Settings → List ℕ → Failure → Option (List ℕ) → Option (List ℕ) → Type 0
CopiesUntil settings input failure held now = IsOfInput failure → (rows : List (List (List ℕ)))
    × (Appends held now (lines_of settings rows) × IsFailureOf settings input rows failure)

-- the text is copied whole, or until there
abbrev pub TellsText : Settings → List ℕ → Option (List ℕ) → Option (List ℕ)
    → Result (Unit {0}) Failure → Type 0
TellsText settings input held now (Ok done) = CopiesAll settings input held now
TellsText settings input held now (Err failure) = CopiesUntil settings input failure held now

-- the bytes have a text, which is copied whole; a mark of UTF-8 before it is skipped
abbrev pub CopiesBytes : Settings → List ℕ → Option (List ℕ) → Option (List ℕ) → Type 0
CopiesBytes settings bytes held now =
    (text : List ℕ) × (HasText true bytes text × CopiesAll settings text held now)

-- the input is copied, whose delimiter takes the place of the comma
abbrev pub CopiesInput : Settings → List ℕ → Option (List ℕ) → Option (List ℕ) → Type 0
CopiesInput settings input held now = CopiesBytes settings (exchanged_by settings input) held now

-- the failure is a mark for which the bytes have no text, and nothing was written; or it is one of
-- the text, which was copied until there
abbrev pub StopsBytes : Settings → List ℕ → Failure → Option (List ℕ) → Option (List ℕ) → Type 0
StopsBytes settings bytes failure held now = IsOfInput failure
    → ((mark : Mark) × ((failure ≡ Marked mark) × IsRefused true bytes mark × Appends held now []))
    ⊎ ((text : List ℕ) × (HasText true bytes text × CopiesUntil settings text failure held now))

-- the failure is one of the input, whose delimiter takes the place of the comma
abbrev pub StopsInput : Settings → List ℕ → Failure → Option (List ℕ) → Option (List ℕ) → Type 0
StopsInput settings input failure held now =
    StopsBytes settings (exchanged_by settings input) failure held now
