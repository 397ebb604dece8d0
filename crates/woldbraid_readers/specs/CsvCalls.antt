-- What the calls of a reader of comma-separated values make of it.
use Rattle.std.specs.Prelude.{◌≡◌, ℕ, ◌+◌, ◌≤◌, ◌<◌, ◌^◌, true, false, List, length, Result, Ok, Err}
use Rattle.csv.specs.Records.{fields_of}
use Rattle.winnow_reader.specs.State.{pushed, unspent, fed_of}
use Rattle.winnow_reader.specs.declared.next.Next.{Next}
use Rattle.winnow_reader.specs.declared.next.Next.TheVariants as next
use Rattle.format_csv.specs.RowReader.{ReadsAlso, ReadsOn, ReadsNext}
use Rattle.format_csv.specs.declared.row_reader.RowError.{RowError}
use Rattle.format_csv.specs.declared.row_reader.RowError.TheVariants as error
use Rattle.woldbraid_readers.specs.Records.{ShowsFields, ShowsNoRecord}
use Rattle.woldbraid_readers.specs.declared.status.Status.{Status}
use Rattle.woldbraid_readers.specs.declared.status.Status.TheVariants as status
use Rattle.woldbraid_readers.specs.declared.csv_record.CsvRecord.{CsvRecord}
use Rattle.woldbraid_readers.specs.declared.csv_reader.CsvReader.{CsvReader}

-- the record that was read last, whether it waits, and the limit are the same
abbrev pub KeepsRecord : CsvReader → CsvReader → Type 0
KeepsRecord old new = (new.row ≡ old.row) × (new.waits ≡ old.waits) × (new.kept ≡ old.kept)

-- the piece was pushed; or nothing was, for the reason of the status
abbrev pub PushesRecords : CsvReader → List ℕ → Status → CsvReader → Type 0
PushesRecords old piece status.Ok new = KeepsRecord old new
    × (length old.reader.ahead ≤ old.kept) × (new.reader ≡ pushed old.reader piece)
    × ReadsAlso old.reader piece new.reader
PushesRecords old piece status.Full new = (new ≡ old) × (old.kept < length old.reader.ahead)
PushesRecords old piece status.Ended new = (new ≡ old) × (old.reader.ended ≡ true)
PushesRecords old piece status.TooLong new =
    (new ≡ old) × (2 ^ 64 ≤ fed_of old.reader + length piece)
PushesRecords old piece status.Refused new =
    KeepsRecord old new × (new.reader ≡ unspent old.reader)
PushesRecords old piece other new = ⊥

-- the fields were lent; or memory was refused, and their record waits
abbrev pub TellsFields : List (List ℕ) → Status → CsvRecord → CsvReader → Type 0
TellsFields fields status.Ok shown new =
    (new.waits ≡ false) × ShowsFields fields shown new.text new.ends
TellsFields fields status.Refused shown new =
    (new.waits ≡ true) × (fields_of new.row ≡ fields) × ShowsNoRecord 0 shown
TellsFields fields other shown new = ⊥

-- no record was read, and none waits
abbrev pub TellsNone : ℕ → CsvRecord → CsvReader → Type 0
TellsNone place shown new = (new.waits ≡ false) × ShowsNoRecord place shown

-- the status and the struct say what the reader of records answered, with these fields
abbrev pub TellsAnswer : Result (Next (Unit {0})) RowError → List (List ℕ) → Status
    → CsvRecord → CsvReader → Type 0
TellsAnswer (Ok (next.Value x)) fields s shown new = TellsFields fields s shown new
TellsAnswer (Ok next.NeedsMore) fields s shown new =
    (s ≡ status.NeedsMore) × TellsNone 0 shown new
TellsAnswer (Ok next.Done) fields s shown new = (s ≡ status.Done) × TellsNone 0 shown new
TellsAnswer (Err (error.Damaged place)) fields s shown new =
    (s ≡ status.Damaged) × TellsNone place shown new
TellsAnswer (Err (error.Refused e)) fields s shown new =
    (s ≡ status.Refused) × TellsNone 0 shown new

-- the reader of records answered this, and the status and the struct say so
pub record AnswersRecord (old : CsvReader) (answer : Result (Next (Unit {0})) RowError) (fields : List (List ℕ)) (s : Status) (shown : CsvRecord) (new : CsvReader) : Type 0 where
  pub reads : ReadsOn old.reader answer fields new.reader
  pub next : ReadsNext old.reader answer fields new.reader
  pub kept : new.kept ≡ old.kept
  pub tells : TellsAnswer answer fields s shown new

-- the reader of records answered something
abbrev pub ReadsRecord : CsvReader → Status → CsvRecord → CsvReader → Type 0
ReadsRecord old s shown new = (answer : Result (Next (Unit {0})) RowError)
    × ((fields : List (List ℕ)) × AnswersRecord old answer fields s shown new)

-- the record that waited was lent, or waits on
abbrev pub LendsWaiting : CsvReader → Status → CsvRecord → CsvReader → Type 0
LendsWaiting old s shown new = (new.reader ≡ old.reader) × (new.kept ≡ old.kept)
    × TellsFields (fields_of old.row) s shown new

-- the record that waited was lent, if one did; else the reader of records answered something
abbrev pub GivesRecord : CsvReader → Status → CsvRecord → CsvReader → Type 0
GivesRecord old s shown new = (old.waits ≡ true → LendsWaiting old s shown new)
    × (old.waits ≡ false → ReadsRecord old s shown new)
