-- What a call makes of a reader of any format.
use Rattle.std.specs.Prelude.{◌≡◌, ℕ, List, [], length}
use Rattle.winnow_reader.specs.State.{fed_of, bytes_kept}
use Rattle.format_json_events.specs.Reading.{events_ended, GivesOn}
use Rattle.woldbraid_readers.specs.Calls.{Pushes, KeepsRest, GivesEvent}
use Rattle.winnow_reader.specs.State.{ended_after}
use Rattle.format_csv.specs.RowReader.{ReadsThrough}
use Rattle.woldbraid_readers.specs.CsvCalls.{PushesRecords, KeepsRecord, GivesRecord}
use Rattle.format_resp_events.specs.Reading.{events_ended as replies_ended, GivesOn as GivesReplies}
use Rattle.woldbraid_readers.specs.RespCalls.{PushesReplies, KeepsReply, GivesReplyEvent}
use Rattle.woldbraid_readers.specs.declared.status.Status.{Status}
use Rattle.woldbraid_readers.specs.declared.status.Status.TheVariants as status
use Rattle.woldbraid_readers.specs.declared.csv_record.CsvRecord.{CsvRecord}
use Rattle.woldbraid_readers.specs.declared.json_event.JsonEvent.{JsonEvent}
use Rattle.woldbraid_readers.specs.declared.resp_event.RespEvent.{RespEvent}
use Rattle.woldbraid_readers.specs.declared.kept.Kept.{Kept}
use Rattle.woldbraid_readers.specs.declared.kept.Kept.TheVariants as kept

-- the piece was pushed, or nothing was, for the reason of the status
abbrev pub PushesKept : Kept → List ℕ → Status → Kept → Type 0
PushesKept (kept.Json old) piece s (kept.Json new) = Pushes old piece s new
PushesKept (kept.Csv old) piece s (kept.Csv new) = PushesRecords old piece s new
PushesKept (kept.Resp old) piece s (kept.Resp new) = PushesReplies old piece s new
PushesKept old piece s new = ⊥

-- nothing more follows, and no event was given
abbrev pub EndsKept : Kept → Kept → Type 0
EndsKept (kept.Json old) (kept.Json new) = KeepsRest old new
    × (new.reader ≡ events_ended old.reader) × GivesOn old.reader [] new.reader
EndsKept (kept.Csv old) (kept.Csv new) = KeepsRecord old new
    × (new.reader ≡ ended_after old.reader) × ReadsThrough old.reader new.reader
EndsKept (kept.Resp old) (kept.Resp new) = KeepsReply old new
    × (new.reader ≡ replies_ended old.reader) × GivesReplies old.reader [] new.reader
EndsKept old new = ⊥

-- the reader of events answered something, and the status and the struct say so
abbrev pub ReadsEvent : Kept → Status → JsonEvent → Kept → Type 0
ReadsEvent (kept.Json old) s shown (kept.Json new) = GivesEvent old s shown new
ReadsEvent (kept.Json old) s shown (kept.Csv new) = ⊥
ReadsEvent (kept.Json old) s shown (kept.Resp new) = ⊥
ReadsEvent (kept.Csv old) s shown new = (s ≡ status.OtherFormat) × (new ≡ kept.Csv old)
ReadsEvent (kept.Resp old) s shown new = (s ≡ status.OtherFormat) × (new ≡ kept.Resp old)

-- the reader of records answered something, and the status and the struct say so
abbrev pub ReadsRow : Kept → Status → CsvRecord → Kept → Type 0
ReadsRow (kept.Csv old) s shown (kept.Csv new) = GivesRecord old s shown new
ReadsRow (kept.Csv old) s shown (kept.Json new) = ⊥
ReadsRow (kept.Csv old) s shown (kept.Resp new) = ⊥
ReadsRow (kept.Json old) s shown new = (s ≡ status.OtherFormat) × (new ≡ kept.Json old)
ReadsRow (kept.Resp old) s shown new = (s ≡ status.OtherFormat) × (new ≡ kept.Resp old)

-- the reader of replies answered something, and the status and the struct say so
abbrev pub ReadsReply : Kept → Status → RespEvent → Kept → Type 0
ReadsReply (kept.Resp old) s shown (kept.Resp new) = GivesReplyEvent old s shown new
ReadsReply (kept.Resp old) s shown (kept.Json new) = ⊥
ReadsReply (kept.Resp old) s shown (kept.Csv new) = ⊥
ReadsReply (kept.Json old) s shown new = (s ≡ status.OtherFormat) × (new ≡ kept.Json old)
ReadsReply (kept.Csv old) s shown new = (s ≡ status.OtherFormat) × (new ≡ kept.Csv old)

-- the length of the joined input
abbrev pub fed_kept : Kept → ℕ
fed_kept (kept.Json r) = fed_of r.reader.tokens
fed_kept (kept.Csv r) = fed_of r.reader
fed_kept (kept.Resp r) = fed_of r.reader.replies

-- how many bytes of it are kept
abbrev pub held_kept : Kept → ℕ
held_kept (kept.Json r) = bytes_kept r.reader.tokens
held_kept (kept.Csv r) = bytes_kept r.reader
held_kept (kept.Resp r) = bytes_kept r.reader.replies

-- how many bytes of it were read
abbrev pub place_kept : Kept → ℕ
place_kept (kept.Json r) = r.reader.tokens.place
place_kept (kept.Csv r) = r.reader.place
place_kept (kept.Resp r) = r.reader.replies.place

-- how many arrays and objects are open
abbrev pub level_kept : Kept → ℕ
level_kept (kept.Json r) = length r.reader.text.open_brackets
level_kept (kept.Csv r) = 0
level_kept (kept.Resp r) = length r.reader.open_arrays
