-- What the calls of a JSON reader make of it.
use Rattle.std.specs.Prelude.{◌≡◌, ℕ, ◌+◌, ◌≤◌, ◌<◌, ◌^◌, true, false, List, [], length, Some, None, Result, Err}
use Rattle.winnow_reader.specs.State.{fed_of}
use Rattle.winnow_reader.specs.declared.next.Next.{Next}
use Rattle.format_json_events.specs.Reading.{events_pushed, events_unspent, next_events, GivesAlso, GivesOn, KeepsLimits, IsNext}
use Rattle.format_json_events.specs.declared.event_reader.Event.{Event}
use Rattle.format_json_events.specs.declared.event_reader.EventError.{EventError}
use Rattle.woldbraid_readers.specs.Events.{TellsAnswer}
use Rattle.woldbraid_readers.specs.declared.status.Status.{Status}
use Rattle.woldbraid_readers.specs.declared.status.Status.TheVariants as status
use Rattle.woldbraid_readers.specs.declared.json_event.JsonEvent.{JsonEvent}
use Rattle.woldbraid_readers.specs.declared.json_reader.JsonReader.{JsonReader}

-- all but the reader of events is the same
abbrev pub KeepsRest : JsonReader → JsonReader → Type 0
KeepsRest old new = (new.lent ≡ old.lent) × (new.kept ≡ old.kept)

-- ---- A piece

-- nothing was pushed, and no event was given: at most the bytes are dropped that tokens took
abbrev pub PushesNothing : JsonReader → JsonReader → Type 0
PushesNothing old new = KeepsRest old new × GivesOn old.reader [] new.reader
    × (events_unspent new.reader ≡ events_unspent old.reader)

-- why nothing was pushed
abbrev pub IsRefusedPush : JsonReader → List ℕ → Status → Type 0
IsRefusedPush old piece status.Full = old.kept < length old.reader.tokens.ahead
IsRefusedPush old piece status.Ended = old.reader.tokens.ended ≡ true
IsRefusedPush old piece status.TooLong = 2 ^ 64 ≤ fed_of old.reader.tokens + length piece
IsRefusedPush old piece status.Refused = old.reader.tokens.ended ≡ false
IsRefusedPush old piece other = ⊥

-- the piece was pushed, and no event was given; or nothing was, for the reason of the status
abbrev pub Pushes : JsonReader → List ℕ → Status → JsonReader → Type 0
Pushes old piece status.Ok new = KeepsRest old new × (length old.reader.tokens.ahead ≤ old.kept)
    × (new.reader ≡ events_pushed old.reader piece) × GivesAlso old.reader piece new.reader
Pushes old piece s new = PushesNothing old new × IsRefusedPush old piece s

-- ---- An event

-- the reader of events answered this, and the status and the struct say so
pub record Answers (old : JsonReader) (answer : Result (Next Event) EventError) (s : Status) (shown : JsonEvent) (new : JsonReader) : Type 0 where
  pub gives : GivesOn old.reader (next_events answer) new.reader
  pub keeps : KeepsLimits old.reader new.reader
  pub stopped : (e : EventError) → old.reader.stopped ≡ Some e
      → (answer ≡ Err e) × (new.reader ≡ old.reader)
  pub next : old.reader.stopped ≡ None → IsNext old.reader answer new.reader
  pub kept : new.kept ≡ old.kept
  pub tells : TellsAnswer answer s shown new.lent

-- the reader of events answered something, and the status and the struct say so
abbrev pub GivesEvent : JsonReader → Status → JsonEvent → JsonReader → Type 0
GivesEvent old s shown new =
    (answer : Result (Next Event) EventError) × Answers old answer s shown new
