-- What the calls of a reader of replies make of it.
use Rattle.std.specs.Prelude.{◌≡◌, ℕ, ◌+◌, ◌≤◌, ◌<◌, ◌^◌, true, false, List, [], length, Result}
use Rattle.winnow_reader.specs.State.{fed_of}
use Rattle.winnow_reader.specs.declared.next.Next.{Next}
use Rattle.format_resp_events.specs.Reading.{events_pushed, events_unspent, next_events, GivesAlso, GivesOn, KeepsLimits, IsNext}
use Rattle.format_resp_events.specs.declared.event.ReplyEvent.{ReplyEvent}
use Rattle.format_resp_events.specs.declared.event_reader.EventError.{EventError}
use Rattle.woldbraid_readers.specs.RespEvents.{TellsReply}
use Rattle.woldbraid_readers.specs.declared.status.Status.{Status}
use Rattle.woldbraid_readers.specs.declared.status.Status.TheVariants as status
use Rattle.woldbraid_readers.specs.declared.resp_event.RespEvent.{RespEvent}
use Rattle.woldbraid_readers.specs.declared.resp_reader.RespReader.{RespReader}

-- all but the reader of events is the same
abbrev pub KeepsReply : RespReader → RespReader → Type 0
KeepsReply old new = (new.lent ≡ old.lent) × (new.kept ≡ old.kept)

-- ---- A piece

-- nothing was pushed, and no event was given: at most the bytes are dropped that events took
abbrev pub PushesNothing : RespReader → RespReader → Type 0
PushesNothing old new = KeepsReply old new × GivesOn old.reader [] new.reader
    × (events_unspent new.reader ≡ events_unspent old.reader)

-- why nothing was pushed
abbrev pub IsRefusedPush : RespReader → List ℕ → Status → Type 0
IsRefusedPush old piece status.Full = old.kept < length old.reader.replies.ahead
IsRefusedPush old piece status.Ended = old.reader.replies.ended ≡ true
IsRefusedPush old piece status.TooLong = 2 ^ 64 ≤ fed_of old.reader.replies + length piece
IsRefusedPush old piece status.Refused = old.reader.replies.ended ≡ false
IsRefusedPush old piece other = ⊥

-- the piece was pushed, and no event was given; or nothing was, for the reason of the status
abbrev pub PushesReplies : RespReader → List ℕ → Status → RespReader → Type 0
PushesReplies old piece status.Ok new = KeepsReply old new
    × (length old.reader.replies.ahead ≤ old.kept)
    × (new.reader ≡ events_pushed old.reader piece) × GivesAlso old.reader piece new.reader
PushesReplies old piece s new = PushesNothing old new × IsRefusedPush old piece s

-- ---- An event

-- the reader of events answered this, and the status and the struct say so
pub record AnswersReply (old : RespReader) (answer : Result (Next ReplyEvent) EventError) (s : Status) (shown : RespEvent) (new : RespReader) : Type 0 where
  pub gives : GivesOn old.reader (next_events answer) new.reader
  pub keeps : KeepsLimits old.reader new.reader
  pub next : IsNext old.reader answer new.reader
  pub kept : new.kept ≡ old.kept
  pub tells : TellsReply answer s shown new.lent

-- the reader of events answered something, and the status and the struct say so
abbrev pub GivesReplyEvent : RespReader → Status → RespEvent → RespReader → Type 0
GivesReplyEvent old s shown new =
    (answer : Result (Next ReplyEvent) EventError) × AnswersReply old answer s shown new
