-- What a plain struct shows of an event of replies, and of an answer of their reader.
use Rattle.std.specs.Prelude.{◌≡◌, ℕ, ℤ, List, [], pos, length, Result, Ok, Err}
use Rattle.std.specs.Vec.{vec_ptr}
use Rattle.std.specs.Global.{Vec}
use Rattle.winnow_reader.specs.declared.next.Next.{Next}
use Rattle.winnow_reader.specs.declared.next.Next.TheVariants as next
use Rattle.format_resp.specs.declared.causes.Cause.{Cause}
use Rattle.format_resp.specs.declared.causes.Cause.TheVariants as cause
use Rattle.format_resp_events.specs.declared.event.ReplyEvent.{ReplyEvent}
use Rattle.format_resp_events.specs.declared.event.ReplyEvent.TheVariants as event
use Rattle.format_resp_events.specs.declared.event_reader.EventError.{EventError}
use Rattle.format_resp_events.specs.declared.event_reader.EventError.TheVariants as error
use Rattle.woldbraid_readers.specs.Codes.{reply_code, reply_cause_code}
use Rattle.woldbraid_readers.specs.declared.status.Status.{Status}
use Rattle.woldbraid_readers.specs.declared.status.Status.TheVariants as status
use Rattle.woldbraid_readers.specs.declared.resp_event.RespEvent.{RespEvent}
use Rattle.woldbraid_readers.specs.declared.resp_event.RespKind.{RespKind}
use Rattle.woldbraid_readers.specs.declared.resp_event.RespKind.TheVariants as kind
use Rattle.woldbraid_readers.specs.declared.resp_event.ReplyParts.{ReplyParts}

-- ---- Events

-- the kind of an event
abbrev pub kind_of : ReplyEvent → RespKind
kind_of (event.StartArray n) = kind.StartArray
kind_of event.EndArray = kind.EndArray
kind_of (event.Simple text) = kind.Simple
kind_of (event.Error text) = kind.Error
kind_of (event.Integer n) = kind.Integer
kind_of (event.Bulk held) = kind.Bulk
kind_of event.NullBulk = kind.NullBulk
kind_of event.NullArray = kind.NullArray

-- the bytes of a text or a bulk string
abbrev pub text_of : ReplyEvent → List ℕ
text_of (event.Simple text) = text.items
text_of (event.Error text) = text.items
text_of (event.Bulk held) = held.items
text_of other = []

-- the integer, or 0
abbrev pub integer_of : ReplyEvent → ℤ
integer_of (event.Integer n) = n
integer_of other = pos 0

-- how many replies the array has that begins, or 0
abbrev pub count_of : ReplyEvent → ℕ
count_of (event.StartArray n) = n
count_of other = 0

-- ---- Answers

-- the status of a cause
abbrev pub cause_status : Cause → Status
cause_status cause.EndsInside = status.EndsEarly
cause_status cause.TooDeep = status.TooDeep
cause_status other = status.Damaged

-- the status of an error
abbrev pub reply_status : EventError → Status
reply_status (error.Damaged place why) = cause_status why
reply_status (error.Refused refused) = status.Refused

-- the place of an error; 0 where it has none
abbrev pub reply_place : EventError → ℕ
reply_place (error.Damaged place why) = place
reply_place (error.Refused refused) = 0

-- the number of the cause of an error; 0 where it has none
abbrev pub reply_cause : EventError → ℕ
reply_cause (error.Damaged place why) = reply_cause_code why
reply_cause (error.Refused refused) = 0

-- ---- The plain struct

-- these bytes are lent: they are kept, and the struct has their address and their number
abbrev pub LendsText : List ℕ → RespEvent → Vec ℕ → Type 0
LendsText text shown lent = (lent.items ≡ text) × (shown.text ≡ vec_ptr lent)
    × (shown.length ≡ length text)

-- the struct has this integer and this count
abbrev pub HasNumbers : ℤ → ℕ → RespEvent → Type 0
HasNumbers n count shown = (shown.integer ≡ n) × (shown.count ≡ count)

-- the struct says that there is no error
abbrev pub HasNoFault : RespEvent → Type 0
HasNoFault shown = (shown.place ≡ 0) × (shown.cause ≡ 0)

-- the struct shows what is kept of an event, and no error
abbrev pub ShowsParts : ReplyParts → RespEvent → Vec ℕ → Type 0
ShowsParts parts shown lent = (shown.kind ≡ reply_code parts.kind)
    × LendsText parts.text.items shown lent
    × HasNumbers parts.integer parts.count shown × HasNoFault shown

-- the struct shows an event
abbrev pub ShowsReplyEvent : ReplyEvent → RespEvent → Vec ℕ → Type 0
ShowsReplyEvent e shown lent = (shown.kind ≡ reply_code (kind_of e))
    × LendsText (text_of e) shown lent
    × HasNumbers (integer_of e) (count_of e) shown × HasNoFault shown

-- the struct shows no event, and lends nothing
abbrev pub ShowsNoReply : RespEvent → Vec ℕ → Type 0
ShowsNoReply shown lent =
    (shown.kind ≡ 0) × LendsText [] shown lent × HasNumbers (pos 0) 0 shown

-- the status and the struct say what the reader of events answered
abbrev pub TellsReply : Result (Next ReplyEvent) EventError → Status → RespEvent → Vec ℕ → Type 0
TellsReply (Ok (next.Value e)) s shown lent = (s ≡ status.Ok) × ShowsReplyEvent e shown lent
TellsReply (Ok next.NeedsMore) s shown lent =
    (s ≡ status.NeedsMore) × ShowsNoReply shown lent × HasNoFault shown
TellsReply (Ok next.Done) s shown lent =
    (s ≡ status.Done) × ShowsNoReply shown lent × HasNoFault shown
TellsReply (Err e) s shown lent = (s ≡ reply_status e) × ShowsNoReply shown lent
    × (shown.place ≡ reply_place e) × (shown.cause ≡ reply_cause e)
