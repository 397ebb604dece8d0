-- What a plain struct shows of an event, and of an answer of the reader of events.
use Rattle.std.specs.Prelude.{◌≡◌, ℕ, ℤ, true, false, List, [], pos, length, Option, Some, None, Result, Ok, Err}
use Rattle.std.specs.String.{string_bytes}
use Rattle.std.specs.Vec.{vec_ptr}
use Rattle.std.specs.Global.{Vec}
use Rattle.winnow_reader.specs.declared.next.Next.{Next}
use Rattle.winnow_reader.specs.declared.next.Next.TheVariants as next
use Rattle.format_json_events.specs.declared.event_reader.Event.{Event}
use Rattle.format_json_events.specs.declared.event_reader.Event.TheVariants as event
use Rattle.format_json_events.specs.declared.event_reader.EventError.{EventError}
use Rattle.format_json_events.specs.declared.event_reader.EventError.TheVariants as error
use Rattle.woldbraid_readers.specs.Codes.{kind_code, cause_code}
use Rattle.woldbraid_readers.specs.declared.status.Status.{Status}
use Rattle.woldbraid_readers.specs.declared.status.Status.TheVariants as status
use Rattle.woldbraid_readers.specs.declared.json_event.JsonEvent.{JsonEvent}
use Rattle.woldbraid_readers.specs.declared.json_event.JsonKind.{JsonKind}
use Rattle.woldbraid_readers.specs.declared.json_event.JsonKind.TheVariants as kind
use Rattle.woldbraid_readers.specs.declared.json_event.Parts.{Parts}

-- ---- Events

-- the kind of an event
abbrev pub kind_of : Event → JsonKind
kind_of event.StartArray = kind.StartArray
kind_of event.EndArray = kind.EndArray
kind_of event.StartObject = kind.StartObject
kind_of event.EndObject = kind.EndObject
kind_of (event.Key name) = kind.Key
kind_of event.Null = kind.Null
kind_of (event.Bool false) = kind.False
kind_of (event.Bool true) = kind.True
kind_of (event.Number number) = kind.Number
kind_of (event.String value) = kind.String

-- the text of an event: that of a name, a number or a string
abbrev pub text_of : Event → List ℕ
text_of (event.Key name) = string_bytes name
text_of (event.Number number) = number.text.items
text_of (event.String value) = string_bytes value
text_of other = []

-- the integer of an event: that of a number, if it is one
abbrev pub integer_of : Event → Option ℤ
integer_of (event.Number number) = number.integer
integer_of other = None

-- ---- Answers

-- the status of an error
abbrev pub error_status : EventError → Status
error_status (error.Damaged place cause) = status.Damaged
error_status (error.Unexpected place) = status.Unexpected
error_status (error.TooDeep place) = status.TooDeep
error_status (error.EndsEarly place) = status.EndsEarly
error_status (error.Refused refused) = status.Refused

-- the place of an error; 0 where it has none
abbrev pub error_place : EventError → ℕ
error_place (error.Damaged place cause) = place
error_place (error.Unexpected place) = place
error_place (error.TooDeep place) = place
error_place (error.EndsEarly place) = place
error_place (error.Refused refused) = 0

-- the number of the cause of an error; 0 where it has none
abbrev pub error_cause : EventError → ℕ
error_cause (error.Damaged place cause) = cause_code cause
error_cause other = 0

-- ---- The plain struct

-- these bytes are lent: they are kept, and the struct has their address and their number
abbrev pub Lends : List ℕ → JsonEvent → Vec ℕ → Type 0
Lends text shown lent = (lent.items ≡ text) × (shown.text ≡ vec_ptr lent)
    × (shown.length ≡ length text)

-- the struct has this integer, or says that there is none
abbrev pub HasInteger : Option ℤ → JsonEvent → Type 0
HasInteger None shown = (shown.has_integer ≡ false) × (shown.integer ≡ pos 0)
HasInteger (Some n) shown = (shown.has_integer ≡ true) × (shown.integer ≡ n)

-- the struct says that there is no error
abbrev pub HasNoError : JsonEvent → Type 0
HasNoError shown = (shown.place ≡ 0) × (shown.cause ≡ 0)

-- the struct shows what is kept of an event, and no error
abbrev pub Shows : Parts → JsonEvent → Vec ℕ → Type 0
Shows parts shown lent = (shown.kind ≡ kind_code parts.kind) × Lends parts.text.items shown lent
    × HasInteger parts.integer shown × HasNoError shown

-- the struct shows an event
abbrev pub ShowsEvent : Event → JsonEvent → Vec ℕ → Type 0
ShowsEvent e shown lent = (shown.kind ≡ kind_code (kind_of e)) × Lends (text_of e) shown lent
    × HasInteger (integer_of e) shown × HasNoError shown

-- the struct shows no event, and lends nothing
abbrev pub ShowsNone : JsonEvent → Vec ℕ → Type 0
ShowsNone shown lent =
    (shown.kind ≡ 0) × Lends [] shown lent × HasInteger None shown

-- the status and the struct say what the reader of events answered
abbrev pub TellsAnswer : Result (Next Event) EventError → Status → JsonEvent → Vec ℕ → Type 0
TellsAnswer (Ok (next.Value e)) s shown lent = (s ≡ status.Ok) × ShowsEvent e shown lent
TellsAnswer (Ok next.NeedsMore) s shown lent =
    (s ≡ status.NeedsMore) × ShowsNone shown lent × HasNoError shown
TellsAnswer (Ok next.Done) s shown lent =
    (s ≡ status.Done) × ShowsNone shown lent × HasNoError shown
TellsAnswer (Err e) s shown lent = (s ≡ error_status e) × ShowsNone shown lent
    × (shown.place ≡ error_place e) × (shown.cause ≡ error_cause e)
