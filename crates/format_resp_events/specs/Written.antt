-- The bytes that events stand for.
use Rattle.std.specs.Prelude.{ℕ, List, [], ◌∷◌, ◌++◌, length, decimal}
use Rattle.std.specs.List.{flat_map}
use Rattle.std.specs.Fmt.{signed_decimal}
use Rattle.format_resp.specs.Language.{line, no_length}
use Rattle.format_resp_events.specs.declared.event.ReplyEvent.{ReplyEvent}
use Rattle.format_resp_events.specs.declared.event.ReplyEvent.TheVariants as event

-- the bytes that an event stands for: those of a reply that is no array, or the line with which an
-- array begins. The end of an array has none
abbrev pub event_written : ReplyEvent → List ℕ
event_written (event.StartArray n) = 42 ∷ line (decimal n)
event_written event.EndArray = []
event_written (event.Simple text) = 43 ∷ line text.items
event_written (event.Error text) = 45 ∷ line text.items
event_written (event.Integer n) = 58 ∷ line (signed_decimal n)
event_written (event.Bulk held) = 36 ∷ (line (decimal (length held.items)) ++ line held.items)
event_written event.NullBulk = 36 ∷ line no_length
event_written event.NullArray = 42 ∷ line no_length

-- the bytes that events stand for, one after the other
abbrev pub events_written : List ReplyEvent → List ℕ
events_written events = flat_map event_written events
