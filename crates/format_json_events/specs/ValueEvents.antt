-- The events of a value, and what a reader gives of them.
use Rattle.std.specs.Prelude.{◌≡◌, ℕ, false, List, [], ◌∷◌, ◌++◌, ⊤}
use Rattle.std.specs.List.{flat_map}
use Rattle.std.specs.String.{string_bytes}
use Rattle.std.specs.declared.string.String.{String}
use Rattle.std.specs.declared.alloc.Global.{Global}
use Rattle.winnow_reader.specs.Reading.{MayFollow}
use Rattle.format_json.specs.Documents.{IsDocument}
use Rattle.format_json.specs.SameValues.{SameAll}
use Rattle.format_json_events.specs.Reading.{EventState, HasGiven}
use Rattle.format_json_events.specs.declared.event_reader.Event.{Event}
use Rattle.format_json_events.specs.declared.event_reader.Event.TheVariants as event
use Rattle.format_json_events.specs.declared.event_reader.EventError.{EventError}
use Rattle.format_json_events.specs.declared.event_reader.EventError.TheVariants as error
use Rattle.format_json.specs.declared.value.Value.{Value}
use Rattle.format_json.specs.declared.value.Value.TheOpen as open_value
use Rattle.format_json.specs.declared.value.Value.TheOpen.{Value-F, Null}
use Rattle.format_json.specs.declared.value.Value.TheFolds.{fold-Value}

-- ---- The events of a value

-- a member: its name, and the events of its value
abbrev pub member_events : String Global × List Event → List Event
member_events member = event.Key member.0 ∷ member.1

-- the events of the layer of a value, from those of the values inside it
abbrev pub layer_events : Value-F (List Event) → List Event
layer_events Null = event.Null ∷ []
layer_events (open_value.Bool b) = event.Bool b ∷ []
layer_events (open_value.Number number) = event.Number number ∷ []
layer_events (open_value.String value) = event.String value ∷ []
layer_events (open_value.Array elements) =
    event.StartArray ∷ (flat_map (λ events. events) elements.items ++ event.EndArray ∷ [])
layer_events (open_value.Object members) =
    event.StartObject ∷ (flat_map member_events members.items ++ event.EndObject ∷ [])

-- the events of a value
abbrev pub events_of : Value → List Event
events_of = fold-Value (List Event) layer_events

-- the events are of one kind, with the same text and integer, or with the same characters, though
-- they lie elsewhere in memory
abbrev pub SameEvent : Event → Event → Type 0
SameEvent event.StartArray event.StartArray = ⊤
SameEvent event.EndArray event.EndArray = ⊤
SameEvent event.StartObject event.StartObject = ⊤
SameEvent event.EndObject event.EndObject = ⊤
SameEvent (event.Key v) (event.Key w) = string_bytes v ≡ string_bytes w
SameEvent event.Null event.Null = ⊤
SameEvent (event.Bool a) (event.Bool b) = a ≡ b
SameEvent (event.Number n) (event.Number m) =
    (n.text.items ≡ m.text.items) × (n.integer ≡ m.integer)
SameEvent (event.String v) (event.String w) = string_bytes v ≡ string_bytes w
SameEvent x y = ⊥

-- ---- Readers

-- of this joined input the reader has given these events; and with what may follow it, the input is
-- this value
pub record ReadsValue (r : EventState) (input : List ℕ) (events : List Event) (value : Value) : Type 0 where
  pub given : HasGiven r input events
  pub more : List ℕ
  pub may : MayFollow r.tokens.ended more false
  pub whole : IsDocument r.text.depth (input ++ more) value

-- the events are the first ones of the value
abbrev pub AreFirstOf : List Event → Value → Type 0
AreFirstOf events value = (rest : List Event) × SameAll SameEvent (events ++ rest) (events_of value)

-- the events are all those of the value
abbrev pub AreAllOf : List Event → Value → Type 0
AreAllOf events value = SameAll SameEvent events (events_of value)

-- memory was refused
abbrev pub IsRefusal : EventError → Type 0
IsRefusal (error.Damaged place cause) = ⊥
IsRefusal (error.Unexpected place) = ⊥
IsRefusal (error.TooDeep place) = ⊥
IsRefusal (error.EndsEarly place) = ⊥
IsRefusal (error.Refused r) = ⊤
