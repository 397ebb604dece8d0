-- The events of replies, and the bytes that spell replies with these events.
use Rattle.std.specs.Prelude.{◌≡◌, ℕ, zero, suc, ◌+◌, List, [], ◌∷◌, ◌++◌, length, Some, ◌⊎◌, ⊤}
use Rattle.std.specs.List.{flat_map}
use Rattle.format_resp.specs.Language.{IsText, line, no_length, IsInteger, IsLength, greatest_count}
use Rattle.format_resp.specs.declared.reply.Reply.{Reply}
use Rattle.format_resp.specs.declared.reply.Reply.TheOpen.{Reply-F, Simple, Error, Integer, Bulk, NullBulk, Array, NullArray}
use Rattle.format_resp.specs.declared.reply.Reply.TheFolds.{fold-Reply}
use Rattle.format_resp_events.specs.declared.event.ReplyEvent.{ReplyEvent}
use Rattle.format_resp_events.specs.declared.event.ReplyEvent.TheVariants as event

-- ---- The events of a reply

-- the events of the layer of a reply, from those of the replies in its array
abbrev pub layer_events : Reply-F (List ReplyEvent) → List ReplyEvent
layer_events (Simple text) = event.Simple text ∷ []
layer_events (Error text) = event.Error text ∷ []
layer_events (Integer n) = event.Integer n ∷ []
layer_events (Bulk held) = event.Bulk held ∷ []
layer_events NullBulk = event.NullBulk ∷ []
layer_events (Array replies) = event.StartArray (length replies.items)
    ∷ (flat_map (λ events. events) replies.items ++ event.EndArray ∷ [])
layer_events NullArray = event.NullArray ∷ []

-- the events of a reply
abbrev pub events_of : Reply → List ReplyEvent
events_of = fold-Reply (List ReplyEvent) layer_events

-- the first event of the layer of a reply whose array, if it is one, has no replies
abbrev pub first_event : Reply-F Reply → ReplyEvent
first_event (Simple text) = event.Simple text
first_event (Error text) = event.Error text
first_event (Integer n) = event.Integer n
first_event (Bulk held) = event.Bulk held
first_event NullBulk = event.NullBulk
first_event (Array replies) = event.StartArray 0
first_event NullArray = event.NullArray

-- the events are of one kind, with the same number or bytes, though they lie elsewhere in memory
abbrev pub SameEvent : ReplyEvent → ReplyEvent → Type 0
SameEvent (event.StartArray n) (event.StartArray m) = n ≡ m
SameEvent event.EndArray event.EndArray = ⊤
SameEvent (event.Simple v) (event.Simple w) = v.items ≡ w.items
SameEvent (event.Error v) (event.Error w) = v.items ≡ w.items
SameEvent (event.Integer n) (event.Integer m) = n ≡ m
SameEvent (event.Bulk v) (event.Bulk w) = v.items ≡ w.items
SameEvent event.NullBulk event.NullBulk = ⊤
SameEvent event.NullArray event.NullArray = ⊤
SameEvent x y = ⊥

-- ---- The bytes of events

-- the bytes spell the reply, no array, that the event is
abbrev pub SpellsScalar : ℕ → ReplyEvent → List ℕ → Type 0
SpellsScalar longest (event.StartArray n) bytes = ⊥
SpellsScalar longest event.EndArray bytes = ⊥
SpellsScalar longest (event.Simple text) bytes = IsText longest text.items × (bytes ≡ 43 ∷ line text.items)
SpellsScalar longest (event.Error text) bytes = IsText longest text.items × (bytes ≡ 45 ∷ line text.items)
SpellsScalar longest (event.Integer n) bytes =
    (text : List ℕ) × (IsInteger text n × (bytes ≡ 58 ∷ line text))
SpellsScalar longest (event.Bulk held) bytes = (text : List ℕ) × (IsLength longest text (Some (length held.items))
    × (bytes ≡ 36 ∷ (line text ++ line held.items)))
SpellsScalar longest event.NullBulk bytes = bytes ≡ 36 ∷ line no_length
SpellsScalar longest event.NullArray bytes = bytes ≡ 42 ∷ line no_length

-- where a relation says which bytes spell a reply with which events
module _ (spells : List ℕ → List ReplyEvent → Type 0) where
  -- the bytes are that many replies, one after the other, and these are their events
  abbrev pub SpellsRow : ℕ → List ℕ → List ReplyEvent → Type 0
  SpellsRow zero bytes events = (bytes ≡ []) × (events ≡ [])
  SpellsRow (suc n) bytes events = (one : List ℕ) × ((more : List ℕ)
      × ((first : List ReplyEvent) × ((others : List ReplyEvent)
      × ((bytes ≡ one ++ more) × (events ≡ first ++ others) × spells one first × SpellsRow n more others))))

  -- the bytes are an array of such replies, and these are its events
  pub record SpellsArray (bytes : List ℕ) (events : List ReplyEvent) : Type 0 where
    pub count : ℕ
    pub text : List ℕ
    pub more : List ℕ
    pub inside : List ReplyEvent
    pub number : IsLength greatest_count text (Some count)
    pub row : SpellsRow count more inside
    pub whole : bytes ≡ 42 ∷ (line text ++ more)
    pub told : events ≡ event.StartArray count ∷ (inside ++ event.EndArray ∷ [])

-- the bytes are a reply, and these are its events, where a relation says so of the replies in an
-- array
abbrev pub SpellsEither : ℕ → (List ℕ → List ReplyEvent → Type 0) → List ℕ → List ReplyEvent
    → Type 0
SpellsEither longest spells bytes events =
    ((e : ReplyEvent) × (SpellsScalar longest e bytes × (events ≡ e ∷ [])))
    ⊎ SpellsArray spells bytes events

-- no bytes are a reply
abbrev pub SpellsNothing : List ℕ → List ReplyEvent → Type 0
SpellsNothing bytes events = ⊥

-- the bytes spell a reply within the limits, and these are its events
abbrev pub SpellsEvents : ℕ → ℕ → List ℕ → List ReplyEvent → Type 0
SpellsEvents longest zero = SpellsEither longest SpellsNothing
SpellsEvents longest (suc depth) = SpellsEither longest (SpellsEvents longest depth)

-- the bytes spell a reply that an array holds which stands within this limit on depth
abbrev pub SpellsInside : ℕ → ℕ → List ℕ → List ReplyEvent → Type 0
SpellsInside longest zero = SpellsNothing
SpellsInside longest (suc depth) = SpellsEvents longest depth

-- the bytes are replies within the limits, one after the other, and these are their events
abbrev pub AreReplies : ℕ → ℕ → List ℕ → List ReplyEvent → Type 0
AreReplies longest depth bytes events =
    (n : ℕ) × SpellsRow (SpellsEvents longest depth) n bytes events
