-- What a reader of events has given of the joined input.
use Rattle.std.specs.Prelude.{◌≡◌, ℕ, ◌+◌, ◌-◌, ◌<◌, List, [], ◌∷◌, ◌++◌, length, Some, Result, Ok, Err, ◌⊎◌}
use Rattle.winnow_reader.specs.State.{ReaderState, at_start, pushed, unspent, ended_after, waiting_for}
use Rattle.winnow_reader.specs.SameValues.{IsThrough}
use Rattle.winnow_reader.specs.declared.next.Next.{Next}
use Rattle.winnow_reader.specs.declared.next.Next.TheVariants as next
use Rattle.format_resp.specs.Language.{line, IsLength, greatest_count}
use Rattle.format_resp.specs.declared.causes.Cause.{Cause}
use Rattle.format_resp.specs.declared.causes.Cause.TheVariants.{EndsInside}
use Rattle.format_resp.specs.declared.grammar.ReplyTo.{ReplyTo}
use Rattle.format_resp_events.specs.OpenArrays.{IsDue}
use Rattle.format_resp_events.specs.Heads.{BreaksWithin, WantsMore}
use Rattle.format_resp_events.specs.Events.{SpellsRow, SpellsInside, AreReplies}
use Rattle.format_resp_events.specs.declared.event.ReplyEvent.{ReplyEvent}
use Rattle.format_resp_events.specs.declared.event.ReplyEvent.TheVariants as event
use Rattle.format_resp_events.specs.declared.event_reader.EventError.{EventError}
use Rattle.format_resp_events.specs.declared.event_reader.EventError.TheVariants as error

-- ---- Replies and open arrays

-- after bytes with events, where a relation says which, an array has begun that lacks that many
-- replies: its first replies are whole, and these are the bytes and the events up to there. Each of
-- its replies is as another relation says
pub record SpellsBegun (before spells : List ℕ → List ReplyEvent → Type 0) (left : ℕ) (bytes : List ℕ) (events : List ReplyEvent) : Type 0 where
  pub outer : List ℕ
  pub given : List ReplyEvent
  pub ahead : before outer given
  pub has : ℕ
  pub text : List ℕ
  pub number : IsLength greatest_count text (Some (has + left))
  pub more : List ℕ
  pub inside : List ReplyEvent
  pub row : SpellsRow spells has more inside
  pub whole : bytes ≡ outer ++ 42 ∷ (line text ++ more)
  pub told : events ≡ given ++ event.StartArray (has + left) ∷ inside

-- the bytes are whole replies, and then the beginnings of arrays, one in the other, of which each
-- lacks that many replies, the innermost first; and these are their events. An array that stands in
-- as many as are allowed has no replies
abbrev pub AreBegun : ℕ → ℕ → List ℕ → List ℕ → List ReplyEvent → Type 0
AreBegun longest depth [] bytes events = AreReplies longest depth bytes events
AreBegun longest depth (n ∷ lacks) bytes events = IsDue lacks × (0 < n → length lacks < depth)
    × SpellsBegun (AreBegun longest depth lacks) (SpellsInside longest (depth - length lacks)) n bytes events

-- ---- The reader

-- what a reader of events shows: the reader of replies that stand in no array; how many replies
-- each open array lacks, the innermost first; and within how many arrays a reply may stand
pub record EventState : Type 0 where
  pub replies : ReaderState ReplyTo
  pub open_arrays : List ℕ
  pub depth : ℕ

-- the limit on texts and bulk strings
abbrev pub longest_of : EventState → ℕ
longest_of r = r.replies.parser.longest

-- a reader that nothing was pushed to
abbrev pub new_reader : ReplyTo → EventState
new_reader limits = record {
  replies = at_start (record { depth = 0; longest = limits.longest });
  open_arrays = [];
  depth = limits.depth;
}

-- a reader after a piece
abbrev pub events_pushed : EventState → List ℕ → EventState
events_pushed r piece = record r { replies = pushed r.replies piece }

-- a reader that dropped what events took
abbrev pub events_unspent : EventState → EventState
events_unspent r = record r { replies = unspent r.replies }

-- a reader after the end
abbrev pub events_ended : EventState → EventState
events_ended r = record r { replies = ended_after r.replies }

-- a reader that asks again once that many bytes are ahead
abbrev pub events_waiting : EventState → ℕ → EventState
events_waiting r n = record r { replies = waiting_for r.replies n }

-- of this joined input the reader has given these events: those of the bytes up to its place, which
-- are whole replies and the beginnings of arrays that are open
pub record HasGiven (r : EventState) (input : List ℕ) (events : List ReplyEvent) : Type 0 where
  pub bytes : List ℕ
  pub whole : input ≡ bytes ++ r.replies.ahead
  pub place : r.replies.place ≡ length bytes
  pub begun : AreBegun (longest_of r) r.depth r.open_arrays bytes events

-- whatever was given, with a piece more the reader has given the same
abbrev pub GivesAlso : EventState → List ℕ → EventState → Type 0
GivesAlso old piece new = (input : List ℕ) (events : List ReplyEvent)
    → HasGiven old input events → HasGiven new (input ++ piece) events

-- whatever was given, the other reader has given that, and these events
abbrev pub GivesOn : EventState → List ReplyEvent → EventState → Type 0
GivesOn old events new = (input : List ℕ) (before : List ReplyEvent)
    → HasGiven old input before → HasGiven new input (before ++ events)

-- ---- Answers

-- the limits are the same, and so is whether the input has ended
abbrev pub KeepsLimits : EventState → EventState → Type 0
KeepsLimits old new = (longest_of new ≡ longest_of old) × (new.depth ≡ old.depth)
    × (new.replies.ended ≡ old.replies.ended)

-- the event that came next, if one did
abbrev pub next_events : Result (Next ReplyEvent) EventError → List ReplyEvent
next_events (Ok (next.Value event)) = event ∷ []
next_events (Ok next.NeedsMore) = []
next_events (Ok next.Done) = []
next_events (Err e) = []

-- whatever follows, the reply that is due breaks off at the place, for this cause, within the limit
-- on depth that the open arrays leave
abbrev pub BreaksAt : EventState → ℕ → Cause → Type 0
BreaksAt r place cause = BreaksWithin (r.depth - length r.open_arrays) r.replies place cause

-- what a reader answers at the end of an input of this length, with these arrays open
abbrev pub end_answer : List ℕ → ℕ → Result (Next ReplyEvent) EventError
end_answer [] fed = Ok next.Done
end_answer (n ∷ lacks) fed = Err (error.Damaged fed EndsInside)

-- the input has ended, nothing of it remains, and no array is open
abbrev pub IsWhole : EventState → Type 0
IsWhole r = IsThrough r.replies × (r.open_arrays ≡ [])

-- the reader goes on: it takes bytes, and wants none; or it closes an array
abbrev pub Advances : EventState → EventState → Type 0
Advances old new = ((length new.replies.ahead < length old.replies.ahead) × (new.replies.wanted ≡ 0))
    ⊎ ((new.replies ≡ old.replies) × (length new.open_arrays < length old.open_arrays))

-- what the reader answers: an event, and it goes on; or that a reply is due and more of it is
-- needed, and only how many bytes are wanted changes; or done, where it is whole; or the reply that
-- is due breaks off, whatever follows, and nothing changes
abbrev pub IsNext : EventState → Result (Next ReplyEvent) EventError → EventState → Type 0
IsNext old (Ok (next.Value event)) new = Advances old new
IsNext old (Ok next.NeedsMore) new = IsDue old.open_arrays × WantsMore old.replies new.replies
    × (new ≡ events_waiting old new.replies.wanted)
IsNext old (Ok next.Done) new = IsWhole old × (new ≡ old)
IsNext old (Err (error.Damaged place cause)) new = BreaksAt old place cause × (new ≡ old)
IsNext old (Err (error.Refused r)) new = new ≡ old
