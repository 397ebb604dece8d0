-- The events that a reader has given of the joined input.
use Rattle.std.specs.Prelude.{◌≡◌, ℕ, ◌+◌, ◌-◌, ◌<◌, true, false, not, List, [], ◌∷◌, ◌++◌, length, drop, get_or, Option, Some, None, Result, Ok, Err, ◌⊎◌, ⊤}
use Rattle.winnow_reader.specs.State.{ReaderState, at_start, pushed, unspent, ended_after, fed_of}
use Rattle.winnow_reader.specs.Reading.{Lacks}
use Rattle.winnow_reader.specs.SameValues.{IsThrough}
use Rattle.winnow_reader.specs.declared.next.Next.{Next}
use Rattle.winnow_reader.specs.declared.next.Next.TheVariants as next
use Rattle.format_json.specs.Language.{after_blanks}
use Rattle.format_json.specs.Tokens.{TokenAhead}
use Rattle.format_json.specs.TokenAnswers.{OneToken}
use Rattle.format_json.specs.Reading.{FindsDamage}
use Rattle.format_json.specs.Causes.{cause_of, IsCut}
use Rattle.format_json_events.specs.Blanks.{HasTaken, TakesThrough, TakesAlso, WaitsOn}
use Rattle.format_json_events.specs.Turns.{TextState, at_begin, bar_from, turn_at, turn_events, after_turn}
use Rattle.format_json.specs.declared.tokens.Token.{Token}
use Rattle.format_json.specs.declared.tokens.Token.TheVariants as token
use Rattle.format_json.specs.declared.reading.JsonToken.{JsonToken}
use Rattle.format_json_events.specs.declared.event_reader.Event.{Event}
use Rattle.format_json_events.specs.declared.event_reader.EventError.{EventError}
use Rattle.format_json_events.specs.declared.event_reader.EventError.TheVariants as error
use Rattle.format_json_events.specs.declared.event_reader.Coming.{Coming}
use Rattle.format_json_events.specs.declared.event_reader.Coming.TheVariants as coming
use Rattle.format_json_events.specs.declared.event_reader.Step.{Step}
use Rattle.format_json_events.specs.declared.event_reader.Step.TheVariants as step
use Rattle.format_json_events.specs.declared.syntax.Taken.{Taken}
use Rattle.format_json_events.specs.declared.syntax.Taken.TheVariants as taken
use Rattle.format_json_events.specs.declared.turns.Misplaced.{Misplaced}
use Rattle.format_json_events.specs.declared.turns.Misplaced.TheVariants as misplaced
use Rattle.format_json_events.specs.declared.turns.Expected.TheVariants as expect
use Rattle.format_json_events.specs.declared.turns.Turn.{Turn}
use Rattle.format_json_events.specs.declared.turns.Turn.TheVariants.{Opens, Closes, Gives, Names, Passes, Ends, Refuses}

-- ---- Tokens in a text

-- the token may stand there
abbrev pub IsAllowed : Turn → Type 0
IsAllowed (Opens b) = ⊤
IsAllowed (Closes b) = ⊤
IsAllowed (Gives event) = ⊤
IsAllowed (Names name) = ⊤
IsAllowed (Passes expected) = ⊤
IsAllowed Ends = ⊤
IsAllowed (Refuses misplaced) = ⊥

-- these tokens may stand there, one after the other; they have these events, and lead there
abbrev pub Takes : TextState → List Token → List Event → TextState → Type 0
Takes s [] events t = (events ≡ []) × (t ≡ s)
Takes s (token ∷ tokens) events t = IsAllowed (turn_at s token) × ((rest : List Event)
    × ((events ≡ turn_events (turn_at s token) ++ rest) × Takes (after_turn s (turn_at s token)) tokens rest t))

-- ---- The reader

-- what a reader of events shows: the reader of its tokens; where the text stands; and the error
-- after which it reads no more
pub record EventState : Type 0 where
  pub tokens : ReaderState JsonToken
  pub text : TextState
  pub stopped : Option EventError

-- a reader that nothing was pushed to
abbrev pub new_reader : ℕ → EventState
new_reader depth =
    record { tokens = at_start (record {}); text = at_begin depth; stopped = None }

-- a reader after a piece
abbrev pub events_pushed : EventState → List ℕ → EventState
events_pushed r piece = record r { tokens = pushed r.tokens piece }

-- a reader that dropped what tokens took
abbrev pub events_unspent : EventState → EventState
events_unspent r = record r { tokens = unspent r.tokens }

-- a reader after the end
abbrev pub events_ended : EventState → EventState
events_ended r = record r { tokens = ended_after r.tokens }

-- of this joined input the reader has given these events: those of the tokens that it took, of
-- which each may stand where it does. Unless it stopped, these are all that it read.
pub record HasGiven (r : EventState) (input : List ℕ) (events : List Event) : Type 0 where
  pub taken : List Token
  pub others : List Token
  pub read : HasTaken r.tokens input (taken ++ others)
  pub going : r.stopped ≡ None → others ≡ []
  pub takes : Takes (at_begin r.text.depth) taken events r.text

-- no matter what was given, with a piece more the reader has given the same
abbrev pub GivesAlso : EventState → List ℕ → EventState → Type 0
GivesAlso old piece new = (input : List ℕ) (events : List Event)
    → HasGiven old input events → HasGiven new (input ++ piece) events

-- no matter what was given, the other reader has given that, and these events
abbrev pub GivesOn : EventState → List Event → EventState → Type 0
GivesOn old events new = (input : List ℕ) (before : List Event)
    → HasGiven old input before → HasGiven new input (before ++ events)

-- the limit on depth is the same, and so is whether the input has ended
abbrev pub KeepsLimits : EventState → EventState → Type 0
KeepsLimits old new =
    (new.text.depth ≡ old.text.depth) × (new.tokens.ended ≡ old.tokens.ended)

-- ---- The next token

-- the bytes ahead of the one reader begin with the token, and once it is read the reader is the
-- other
pub record Brings (old : ReaderState JsonToken) (token : Token) (new : ReaderState JsonToken) : Type 0 where
  pub read : TakesAlso old token new
  pub stands : TokenAhead (not old.ended) token old.ahead new.ahead
  pub fewer : length new.ahead < length old.ahead
  pub ended : new.ended ≡ old.ended

-- the bytes ahead of the reader from this place of the joined input on
abbrev pub ahead_from : ReaderState JsonToken → ℕ → List ℕ
ahead_from f place = drop (place - f.place) f.ahead

-- the token ahead is damaged at the place, and only cut off there by the end of the input
abbrev pub IsCutAt : ReaderState JsonToken → ℕ → Type 0
IsCutAt f place = (f.ended ≡ true) × IsCut (after_blanks f.ahead) (ahead_from f place)

-- where the token ahead begins in the joined input: after the blanks before it
abbrev pub token_place : ReaderState JsonToken → ℕ
token_place f = (f.place + length f.ahead) - length (after_blanks f.ahead)

-- why what the first byte ahead begins may not come next, if it may not
abbrev pub bar_ahead : TextState → ReaderState JsonToken → Option Misplaced
bar_ahead text f = bar_from text (get_or (after_blanks f.ahead) 0 0)

-- the token ahead is damaged, and what its first byte begins may not come next, for this reason
abbrev pub IsBarred : TextState → ReaderState JsonToken → Misplaced → ℕ → Type 0
IsBarred text f misplaced place = (place ≡ token_place f) × (bar_ahead text f ≡ Some misplaced)
    × ((at : ℕ) × FindsDamage f at)

-- where the text stands: no token is ahead, no matter what follows, for this cause, and one might
-- come that begins so; or the input ends in one that might come; or none may come that begins so;
-- or memory was refused
abbrev pub IsNoNext : TextState → ReaderState JsonToken → EventError → Type 0
IsNoNext text f (error.Damaged place cause) = FindsDamage f place × ¬ (IsCutAt f place)
    × (cause ≡ cause_of (after_blanks f.ahead) (ahead_from f place)) × (bar_ahead text f ≡ None)
IsNoNext text f (error.Unexpected place) = IsBarred text f misplaced.Unexpected place
IsNoNext text f (error.TooDeep place) = IsBarred text f misplaced.TooDeep place
IsNoNext text f (error.EndsEarly place) = (place ≡ fed_of f)
    × ((at : ℕ) × (FindsDamage f at × IsCutAt f at)) × (bar_ahead text f ≡ None)
IsNoNext text f (error.Refused r) = ⊤

-- the one reader is at the end of the text, and is then the other
abbrev pub BringsEnd : ReaderState JsonToken → ReaderState JsonToken → Type 0
BringsEnd old new = IsThrough new × (Brings old token.End new ⊎ (new ≡ old))

-- the input goes on, and the record of the next token asked for more than came since
abbrev pub Awaits : ReaderState JsonToken → Type 0
Awaits f = (f.ended ≡ false)
    × ((input : List ℕ) (tokens : List Token) → HasTaken f input tokens → Lacks (λ p. OneToken) f)

-- where the text stands: the next token, or the end; or it is awaited, and the blanks ahead were
-- dropped; or none stands there, and nothing changes
abbrev pub IsComing : TextState → ReaderState JsonToken → Result Coming EventError
    → ReaderState JsonToken → Type 0
IsComing text old (Ok (coming.Token t)) new = Brings old t new
IsComing text old (Ok coming.End) new = BringsEnd old new
IsComing text old (Ok coming.NeedsMore) new =
    WaitsOn old new × Awaits old × TakesThrough old new
IsComing text old (Err e) new = (new ≡ old) × IsNoNext text old e

-- ---- Answers

-- the error of a token that may not stand at the place
abbrev pub error_at : Misplaced → ℕ → EventError
error_at misplaced.Unexpected place = error.Unexpected place
error_at misplaced.TooDeep place = error.TooDeep place
error_at misplaced.EndsEarly place = error.EndsEarly place

-- the event of what a token was taken for, if it has one
abbrev pub taken_events : Taken → List Event
taken_events (taken.Has event) = event ∷ []
taken_events taken.Passes = []

-- the event of a step, if it has one
abbrev pub step_events : Result Step EventError → List Event
step_events (Ok (step.Took t)) = taken_events t
step_events (Ok step.Done) = []
step_events (Ok step.NeedsMore) = []
step_events (Err e) = []

-- the event that came next, if one did
abbrev pub next_events : Result (Next Event) EventError → List Event
next_events (Ok (next.Value event)) = event ∷ []
next_events (Ok next.NeedsMore) = []
next_events (Ok next.Done) = []
next_events (Err e) = []

-- the input has ended, nothing of it remains, and the text is whole
abbrev pub IsWhole : EventState → Type 0
IsWhole r = IsThrough r.tokens × (r.text.expected ≡ expect.End)

-- the text stands as before, and no token was taken: the blanks ahead were dropped
abbrev pub StaysAt : EventState → EventState → Type 0
StaysAt old new = (new.text ≡ old.text) × WaitsOn old.tokens new.tokens

-- the one reader is at a token, or at the end, that may not come next: so the error says, with the
-- place at which it begins
abbrev pub IsMisplaced : EventState → EventError → EventState → Type 0
IsMisplaced old e new = (t : Token) × ((m : Misplaced) × ((turn_at old.text t ≡ Refuses m)
    × (e ≡ error_at m (token_place old.tokens)) × (Brings old.tokens t new.tokens ⊎ ((t ≡ token.End) × BringsEnd old.tokens new.tokens))))

-- what a step answers: an event, or a token without one; or the end of a whole text; or the next
-- token is awaited; or none stands there, and nothing changes; or one that may not
abbrev pub IsStep : EventState → Result Step EventError → EventState → Type 0
IsStep old (Ok (step.Took (taken.Has event))) new = new.stopped ≡ None
IsStep old (Ok (step.Took taken.Passes)) new =
    (new.stopped ≡ None) × (length new.tokens.ahead < length old.tokens.ahead)
IsStep old (Ok step.Done) new = (new.stopped ≡ None) × IsWhole new
IsStep old (Ok step.NeedsMore) new = (new.stopped ≡ None) × StaysAt old new × Awaits old.tokens
IsStep old (Err e) new = ((new ≡ old) × IsNoNext old.text old.tokens e)
    ⊎ ((new.text ≡ old.text) × (new.stopped ≡ Some e) × IsMisplaced old e new)

-- a reader that has given no more events than the other, after tokens that have none
abbrev pub Passed : EventState → EventState → Type 0
Passed old new = GivesOn old [] new × (new.stopped ≡ None) × KeepsLimits old new

-- what the reader answers: an event; or done, where the text is whole; or, after tokens that have
-- no event, the next token is awaited, no token stands there, or one that may not
abbrev pub IsNext : EventState → Result (Next Event) EventError → EventState → Type 0
IsNext old (Ok (next.Value event)) new = new.stopped ≡ None
IsNext old (Ok next.NeedsMore) new = (r : EventState) × (Passed old r × IsStep r (Ok step.NeedsMore) new)
IsNext old (Ok next.Done) new = (new.stopped ≡ None) × IsWhole new
IsNext old (Err e) new = (r : EventState) × (Passed old r × IsStep r (Err e) new)
