-- How long the tokens of a text are, and where one is too long.
use Rattle.std.specs.Prelude.{◌≡◌, ℕ, ◌+◌, ◌≤◌, ◌<◌, false, not, List, [], ◌∷◌, ◌++◌, length, Result, Ok, Err, ◌⊎◌, ⊤}
use Rattle.winnow_reader.specs.State.{ReaderState}
use Rattle.winnow_reader.specs.Reading.{MayFollow}
use Rattle.winnow_reader.specs.declared.next.Next.{Next}
use Rattle.format_json.specs.Language.{after_blanks}
use Rattle.format_json.specs.Tokens.{TokenAhead}
use Rattle.format_json.specs.declared.tokens.Token.{Token}
use Rattle.format_json.specs.declared.reading.JsonToken.{JsonToken}
use Rattle.format_json_events.specs.Blanks.{WaitsOn}
use Rattle.format_json_events.specs.Reading.{EventState, Brings, BringsEnd, Awaits, Passed, IsStep, IsNext, token_place}
use Rattle.format_json_events.specs.declared.event_reader.Event.{Event}
use Rattle.format_json_events.specs.declared.event_reader.EventError.{EventError}
use Rattle.format_json_events.specs.declared.event_reader.WithinError.{WithinError}
use Rattle.format_json_events.specs.declared.event_reader.WithinError.TheVariants as within
use Rattle.format_json_events.specs.declared.event_reader.Step.{Step}
use Rattle.format_json_events.specs.declared.event_reader.Step.TheVariants as step

-- ---- Short tokens

-- the bytes begin with these tokens, one after the other and each of at most so many bytes, and the
-- rest follows, but for blanks before it
abbrev pub AreShort : ℕ → List Token → List ℕ → List ℕ → Type 0
AreShort limit [] bytes rest = after_blanks bytes ≡ after_blanks rest
AreShort limit (token ∷ tokens) bytes rest = (after : List ℕ) × (TokenAhead false token bytes after
    × (length (after_blanks bytes) ≤ length after + limit) × AreShort limit tokens after rest)

-- a text is such tokens, with blanks around them
abbrev pub IsShort : ℕ → List ℕ → Type 0
IsShort limit text = (tokens : List Token) × AreShort limit tokens text []

-- no matter what follows, the joined input and that are such tokens, up to what is ahead of the
-- reader
abbrev pub IsShortTo : ℕ → ReaderState JsonToken → List ℕ → Type 0
IsShortTo limit f input = (tokens : List Token) × ((more : List ℕ) → MayFollow f.ended more false
    → AreShort limit tokens (input ++ more) (f.ahead ++ more))

-- no matter what was read, if its tokens were short, so are those that the other reader has read
abbrev pub KeepsShort : ℕ → EventState → EventState → Type 0
KeepsShort limit old new =
    (input : List ℕ) → IsShortTo limit old.tokens input → IsShortTo limit new.tokens input

-- ---- Long tokens

-- the token ahead has more bytes than this; or it has not ended, and more bytes of it are there
abbrev pub IsLongAhead : ℕ → ReaderState JsonToken → Type 0
IsLongAhead limit f = ((token : Token) × ((after : List ℕ)
    × (TokenAhead (not f.ended) token f.ahead after
    × (length after + limit < length (after_blanks f.ahead)))))
    ⊎ (Awaits f × (limit < length (after_blanks f.ahead)))

-- the token ahead is too long, and begins at the place
abbrev pub IsLongAt : ℕ → EventState → ℕ → Type 0
IsLongAt limit r place = (place ≡ token_place r.tokens) × IsLongAhead limit r.tokens

-- ---- Answers

-- which token a step has taken: one; or the end; or none
abbrev pub TakesStep : ReaderState JsonToken → Result Step EventError → ReaderState JsonToken
    → Type 0
TakesStep old (Ok (step.Took taken)) new = (token : Token) × Brings old token new
TakesStep old (Ok step.Done) new = BringsEnd old new
TakesStep old (Ok step.NeedsMore) new = WaitsOn old new × Awaits old
TakesStep old (Err e) new = ⊤

-- what a step answers within a limit: the same as without one; or the next token is too long
abbrev pub IsStepWithin : ℕ → EventState → Result Step WithinError → EventState → Type 0
IsStepWithin limit old (Ok s) new = IsStep old (Ok s) new
IsStepWithin limit old (Err (within.Failed e)) new = IsStep old (Err e) new
IsStepWithin limit old (Err (within.TooLong place)) new = IsLongAt limit old place

-- what the reader answers within a limit: the same as without one; or, after tokens that have no
-- event, the next token is too long
abbrev pub IsNextWithin : ℕ → EventState → Result (Next Event) WithinError → EventState → Type 0
IsNextWithin limit old (Ok next) new = IsNext old (Ok next) new
IsNextWithin limit old (Err (within.Failed e)) new = IsNext old (Err e) new
IsNextWithin limit old (Err (within.TooLong place)) new =
    (r : EventState) × (Passed old r × IsLongAt limit r place)
