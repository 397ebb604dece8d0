-- Where a text stops: it begins with tokens that may come, one after the other, and no such token
-- comes next.
use Rattle.std.specs.Prelude.{◌≡◌, ℕ, ◌≤◌, true, false, List, length, drop, None, ◌⊎◌, ⊤}
use Rattle.format_lemmas.specs.Bytes.{StartsWith}
use Rattle.format_json_scalars.specs.StringAnswers.{IsDamagedAt}
use Rattle.format_json.specs.Language.{after_blanks}
use Rattle.format_json.specs.Tokens.{TokenAhead}
use Rattle.format_json.specs.Reading.{AreTokens}
use Rattle.format_json_events.specs.Turns.{TextState, at_begin, bar_at, turn_at}
use Rattle.format_json_events.specs.Reading.{IsAllowed, Takes}
use Rattle.format_json.specs.declared.tokens.Token.{Token}
use Rattle.format_json_events.specs.declared.event_reader.Event.{Event}
use Rattle.format_json_events.specs.declared.event_reader.EventError.{EventError}
use Rattle.format_json_events.specs.declared.event_reader.EventError.TheVariants as error

-- where the text stands, no token that may come is ahead, nor the quote of a string that may
abbrev pub NoneMayCome : TextState → List ℕ → Type 0
NoneMayCome s bytes = ((t : Token) (after : List ℕ) → TokenAhead false t bytes after → ¬ (IsAllowed (turn_at s t)))
    × (bar_at s true ≡ None → ¬ (StartsWith 34 (after_blanks bytes)))

-- no token that may come is next: a string may come and is damaged at the rest; or the bytes begin
-- with no token that may come, and the rest follows the blanks before it
abbrev pub StopsHere : TextState → List ℕ → List ℕ → Type 0
StopsHere s bytes rest = ((bar_at s true ≡ None) × IsDamagedAt false (after_blanks bytes) rest)
    ⊎ ((rest ≡ after_blanks bytes) × NoneMayCome s bytes)

-- from this state the text stops at the rest: the bytes begin with tokens that may come, one after
-- the other, and no such token comes next
pub record Stops (s : TextState) (bytes rest : List ℕ) : Type 0 where
  pub tokens : List Token
  pub events : List Event
  pub last : TextState
  pub left : List ℕ
  pub stand : AreTokens false tokens bytes left
  pub takes : Takes s tokens events last
  pub stops : StopsHere last left rest

-- a text within the limit on depth stops at the offset
abbrev pub StopsAt : ℕ → List ℕ → ℕ → Type 0
StopsAt depth text offset =
    (offset ≤ length text) × Stops (at_begin depth) text (drop offset text)

-- the error names the place where the text stops; or, where the input ends too early, its length
abbrev pub TellsStop : ℕ → List ℕ → EventError → Type 0
TellsStop depth text (error.Damaged place cause) = StopsAt depth text place
TellsStop depth text (error.Unexpected place) = StopsAt depth text place
TellsStop depth text (error.TooDeep place) = StopsAt depth text place
TellsStop depth text (error.EndsEarly place) =
    (place ≡ length text) × ((offset : ℕ) × StopsAt depth text offset)
TellsStop depth text (error.Refused r) = ⊤

-- the place of the error is the offset; or, where the input ends too early, its length
abbrev pub IsAtOffset : List ℕ → EventError → ℕ → Type 0
IsAtOffset text (error.Damaged place cause) offset = place ≡ offset
IsAtOffset text (error.Unexpected place) offset = place ≡ offset
IsAtOffset text (error.TooDeep place) offset = place ≡ offset
IsAtOffset text (error.EndsEarly place) offset = place ≡ length text
IsAtOffset text (error.Refused r) offset = ⊤
