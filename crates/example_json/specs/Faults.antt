-- Where a reader of events stops, and what a failure says of that.
use Rattle.std.specs.Prelude.{◌≡◌, ℕ, List, ◌++◌, ◌⊎◌, ⊤}
use Rattle.format_json_events.specs.Reading.{EventState, IsNoNext, IsMisplaced}
use Rattle.format_json_events.specs.declared.event_reader.EventError.{EventError}
use Rattle.format_json_events.specs.declared.event_reader.EventError.TheVariants as error
use Rattle.example_json.specs.Positions.{IsPlaced, LeadsTo}
use Rattle.example_json.specs.declared.positions.Position.{Position}
use Rattle.example_json.specs.declared.positions.Line.{Line}
use Rattle.example_json.specs.declared.failure.Failure.{Failure}
use Rattle.example_json.specs.declared.failure.Failure.TheVariants.{Damaged, Unexpected, TooDeep, EndsEarly, Stopped}

-- the reader has no next event, for this reason: no token stands at the front of it, or one that
-- may not
abbrev pub StopsAt : EventState → EventError → Type 0
StopsAt r e = IsNoNext r.text r.tokens e ⊎ ((new : EventState) × IsMisplaced r e new)

-- the reader stops with this fault, at a place that has this position in the input
abbrev pub HasFault : List ℕ → EventState → (ℕ → EventError) → Position → Type 0
HasFault input r fault position =
    (place : ℕ) × (StopsAt r (fault place) × IsPlaced input place position)

-- what a failure says of an input, where the reader of a front of it stops
abbrev pub IsFailureOf : List ℕ → EventState → Failure → Type 0
IsFailureOf input r (Damaged position cause) =
    HasFault input r (λ place. error.Damaged place cause) position
IsFailureOf input r (Unexpected position) = HasFault input r error.Unexpected position
IsFailureOf input r (TooDeep position) = HasFault input r error.TooDeep position
IsFailureOf input r (EndsEarly position) = HasFault input r error.EndsEarly position
IsFailureOf input r (Stopped trouble) = ⊤

-- where the piece follows the bytes that lead to the line, the place has this position
abbrev pub Places : Line → List ℕ → ℕ → Position → Type 0
Places line piece place position =
    (input : List ℕ) → LeadsTo input line → IsPlaced (input ++ piece) place position

-- the error is this fault, at a place that has this position
abbrev pub IsAt : Line → List ℕ → EventError → (ℕ → EventError) → Position → Type 0
IsAt line piece e fault position =
    (place : ℕ) × ((e ≡ fault place) × Places line piece place position)

-- the failure tells of the error, by the position of its place
abbrev pub TellsOf : Line → List ℕ → EventError → Failure → Type 0
TellsOf line piece e (Damaged position cause) =
    IsAt line piece e (λ place. error.Damaged place cause) position
TellsOf line piece e (Unexpected position) = IsAt line piece e error.Unexpected position
TellsOf line piece e (TooDeep position) = IsAt line piece e error.TooDeep position
TellsOf line piece e (EndsEarly position) = IsAt line piece e error.EndsEarly position
TellsOf line piece e (Stopped trouble) = ⊤
