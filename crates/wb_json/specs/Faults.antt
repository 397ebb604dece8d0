-- Where a reader of events stops, and what a failure says of that.
use Rattle.std.specs.Prelude.{◌≡◌, ℕ, ◌+◌, List, Option, Some, None, ◌⊎◌, ⊤}
use Rattle.format_json_events.specs.Reading.{EventState, IsNoNext, IsMisplaced}
use Rattle.format_json_events.specs.Lengths.{IsLongAt}
use Rattle.format_json_events.specs.declared.event_reader.EventError.{EventError}
use Rattle.format_json_events.specs.declared.event_reader.EventError.TheVariants as error
use Rattle.wb_json.specs.Windows.{IsPlaced}
use Rattle.wb_json.specs.declared.failure.Fault.{Fault}
use Rattle.wb_json.specs.declared.failure.Fault.TheVariants.{Damaged, Unexpected, TooDeep, EndsEarly, TooLong}
use Rattle.wb_json.specs.declared.failure.Failure.{Failure}
use Rattle.wb_json.specs.declared.failure.Failure.TheVariants.{Faulty, Stopped}

-- the reader has no next event, for this reason: no token stands at the front of it, or one that
-- may not
abbrev pub StopsAt : EventState → EventError → Type 0
StopsAt r e = IsNoNext r.text r.tokens e ⊎ ((new : EventState) × IsMisplaced r e new)

-- the error of a reader that finds this fault at the place, if it has one without a limit
abbrev pub error_of : Fault → ℕ → Option EventError
error_of (Damaged cause) place = Some (error.Damaged place cause)
error_of Unexpected place = Some (error.Unexpected place)
error_of TooDeep place = Some (error.TooDeep place)
error_of EndsEarly place = Some (error.EndsEarly place)
error_of (TooLong limit) place = None

-- the reader finds the fault at the place: it has an error there; or the token that begins there
-- has more bytes than the limit
abbrev pub FindsFault : ℕ → EventState → Fault → ℕ → Type 0
FindsFault limit r fault place =
    ((e : EventError) × ((error_of fault place ≡ Some e) × StopsAt r e))
    ⊎ ((fault ≡ TooLong limit) × IsLongAt limit r place)

-- what a failure says of an input: the reader of a text, before which this many bytes of the input
-- stand, stops with the fault, and its place has this position
abbrev pub IsFailureOf : ℕ → List ℕ → ℕ → EventState → Failure → Type 0
IsFailureOf limit input start r (Faulty position fault excerpt) =
    (place : ℕ) × (FindsFault limit r fault place
    × IsPlaced input (start + place) position excerpt)
IsFailureOf limit input start r (Stopped trouble) = ⊤
