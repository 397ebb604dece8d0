-- What is printed of the events that are there.
use Rattle.std.specs.Prelude.{◌≡◌, ℕ, false, List, ◌++◌, None, Result, Ok, Err, ⊤}
use Rattle.winnow_reader.specs.declared.next.Next.{Next}
use Rattle.winnow_reader.specs.declared.next.Next.TheVariants as next
use Rattle.format_json_events.specs.Reading.{EventState, HasGiven, KeepsLimits, IsWhole}
use Rattle.format_json_events.specs.declared.event_reader.Event.{Event}
use Rattle.format_json_events.specs.declared.event_reader.EventError.{EventError}
use Rattle.format_json_events.specs.declared.event_reader.EventError.TheVariants as error
use Rattle.example_json.specs.Lines.{level_by, lines_at}
use Rattle.example_json.specs.Failures.{IsOfText}
use Rattle.example_json.specs.Faults.{StopsAt, TellsOf}
use Rattle.example_json.specs.declared.positions.Line.{Line}
use Rattle.example_json.specs.declared.failure.Failure.{Failure}

-- no matter what was given, more events were given since; their lines, which begin at the one level
-- and lead to the other, were written
abbrev pub PrintsOn : EventState → ℕ → EventState → ℕ → (List ℕ → Type 0) → Type 0
PrintsOn old level new there wrote = (input : List ℕ) (before : List Event) → HasGiven old input before
    → (more : List Event) × (HasGiven new input (before ++ more) × (there ≡ level_by level more)
    × wrote (lines_at level more))

-- no matter what was given, a reader that has given more events, and read no more, stops with this
-- error; their lines were written
abbrev pub StopsAfter : EventState → ℕ → EventError → (List ℕ → Type 0) → Type 0
StopsAfter old level e wrote = (r : EventState) × ((there : ℕ) × (PrintsOn old level r there wrote
    × (r.stopped ≡ None) × KeepsLimits old r × StopsAt r e))

-- the reader has read all of its input, which is a whole text
abbrev pub IsDone : EventState → Type 0
IsDone r = (r.stopped ≡ None) × IsWhole r

-- the events that are there were taken, or the next one, and their lines were written: then there
-- may be more; or more bytes are needed; or the text is whole; or the reader stopped
abbrev pub IsTaken : EventState → ℕ → Result (Next (Unit {0})) EventError → EventState → ℕ
    → (List ℕ → Type 0) → Type 0
IsTaken old level (Ok (next.Value u)) new there wrote =
    (new.stopped ≡ None) × PrintsOn old level new there wrote
IsTaken old level (Ok next.NeedsMore) new there wrote =
    (new.stopped ≡ None) × PrintsOn old level new there wrote × (new.tokens.ended ≡ false)
IsTaken old level (Ok next.Done) new there wrote =
    (new.stopped ≡ None) × PrintsOn old level new there wrote × IsWhole new
IsTaken old level (Err (error.Damaged place cause)) new there wrote =
    StopsAfter old level (error.Damaged place cause) wrote
IsTaken old level (Err (error.Unexpected place)) new there wrote =
    StopsAfter old level (error.Unexpected place) wrote
IsTaken old level (Err (error.TooDeep place)) new there wrote =
    StopsAfter old level (error.TooDeep place) wrote
IsTaken old level (Err (error.EndsEarly place)) new there wrote =
    StopsAfter old level (error.EndsEarly place) wrote
IsTaken old level (Err (error.Refused r)) new there wrote = ⊤

-- what is answered where the events were taken so
abbrev pub Answers : Line → List ℕ → Result (Next (Unit {0})) EventError
    → Result (Unit {0}) Failure → Type 0
Answers line piece (Ok (next.Value u)) (Ok done) = ⊥
Answers line piece (Ok next.NeedsMore) (Ok done) = ⊤
Answers line piece (Ok next.Done) (Ok done) = ⊤
Answers line piece (Err e) (Ok done) = ⊥
Answers line piece (Ok taken) (Err failure) = ¬ (IsOfText failure)
Answers line piece (Err e) (Err failure) = TellsOf line piece e failure
