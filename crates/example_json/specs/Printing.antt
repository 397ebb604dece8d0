-- What the program has read of its input, and what it writes.
use Rattle.std.specs.Prelude.{◌≡◌, ℕ, ◌+◌, ◌<◌, ◌^◌, true, false, List, [], ◌++◌, length, Option, None, Result, Ok, Err}
use Rattle.std.specs.Io.KnownBytes.{Appends}
use Rattle.format_json_events.specs.Reading.{EventState, HasGiven, KeepsLimits}
use Rattle.format_json_events.specs.declared.event_reader.Event.{Event}
use Rattle.example_json.specs.Positions.{LeadsTo}
use Rattle.example_json.specs.Lines.{level_by, lines_at, lines_of}
use Rattle.example_json.specs.Failures.{IsOfText}
use Rattle.example_json.specs.Faults.{IsFailureOf}
use Rattle.example_json.specs.Taking.{IsDone}
use Rattle.example_json.specs.declared.failure.Failure.{Failure}
use Rattle.example_json.specs.declared.program.Progress.{Progress}

-- ---- Pieces

-- of this joined input the reader has given these events, and may give more; this is kept of them,
-- and the input is not too long to be counted
pub record Follows (r : EventState) (progress : Progress) (input : List ℕ) (events : List Event) : Type 0 where
  pub given : HasGiven r input events
  pub going : r.stopped ≡ None
  pub leads : LeadsTo input progress.line
  pub level : progress.level ≡ level_by 0 events
  pub fits : length input + 1 < 2 ^ 64

-- some events were given of some input
abbrev pub IsBegun : EventState → Progress → Type 0
IsBegun r progress = (input : List ℕ) × ((events : List Event) × Follows r progress input events)

-- with the limits of the one reader, another has given these events of the input and more, of which
-- the lines were written, and it stops there, as the failure says
pub record Breaks (limits : EventState) (input : List ℕ) (before : List Event) (level : ℕ) (failure : Failure) (wrote : List ℕ → Type 0) : Type 0 where
  pub reader : EventState
  pub more : List Event
  pub given : HasGiven reader input (before ++ more)
  pub going : reader.stopped ≡ None
  pub keeps : KeepsLimits limits reader
  pub written : wrote (lines_at level more)
  pub told : IsFailureOf input reader failure

-- no matter what was given, with a piece more the reader fails so
abbrev pub BreaksOn : EventState → Progress → List ℕ → Failure → (List ℕ → Type 0) → Type 0
BreaksOn old progress piece failure wrote = IsOfText failure → (input : List ℕ) (before : List Event)
    → LeadsTo input progress.line → HasGiven old (input ++ piece) before
    → Breaks old (input ++ piece) before progress.level failure wrote

-- no matter what was given, more events were given with the piece, and their lines were written
abbrev pub FollowsOn : EventState → Progress → List ℕ → EventState → Progress → (List ℕ → Type 0)
    → Type 0
FollowsOn old p piece new q wrote = (input : List ℕ) (before : List Event) → Follows old p input before
    → (more : List Event) × (Follows new q (input ++ piece) (before ++ more) × wrote (lines_at p.level more))

-- no matter what was given, with these bytes more the program fails so, with the limits of the
-- other reader
abbrev pub FailsOn : EventState → Progress → List ℕ → EventState → Failure → (List ℕ → Type 0)
    → Type 0
FailsOn old p piece limits failure wrote = IsOfText failure → (input : List ℕ) (before : List Event)
    → Follows old p input before → Breaks limits (input ++ piece) before p.level failure wrote

-- of these bytes, to which more may come, a reader with this limit on depth has given events, and
-- their lines were written after what was held
pub record Prints (depth : ℕ) (input : List ℕ) (held now : Option (List ℕ)) (r : EventState) (progress : Progress) : Type 0 where
  pub events : List Event
  pub follows : Follows r progress input events
  pub wrote : Appends held now (lines_of events)
  pub limit : r.text.depth ≡ depth
  pub goes_on : r.tokens.ended ≡ false

-- ---- The whole input

-- the whole input is a text, a reader with this limit on depth has given its events, and their
-- lines were written
pub record PrintsAll (depth : ℕ) (input : List ℕ) (held now : Option (List ℕ)) : Type 0 where
  pub reader : EventState
  pub events : List Event
  pub limit : reader.text.depth ≡ depth
  pub given : HasGiven reader input events
  pub done : IsDone reader
  pub wrote : Appends held now (lines_of events)

-- a reader with this limit on depth has given these events of a front of the input, or of all of
-- it, and read no more; their lines were written; and the reader stops there, as the failure says
pub record PrintsFront (depth : ℕ) (input : List ℕ) (failure : Failure) (held now : Option (List ℕ)) : Type 0 where
  pub reader : EventState
  pub events : List Event
  pub limit : reader.text.depth ≡ depth
  pub front : List ℕ
  pub rest : List ℕ
  pub splits : input ≡ front ++ rest
  pub ends : reader.tokens.ended ≡ true → rest ≡ []
  pub given : HasGiven reader front events
  pub going : reader.stopped ≡ None
  pub wrote : Appends held now (lines_of events)
  pub told : IsFailureOf input reader failure

-- a failure that is one of the text is one of the input, after some events of it
abbrev pub PrintsUntil : ℕ → List ℕ → Failure → Option (List ℕ) → Option (List ℕ) → Type 0
PrintsUntil depth input failure held now =
    IsOfText failure → PrintsFront depth input failure held now

-- the input is printed whole, or until the failure
abbrev pub TellsInput : ℕ → List ℕ → Option (List ℕ) → Option (List ℕ) → Result (Unit {0}) Failure
    → Type 0
TellsInput depth input held now (Ok done) = PrintsAll depth input held now
TellsInput depth input held now (Err failure) = PrintsUntil depth input failure held now
