-- What the program has read of its input, and what it writes.
use Rattle.std.specs.Prelude.{◌≡◌, ℕ, Bool, true, false, List, [], ◌∷◌, ◌++◌, length, Option, None, Result, Ok, Err, ◌⊎◌}
use Rattle.std.specs.Io.KnownBytes.{Appends}
use Rattle.format_json_events.specs.Reading.{EventState, HasGiven, KeepsLimits}
use Rattle.format_json_events.specs.Lengths.{IsShortTo, KeepsShort}
use Rattle.format_json_events.specs.declared.event_reader.Event.{Event}
use Rattle.format_json_events.specs.declared.event_reader.Event.TheVariants as event
use Rattle.wb_json.specs.Paths.{Place, at_root, moved_by}
use Rattle.wb_json.specs.Lines.{lines_at}
use Rattle.wb_json.specs.Failures.{IsOfText}
use Rattle.wb_json.specs.Windows.{IsWindow}
use Rattle.wb_json.specs.Faults.{IsFailureOf}
use Rattle.wb_json.specs.Texts.{IsText, InputHas, IsBefore, IsWithin, IsAfter}
use Rattle.wb_json.specs.declared.settings.Settings.{Settings}
use Rattle.wb_json.specs.declared.settings.Layout.{Layout}
use Rattle.wb_json.specs.declared.settings.Layout.TheVariants.{Assignments}
use Rattle.wb_json.specs.declared.failure.Failure.{Failure}
use Rattle.wb_json.specs.declared.printing.Printing.{Printing}

-- ---- What is written

-- before the first text an array begins, if each line is a text and its values have paths
abbrev pub opening_of : Bool → Layout → List Event
opening_of true Assignments = event.StartArray ∷ []
opening_of by_lines layout = []

abbrev pub opening : Settings → List Event
opening s = opening_of s.by_lines s.layout

-- what is written of the events of an input
abbrev pub written : Settings → List Event → List ℕ
written s events = lines_at s.layout at_root (opening s ++ events)

-- the place after them
abbrev pub reached : Settings → List Event → Place
reached s events = moved_by at_root (opening s ++ events)

-- ---- A text

-- of an input the program has read these bytes before a text, with these events, and these bytes of
-- the text, of which the reader has given these events and may give more; no token of them is too
-- long
pub record Follows (p : Printing) (head text : List ℕ) (earlier events : List Event) : Type 0 where
  pub given : HasGiven p.reader text events
  pub going : p.reader.stopped ≡ None
  pub goes_on : p.reader.tokens.ended ≡ false
  pub limit : p.reader.text.depth ≡ p.settings.depth
  pub short : IsShortTo p.settings.limit p.reader.tokens text
  pub path : p.path ≡ reached p.settings (earlier ++ events)
  pub window : IsWindow (head ++ text) p.window
  pub start : p.window.start ≡ length head

-- some text was begun of some input
abbrev pub IsBegun : Printing → Type 0
IsBegun p = (head : List ℕ) × ((text : List ℕ) × ((earlier : List Event)
    × ((events : List Event) × Follows p head text earlier events)))

-- a reader with the limits of the first has given these events of the text and more, of which the
-- lines were written from this place on, and it stops there, as the failure says of the input
pub record Breaks (limits : EventState) (s : Settings) (place : Place) (head text : List ℕ) (before : List Event) (failure : Failure) (held now : Option (List ℕ)) : Type 0 where
  pub reader : EventState
  pub more : List Event
  pub given : HasGiven reader text (before ++ more)
  pub going : reader.stopped ≡ None
  pub keeps : KeepsLimits limits reader
  pub wrote : Appends held now (lines_at s.layout place more)
  pub told : IsFailureOf s.limit (head ++ text) (length head) reader failure

-- nothing of the input was lost, and the reader may go on
pub record KeepsAll (old new : Printing) : Type 0 where
  pub settings : new.settings ≡ old.settings
  pub begun : new.begun ≡ old.begun
  pub limits : KeepsLimits old.reader new.reader
  pub short : KeepsShort old.settings.limit old.reader new.reader
  pub going : new.reader.stopped ≡ None
  pub start : new.window.start ≡ old.window.start
  pub window : (input : List ℕ) → IsWindow input old.window → IsWindow input new.window

-- no matter what was read, a failure that is one of the text is so
abbrev pub BreaksOn : Printing → Failure → Option (List ℕ) → Option (List ℕ) → Type 0
BreaksOn old failure held now = IsOfText failure → (head text : List ℕ) (before : List Event)
    → IsWindow (head ++ text) old.window → old.window.start ≡ length head
    → HasGiven old.reader text before
    → Breaks old.reader old.settings old.path head text before failure held now

-- no matter what was read, the program has read a part of the text more, of which the reader has
-- given more events, and their lines were written
abbrev pub FollowsOn : Printing → List ℕ → Printing → Option (List ℕ) → Option (List ℕ) → Type 0
FollowsOn old part new held now = (head text : List ℕ) (earlier events : List Event)
    → Follows old head text earlier events → (more : List Event)
    × (Follows new head (text ++ part) earlier (events ++ more)
    × Appends held now (lines_at old.settings.layout old.path more))

-- no matter what was read, with a part of the text more the program fails so
abbrev pub FailsOn : Printing → List ℕ → EventState → Failure → Option (List ℕ) → Option (List ℕ)
    → Type 0
FailsOn old part limits failure held now = IsOfText failure → (head text : List ℕ)
    (earlier events : List Event) → Follows old head text earlier events
    → Breaks limits old.settings old.path head (text ++ part) events failure held now

-- no matter what was read, the text is whole, and the lines of its last events were written
abbrev pub EndsText : Printing → Printing → Option (List ℕ) → Option (List ℕ) → Type 0
EndsText old new held now = (head text : List ℕ) (earlier events : List Event)
    → Follows old head text earlier events → (more : List Event)
    × (IsText old.settings text (events ++ more)
    × (new.path ≡ reached old.settings (earlier ++ (events ++ more)))
    × IsWindow (head ++ text) new.window
    × Appends held now (lines_at old.settings.layout old.path more))

-- the text begins anew after these bytes, and else nothing is lost
pub record PassesOver (old : Printing) (bytes : List ℕ) (new : Printing) : Type 0 where
  pub settings : new.settings ≡ old.settings
  pub path : new.path ≡ old.path
  pub window : (input : List ℕ) → IsWindow input old.window
      → IsWindow (input ++ bytes) new.window × (new.window.start ≡ length (input ++ bytes))

-- ---- The input

-- the program has read these bytes of an input, to which more may come: some text was begun, and
-- the lines of all events so far were written after what was held
pub record Prints (p : Printing) (input : List ℕ) (held now : Option (List ℕ)) : Type 0 where
  pub head : List ℕ
  pub text : List ℕ
  pub earlier : List Event
  pub events : List Event
  pub follows : Follows p head text earlier events
  pub splits : input ≡ head ++ text
  pub before : IsBefore p.settings.by_lines p.settings head earlier
  pub within : IsWithin p.settings.by_lines text
  pub fresh : p.settings.by_lines ≡ true → p.begun ≡ false → (text ≡ []) × (events ≡ [])
  pub wrote : Appends held now (written p.settings (earlier ++ events))

-- the whole input has these events, and their lines were written
abbrev pub PrintsAll : Settings → List ℕ → Option (List ℕ) → Option (List ℕ) → Type 0
PrintsAll s input held now = (events : List Event)
    × (InputHas s.by_lines s input events × Appends held now (written s events))

-- before a text of the input stand these bytes, with these events; a reader has given these events
-- of a front of the text, or of all of it, and read no more; their lines were written; and the
-- reader stops there, as the failure says
pub record PrintsFront (s : Settings) (input : List ℕ) (failure : Failure) (held now : Option (List ℕ)) : Type 0 where
  pub head : List ℕ
  pub earlier : List Event
  pub before : IsBefore s.by_lines s head earlier
  pub front : List ℕ
  pub rest : List ℕ
  pub splits : input ≡ head ++ (front ++ rest)
  pub within : IsWithin s.by_lines front
  pub reader : EventState
  pub events : List Event
  pub limit : reader.text.depth ≡ s.depth
  pub given : HasGiven reader front events
  pub going : reader.stopped ≡ None
  pub ends : reader.tokens.ended ≡ true → IsAfter s.by_lines rest
  pub wrote : Appends held now (written s (earlier ++ events))
  pub told : IsFailureOf s.limit input (length head) reader failure

-- a failure that is one of the text is one of the input, after some events of it
abbrev pub PrintsUntil : Settings → List ℕ → Failure → Option (List ℕ) → Option (List ℕ) → Type 0
PrintsUntil s input failure held now = IsOfText failure → PrintsFront s input failure held now

-- the input is printed whole, or until the failure
abbrev pub TellsInput : Settings → List ℕ → Option (List ℕ) → Option (List ℕ)
    → Result (Unit {0}) Failure → Type 0
TellsInput s input held now (Ok done) = PrintsAll s input held now
TellsInput s input held now (Err failure) = PrintsUntil s input failure held now

-- some input was begun
abbrev pub IsReady : Printing → Type 0
IsReady p = (input : List ℕ) × Prints p input None None

-- what the program has read of any input it has read with these bytes more
abbrev pub PrintsMore : Printing → List ℕ → Printing → Option (List ℕ) → Option (List ℕ) → Type 0
PrintsMore old part new held now = (input : List ℕ) (had : Option (List ℕ))
    → Prints old input had held → Prints new (input ++ part) had now

-- with these bytes more the program fails so, whatever follows them
abbrev pub FailsMore : Printing → List ℕ → Failure → Option (List ℕ) → Option (List ℕ) → Type 0
FailsMore old part failure held now = (input rest : List ℕ) (had : Option (List ℕ))
    → Prints old input had held
    → PrintsUntil old.settings (input ++ (part ++ rest)) failure had now

-- the answer is the same, or the output could not be flushed
abbrev pub IsFlushed : Result (Unit {0}) Failure → Result (Unit {0}) Failure → Type 0
IsFlushed answer (Ok done) = answer ≡ Ok done
IsFlushed answer (Err failure) = (answer ≡ Err failure) ⊎ (¬ (IsOfText failure))
