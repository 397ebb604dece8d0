-- What is written of the events that are there.
use Rattle.std.specs.Prelude.{◌≡◌, ℕ, false, List, ◌++◌, Option, None, Some, Result, Ok, Err, ⊤}
use Rattle.std.specs.Io.KnownBytes.{Appends}
use Rattle.std.specs.declared.alloc.AllocError.{AllocError}
use Rattle.winnow_reader.specs.declared.next.Next.{Next}
use Rattle.winnow_reader.specs.declared.next.Next.TheVariants as next
use Rattle.format_json_events.specs.Reading.{EventState, HasGiven, KeepsLimits, IsWhole}
use Rattle.format_json_events.specs.declared.event_reader.Event.{Event}
use Rattle.format_json_events.specs.declared.event_reader.EventError.{EventError}
use Rattle.format_json_events.specs.declared.event_reader.EventError.TheVariants as error
use Rattle.format_json_events.specs.declared.event_reader.WithinError.{WithinError}
use Rattle.format_json_events.specs.declared.event_reader.WithinError.TheVariants as within
use Rattle.wb_json.specs.Paths.{Place, moved_by}
use Rattle.wb_json.specs.Lines.{lines_at}
use Rattle.wb_json.specs.Faults.{FindsFault, error_of}
use Rattle.wb_json.specs.declared.settings.Layout.{Layout}
use Rattle.wb_json.specs.declared.settings.Settings.{Settings}
use Rattle.wb_json.specs.declared.failure.Fault.{Fault}
use Rattle.wb_json.specs.declared.failure.Fault.TheVariants.{TooLong}
use Rattle.wb_json.specs.declared.taking.Stop.{Stop}
use Rattle.wb_json.specs.declared.taking.Stop.TheVariants as stop

-- no matter what was given, more events were given since; their lines, which begin at the one
-- place, were written, and they lead to the other
abbrev pub PrintsOn : Layout → EventState → Place → EventState → Place → Option (List ℕ)
    → Option (List ℕ) → Type 0
PrintsOn layout old place new there held now = (text : List ℕ) (before : List Event)
    → HasGiven old text before → (more : List Event) × (HasGiven new text (before ++ more)
    × (there ≡ moved_by place more) × Appends held now (lines_at layout place more))

-- no matter what was given, a reader that has given more events, and read no more, finds this fault
-- at the place; their lines were written
abbrev pub StopsAfter : Settings → EventState → Place → Fault → ℕ → Option (List ℕ)
    → Option (List ℕ) → Type 0
StopsAfter s old place fault at held now = (r : EventState) × ((there : Place)
    × (PrintsOn s.layout old place r there held now × (r.stopped ≡ None) × KeepsLimits old r
    × FindsFault s.limit r fault at))

-- the events that are there were taken, or the next one, and their lines were written: then there
-- may be more; or more bytes are needed; or the text is whole; or it has a fault
abbrev pub IsTaken : Settings → EventState → Place → Result (Next (Unit {0})) Stop → EventState
    → Place → Option (List ℕ) → Option (List ℕ) → Type 0
IsTaken s old place (Ok (next.Value u)) new there held now =
    (new.stopped ≡ None) × PrintsOn s.layout old place new there held now
IsTaken s old place (Ok next.NeedsMore) new there held now = (new.stopped ≡ None)
    × PrintsOn s.layout old place new there held now × (new.tokens.ended ≡ false)
IsTaken s old place (Ok next.Done) new there held now =
    (new.stopped ≡ None) × PrintsOn s.layout old place new there held now × IsWhole new
IsTaken s old place (Err (stop.Faulty at fault)) new there held now =
    StopsAfter s old place fault at held now
IsTaken s old place (Err (stop.Stopped trouble)) new there held now = ⊤

-- the error is the fault at its place; or memory was refused
abbrev pub IsStopAt : EventError → Stop → Type 0
IsStopAt e (stop.Faulty at fault) = error_of fault at ≡ Some e
IsStopAt e (stop.Stopped trouble) = (refused : AllocError) × (e ≡ error.Refused refused)

-- the same within a limit, where the error may be that a token is too long
abbrev pub IsStopOf : ℕ → WithinError → Stop → Type 0
IsStopOf limit (within.TooLong place) s = s ≡ stop.Faulty place (TooLong limit)
IsStopOf limit (within.Failed e) s = IsStopAt e s
