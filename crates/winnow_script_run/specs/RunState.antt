-- The state of a run, what one step of its script answers, and the state that the step leaves.
use Rattle.std.specs.Prelude.{◌≡◌, ℕ, ◌-◌, ◌≤◌, Bool, Option, List, length, drop, slice_get, IfSome, ⊤}
use Rattle.std.specs.List.{AllZip}
use Rattle.std.specs.Global.{Vec}
use Rattle.winnow_stream.specs.Source.{Source, width, HasPositiveWidths}
use Rattle.winnow_stream.specs.Cursor.{Cursor, place}
use Rattle.winnow_stream.specs.Location.{location_behind}
use Rattle.winnow_stream.specs.declared.needed.Needed.{Needed}
use Rattle.winnow_script_run.specs.Marks.{places_of, HasRoom}
use Rattle.winnow_script_run.specs.Script.{step_next, IsAnswer}
use Rattle.winnow_script_run.specs.declared.marks.Marks.{Marks}
use Rattle.winnow_script_run.specs.declared.marks.Origin.{Origin}
use Rattle.winnow_script_run.specs.declared.script.Answer.{Answer}
use Rattle.winnow_script_run.specs.declared.script.Step.{Step}
use Rattle.winnow_script_run.specs.declared.script.Step.TheVariants as step

-- the state of a run: what remained at its origin, the places of the origin and of the end, what
-- remains now, and the places of its marks
pub record RunState (T : Type 0) : Type 0 where
  pub origin : Source T
  pub base : ℕ
  pub end : ℕ
  pub rest : Source T
  pub marks : List ℕ

-- the state of a run, from a stream and its marks
abbrev pub run_state : {T K : Type 0} → (K → Source T) → Origin K → Source T → Marks → RunState T
run_state remained origin rest marks = record {
  origin = remained origin.checkpoint;
  base = origin.place;
  end = origin.end;
  rest = rest;
  marks = places_of marks;
}

-- the mark is the place that has i tokens before it
pub record IsMarkAt {T : Type 0} (all : Source T) (mark : ℕ) (i : ℕ) : Type 0 where
  pub is : mark ≡ place all i
  pub within : i ≤ length all

-- a run in this state stands at the cursor `at` of the list `all`
pub record StandsAt {T : Type 0} (here : RunState T) (all : Source T) (at : Cursor) : Type 0 where
  pub widths : HasPositiveWidths all
  pub rest : here.rest ≡ drop at.index all
  pub within : at.index ≤ length all
  pub marks : AllZip (IsMarkAt all) here.marks at.marks
  pub end : here.end ≡ width all
  pub first : ℕ
  pub base : here.base ≡ place all first
  pub origin : here.origin ≡ drop first all
  pub first_within : first ≤ length all

-- a run stands at some cursor of some list
abbrev pub StandsSomewhere : {T : Type 0} → RunState T → Type 0
StandsSomewhere {T} here = (all : Source T) × (at : Cursor) × StandsAt here all at

-- the step takes no memory: it lists no items, and there is room for the mark that it makes
abbrev pub TakesNoMemory : {C : Type 0} → Step C → Marks → Type 0
TakesNoMemory step.Each marks = ⊥
TakesNoMemory step.Mark marks = HasRoom marks
TakesNoMemory _ marks = ⊤

-- the mark that a step goes back to, if there is one, is at or after the origin
abbrev pub IsInReach : {C T : Type 0} → Step C → RunState T → Type 0
IsInReach (step.Reset k) here = IfSome (slice_get here.marks k) (λ mark. here.base ≤ mark)
IsInReach _ here = ⊤

-- the run stands somewhere from where the step can be taken
abbrev pub MayTake : {C T : Type 0} → Step C → RunState T → Type 0
MayTake step here = StandsSomewhere here × IsInReach step here

-- the given answer is the step's answer, at each cursor where the run may stand
abbrev pub AnswersStep : {C T S : Type 0} → (C → T → Bool → Type 0) → (S → Source T → ℕ → Type 0)
    → Bool → Step C → RunState T → Answer T S (Vec (ℕ × T)) Needed → Type 0
AnswersStep {C} {T} may_answer is_slice counts_shortage step here given =
    (all : Source T) (at : Cursor) → StandsAt here all at
    → IsAnswer may_answer is_slice counts_shortage all step at given

-- after the step the run stands where the step leaves the cursor, for each cursor where it may have
-- stood
abbrev pub StandsAfter : {C T : Type 0} → Step C → RunState T → RunState T → Type 0
StandsAfter {C} {T} step here there = (all : Source T) (at : Cursor) → StandsAt here all at → StandsAt there all (step_next all step at)

-- in the whole input, the origin and the stream are as far after the start of the list as the run
-- says
abbrev pub AreLocated : {T : Type 0} → Option ℕ → RunState T → Option ℕ → Option ℕ → Type 0
AreLocated whole here origin place = (origin ≡ location_behind whole here.base) × (place ≡ location_behind whole (here.end - width here.rest))

-- they are so after a step, if they were so before it
abbrev pub StayLocated : {T : Type 0} → Option ℕ → RunState T → Option ℕ → RunState T → Option ℕ
    → Type 0
StayLocated origin here from there to = (whole : Option ℕ) → AreLocated whole here origin from → AreLocated whole there origin to

-- the given answer is the step's, and the run stands where the step leads, as far after its origin
-- in the whole input as before
pub record TakesStep {C T S : Type 0} (may_answer : C → T → Bool → Type 0) (is_slice : S → Source T → ℕ → Type 0) (counts_shortage : Bool) (step : Step C) (here there : RunState T) (origin from to : Option ℕ) (given : Answer T S (Vec (ℕ × T)) Needed) : Type 0 where
  pub answer : AnswersStep may_answer is_slice counts_shortage step here given
  pub stands : StandsAfter step here there
  pub located : StayLocated origin here from there to
