-- Scripts that also compare and search: two further steps, beside the calls.
use Rattle.std.specs.Prelude.{◌≡◌, ℕ, Bool, List, Option, ⊤}
use Rattle.std.specs.List.{All}
use Rattle.std.specs.Global.{Vec}
use Rattle.winnow_script_run.specs.declared.script.Answer.{Answer}
use Rattle.std.specs.declared.ops.Range.{Range}
use Rattle.winnow_stream.specs.declared.needed.Needed.{Needed}
use Rattle.winnow_stream.specs.Source.{Source}
use Rattle.winnow_stream.specs.Cursor.{Cursor, start, rest, answers_from, cursor_after}
use Rattle.winnow_script_run.specs.Script.{step_answer, step_next, StandsFor, SetComputes, AreGiven, IsReady}
use Rattle.winnow_script_run.specs.RunState.{RunState, StandsAt, StandsSomewhere, IsInReach, StayLocated}
use Rattle.winnow_match.specs.declared.compare.CompareResult.{CompareResult}
use Rattle.winnow_match.specs.declared.needles.Needles.{Needles}
use Rattle.winnow_script_run.specs.declared.search_steps.SearchStep.{SearchStep}
use Rattle.winnow_script_run.specs.declared.search_steps.SearchStep.TheVariants as step
use Rattle.winnow_script_run.specs.declared.search_steps.SearchAnswer.{SearchAnswer}
use Rattle.winnow_script_run.specs.declared.search_steps.SearchAnswer.TheVariants as answer

-- what a kind of stream determines: what a set holds, whether a shortage is counted, and what
-- comparisons and searches answer
pub record ScriptKind (T C L : Type 0) : Type 0 where
  pub holds : C → T → Bool
  pub counts_shortage : Bool
  pub compared : L → Source T → CompareResult
  pub found : Needles L → Source T → Option (Range ℕ)

-- an answer whose slices and items are places in the list
abbrev pub PlacedSearchAnswer : Type 0 → Type 0
PlacedSearchAnswer T = SearchAnswer T (Range ℕ) (Range ℕ)

-- the cursor after a step: only a call moves it
module _ {T C L : Type 0} (all : Source T) where
  abbrev pub search_next : SearchStep C L → Cursor → Cursor
  search_next (step.Call call) at = step_next all call at
  search_next (step.Compare literal) at = at
  search_next (step.Find needles) at = at

-- what a step answers at the cursor
module _ {T C L : Type 0} (kind : ScriptKind T C L) (all : Source T) where
  abbrev pub search_answer : SearchStep C L → Cursor → PlacedSearchAnswer T
  search_answer (step.Call call) at = answer.Call (step_answer kind.holds kind.counts_shortage all call at)
  search_answer (step.Compare literal) at = answer.Compared (kind.compared literal (rest all at))
  search_answer (step.Find needles) at = answer.Hit (kind.found needles (rest all at))

  -- the answers of a script
  abbrev pub search_answers : List (SearchStep C L) → List (PlacedSearchAnswer T)
  search_answers script = answers_from search_answer (search_next all) script start

-- the cursor after a script
abbrev pub search_cursor : {T C L : Type 0} → Source T → List (SearchStep C L) → Cursor
search_cursor all script = cursor_after (search_next all) script start

-- the given answer is the one that the definition gives
module _ {T S : Type 0} (is_slice : S → Source T → ℕ → Type 0) (all : Source T) where
  abbrev pub SearchStandsFor : PlacedSearchAnswer T → SearchAnswer T S (Vec (ℕ × T)) → Type 0
  SearchStandsFor (answer.Call a) given = (told : Answer T S (Vec (ℕ × T)) Needed) × (given ≡ answer.Call told) × StandsFor is_slice all a told
  SearchStandsFor (answer.Compared c) given = given ≡ answer.Compared c
  SearchStandsFor (answer.Hit o) given = given ≡ answer.Hit o

-- the set that a step names, if any, answers what `holds` says
abbrev pub SearchComputes : {C T L : Type 0} → (C → T → Bool → Type 0) → (C → T → Bool)
    → SearchStep C L → Type 0
SearchComputes may_answer holds (step.Call call) = SetComputes may_answer holds call
SearchComputes may_answer holds (step.Compare literal) = ⊤
SearchComputes may_answer holds (step.Find needles) = ⊤

-- the set that a step names, if any, meets the condition under which it may be asked
abbrev pub IsSearchReady : {C L : Type 0} → (C → Type 0) → SearchStep C L → Type 0
IsSearchReady can (step.Call call) = IsReady can call
IsSearchReady can (step.Compare literal) = ⊤
IsSearchReady can (step.Find needles) = ⊤

-- each set that a script names meets that condition
abbrev pub AreSearchReady : {C L : Type 0} → (C → Type 0) → List (SearchStep C L) → Type 0
AreSearchReady can script = All (IsSearchReady can) script

-- the kind of stream that a set, a shortage, comparisons and searches make
abbrev pub script_kind : {T C L : Type 0} → (C → T → Bool) → Bool → (L → Source T → CompareResult)
    → (Needles L → Source T → Option (Range ℕ)) → ScriptKind T C L
script_kind holds counts_shortage compared found = record { holds = holds; counts_shortage = counts_shortage; compared = compared; found = found }

-- the given answer stands for the step's answer, for each `holds` that the step's set computes
abbrev pub IsSearchAnswer : {C T S L : Type 0} → (C → T → Bool → Type 0)
    → (S → Source T → ℕ → Type 0) → Bool → (L → Source T → CompareResult)
    → (Needles L → Source T → Option (Range ℕ)) → Source T → SearchStep C L → Cursor
    → SearchAnswer T S (Vec (ℕ × T)) → Type 0
IsSearchAnswer {C} {T} may_answer is_slice counts_shortage compared found all step at given =
    (holds : C → T → Bool) → SearchComputes may_answer holds step
    → SearchStandsFor is_slice all
    (search_answer (script_kind holds counts_shortage compared found) all step at) given

-- each given answer is one of its step; a set that does not compute has no effect on other answers
abbrev pub AreSearchAnswers : {C T S L : Type 0} → (C → T → Bool → Type 0)
    → (S → Source T → ℕ → Type 0) → Bool → (L → Source T → CompareResult)
    → (Needles L → Source T → Option (Range ℕ)) → Source T → List (SearchStep C L)
    → List (SearchAnswer T S (Vec (ℕ × T))) → Type 0
AreSearchAnswers may_answer is_slice counts_shortage compared found all script given =
    AreGiven (IsSearchAnswer may_answer is_slice counts_shortage compared found all) (search_next all) script start given

-- what remains of a list after a script
abbrev pub rest_after_search : {C T L : Type 0} → Source T → List (SearchStep C L) → Source T
rest_after_search all script = rest all (search_cursor all script)

-- the mark that a step goes back to, if there is one, is at or after the origin
abbrev pub IsSearchInReach : {C T L : Type 0} → SearchStep C L → RunState T → Type 0
IsSearchInReach (step.Call call) here = IsInReach call here
IsSearchInReach (step.Compare literal) here = ⊤
IsSearchInReach (step.Find needles) here = ⊤

-- the run stands somewhere from where the step can be taken
abbrev pub MayTakeSearchStep : {C T L : Type 0} → SearchStep C L → RunState T → Type 0
MayTakeSearchStep step here = StandsSomewhere here × IsSearchInReach step here

-- the given answer is the step's answer, at each cursor where the run may stand
abbrev pub AnswersSearchStep : {C T S L : Type 0} → (C → T → Bool → Type 0)
    → (S → Source T → ℕ → Type 0) → Bool → (L → Source T → CompareResult)
    → (Needles L → Source T → Option (Range ℕ)) → SearchStep C L → RunState T
    → SearchAnswer T S (Vec (ℕ × T)) → Type 0
AnswersSearchStep {C} {T} may_answer is_slice counts_shortage compared found step here given =
    (all : Source T) (at : Cursor) → StandsAt here all at
    → IsSearchAnswer may_answer is_slice counts_shortage compared found all step at given

-- after the step the run stands where the step leaves the cursor, for each cursor where it may have
-- stood
abbrev pub StandsAfterSearchStep : {C T L : Type 0} → SearchStep C L → RunState T → RunState T
    → Type 0
StandsAfterSearchStep {C} {T} step here there = (all : Source T) (at : Cursor) → StandsAt here all at → StandsAt there all (search_next all step at)

-- the given answer is the step's, and the run stands where the step leads, as far after its origin
-- in the whole input as before
pub record TakesSearchStep {C T S L : Type 0} (may_answer : C → T → Bool → Type 0) (is_slice : S → Source T → ℕ → Type 0) (counts_shortage : Bool) (compared : L → Source T → CompareResult) (found : Needles L → Source T → Option (Range ℕ)) (step : SearchStep C L) (here there : RunState T) (origin from to : Option ℕ) (given : SearchAnswer T S (Vec (ℕ × T))) : Type 0 where
  pub answer : AnswersSearchStep may_answer is_slice counts_shortage compared found step here given
  pub stands : StandsAfterSearchStep step here there
  pub located : StayLocated origin here from there to
