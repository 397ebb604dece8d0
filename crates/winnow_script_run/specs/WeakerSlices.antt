-- Answers under one relation of slices are answers under each weaker one. `answer_step` says more
-- of a slice than `is_slice` does. An engine that needs less goes from the one to the other by
-- these lemmas.
use Rattle.std.specs.Prelude.{ℕ, ◌-◌, Bool, List, [], ◌∷◌, Option}
use Rattle.std.specs.Global.{Vec}
use Rattle.std.specs.declared.ops.Range.{Range}
use Rattle.winnow_stream.specs.declared.needed.Needed.{Needed}
use Rattle.winnow_stream.specs.Source.{Source}
use Rattle.winnow_stream.specs.Front.{back}
use Rattle.winnow_stream.specs.Cursor.{Cursor, start}
use Rattle.winnow_match.specs.declared.compare.CompareResult.{CompareResult}
use Rattle.winnow_match.specs.declared.needles.Needles.{Needles}
use Rattle.winnow_script_run.specs.declared.script.Answer.{Answer}
use Rattle.winnow_script_run.specs.declared.script.Answer.TheVariants as answer
use Rattle.winnow_script_run.specs.declared.script.Step.{Step}
use Rattle.winnow_script_run.specs.declared.search_steps.SearchStep.{SearchStep}
use Rattle.winnow_script_run.specs.declared.search_steps.SearchAnswer.{SearchAnswer}
use Rattle.winnow_script_run.specs.declared.search_steps.SearchAnswer.TheVariants as search
use Rattle.winnow_script_run.specs.Script.{PlacedAnswer, StandsFor, AreGiven, IsAnswer, AreAnswers, step_next}
use Rattle.winnow_script_run.specs.Searching.{PlacedSearchAnswer, SearchStandsFor, IsSearchAnswer, AreSearchAnswers, search_next}

-- what holds of each given answer by itself, holds of them all
module _ {S G : Type 0} (Given Weaker : S → Cursor → G → Type 0) (moves : S → Cursor → Cursor) (each : (s : S) (at : Cursor) (g : G) → Given s at g → Weaker s at g) where
  pub AreGiven-weaker : (script : List S) (at : Cursor) (out : List G)
      → AreGiven Given moves script at out → AreGiven Weaker moves script at out
  AreGiven-weaker [] at [] h = tt
  AreGiven-weaker [] at (g ∷ gs) h = absurd h
  AreGiven-weaker (s ∷ ss) at [] h = absurd h
  AreGiven-weaker (s ∷ ss) at (g ∷ gs) h = (each s at g h.0, AreGiven-weaker ss (moves s at) gs h.1)

module _ {T S : Type 0} (strong weak : S → Source T → ℕ → Type 0) (weaker : (s : S) (r : Source T) (n : ℕ) → strong s r n → weak s r n) (all : Source T) where
  -- only a slice is given by the relation
  pub StandsFor-weaker : (a : PlacedAnswer T) (given : Answer T S (Vec (ℕ × T)) Needed)
      → StandsFor strong all a given → StandsFor weak all a given
  StandsFor-weaker (answer.Token t) given h = h
  StandsFor-weaker (answer.Slice p) given h = (h.0, h.1, weaker h.0 (back all p.start) (p.end - p.start) h.2)
  StandsFor-weaker (answer.Offset n) given h = h
  StandsFor-weaker (answer.At r) given h = h
  StandsFor-weaker (answer.Flag b) given h = h
  StandsFor-weaker (answer.First o) given h = h
  StandsFor-weaker (answer.Items p) given h = h
  StandsFor-weaker (answer.Marked k) given h = h
  StandsFor-weaker answer.Done given h = h
  StandsFor-weaker answer.BadOffset given h = h
  StandsFor-weaker answer.NoMark given h = h
  StandsFor-weaker answer.LaterMark given h = h

  -- an answer of a step that may compare or search stands also with the weaker relation
  pub SearchStandsFor-weaker : (a : PlacedSearchAnswer T) (given : SearchAnswer T S (Vec (ℕ × T)))
      → SearchStandsFor strong all a given → SearchStandsFor weak all a given
  SearchStandsFor-weaker (search.Call a) given h = (h.0, h.1, StandsFor-weaker a h.0 h.2)
  SearchStandsFor-weaker (search.Compared c) given h = h
  SearchStandsFor-weaker (search.Hit o) given h = h

  -- the answers of a script
  pub AreAnswers-weaker : {C : Type 0} (may_answer : C → T → Bool → Type 0) (counts_shortage : Bool)
      (script : List (Step C)) (out : List (Answer T S (Vec (ℕ × T)) Needed))
      → AreAnswers may_answer strong counts_shortage all script out
      → AreAnswers may_answer weak counts_shortage all script out
  AreAnswers-weaker may_answer counts_shortage script out h =
      AreGiven-weaker (IsAnswer may_answer strong counts_shortage all) (IsAnswer may_answer weak counts_shortage all) (step_next all)
      (λ s at g given holds computes. StandsFor-weaker _ g (given holds computes)) script start out h

  -- the answers of a script that also compares and searches
  pub AreSearchAnswers-weaker : {C L : Type 0} (may_answer : C → T → Bool → Type 0)
      (counts_shortage : Bool) (compared : L → Source T → CompareResult)
      (found : Needles L → Source T → Option (Range ℕ)) (script : List (SearchStep C L))
      (out : List (SearchAnswer T S (Vec (ℕ × T))))
      → AreSearchAnswers may_answer strong counts_shortage compared found all script out
      → AreSearchAnswers may_answer weak counts_shortage compared found all script out
  AreSearchAnswers-weaker may_answer counts_shortage compared found script out h =
      AreGiven-weaker (IsSearchAnswer may_answer strong counts_shortage compared found all) (IsSearchAnswer may_answer weak counts_shortage compared found all) (search_next all)
      (λ s at g given holds computes. SearchStandsFor-weaker _ g (given holds computes)) script start out h
