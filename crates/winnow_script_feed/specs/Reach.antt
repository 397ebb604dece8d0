-- How far a run over pieces has come on the joined input, and how far back its remaining steps can
-- reach.
use Rattle.std.specs.Prelude.{◌≡◌, ℕ, min, Bool, true, List, [], ◌∷◌, length, Option, None, unwrap_or}
use Rattle.winnow_stream.specs.Source.{Source}
use Rattle.winnow_stream.specs.Cursor.{Cursor, rest}
use Rattle.winnow_script_run.specs.Needs.{call_mark, mark_of}
use Rattle.winnow_script_run.specs.declared.search_steps.SearchStep.{SearchStep}
use Rattle.winnow_script_run.specs.declared.search_steps.SearchStep.TheVariants as step
use Rattle.winnow_script_run.specs.Searching.{PlacedSearchAnswer, search_answer, search_next}
use Rattle.winnow_script_run.specs.Definite.{PieceReading, kind_on_pieces, is_definite}

-- from the cursor `from`, the first steps have these answers and leave the cursor `to`; if
-- `strict`, each answer is definite
module _ {T C L : Type 0} (strict : Bool) (k : PieceReading T C L) (all : Source T) where
  abbrev pub Reaches : Cursor → List (SearchStep C L) → List (PlacedSearchAnswer T) → Cursor
      → Type 0
  Reaches from steps [] to = from ≡ to
  Reaches from [] (a ∷ answers) to = ⊥
  Reaches from (s ∷ steps) (a ∷ answers) to = (strict ≡ true → is_definite k s (rest all from) ≡ true) × (a ≡ search_answer (kind_on_pieces k) all s from) × Reaches (search_next all s from) steps answers to

-- the number of the mark that a step names, if it names one
abbrev pub step_mark : {C L : Type 0} → SearchStep C L → Option ℕ
step_mark (step.Call s) = call_mark s
step_mark (step.Compare literal) = None
step_mark (step.Find needles) = None

-- the index of the mark that a step names, or that of the cursor
abbrev pub named_index : {C L : Type 0} → Cursor → SearchStep C L → ℕ
named_index at s = unwrap_or (mark_of at.marks (step_mark s)) at.index

-- the least of the cursor's index and those of the marks made so far that the steps name
abbrev pub least_index : {C L : Type 0} → List (SearchStep C L) → Cursor → ℕ
least_index [] at = at.index
least_index (s ∷ steps) at = min (named_index at s) (least_index steps at)

-- the index from which the remaining steps need the list, or the list's length if no step remains
abbrev pub needed_from : {T C L : Type 0} → Source T → List (SearchStep C L) → Cursor → ℕ
needed_from all [] at = length all
needed_from all (s ∷ steps) at = least_index (s ∷ steps) at

-- ---- the same in terms of places

-- the place of the mark that a step names, or the cursor's place
abbrev pub named_place : {C L : Type 0} → ℕ → List ℕ → SearchStep C L → ℕ
named_place at marks s = unwrap_or (mark_of marks (step_mark s)) at

-- the least of a place and those that the steps name
abbrev pub least_place : {C L : Type 0} → ℕ → List ℕ → ℕ → List (SearchStep C L) → ℕ
least_place at marks least [] = least
least_place at marks least (s ∷ steps) = min (named_place at marks s) (least_place at marks least steps)

-- the place from which the remaining steps need the input that ends at `end`
abbrev pub needed_place : {C L : Type 0} → ℕ → ℕ → List ℕ → List (SearchStep C L) → ℕ
needed_place end at marks [] = end
needed_place end at marks (s ∷ steps) = least_place at marks at (s ∷ steps)
