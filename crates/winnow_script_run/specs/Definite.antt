-- Which answers no further input can change, and which answers of a script are given out.
use Rattle.std.specs.Prelude.{◌≡◌, ℕ, Bool, true, false, List, ◌++◌, take, map}
use Rattle.std.specs.List.{All, take_while}
use Rattle.winnow_stream.specs.Source.{Source}
use Rattle.winnow_stream.specs.Cursor.{Cursor, start, rest, answers_from}
use Rattle.winnow_script_run.specs.Needs.{call_need, is_met}
use Rattle.winnow_script_run.specs.declared.script.Step.{Step}
use Rattle.winnow_match.specs.declared.compare.CompareResult.{CompareResult}
use Rattle.winnow_match.specs.declared.compare.CompareResult.TheVariants as compared
use Rattle.winnow_match.specs.Bytes.{written}
use Rattle.winnow_match.specs.Comparison.{comparison}
use Rattle.winnow_match.specs.Search.{hit, needle_list}
use Rattle.winnow_match.specs.Stretch.{hit_is_definite}
use Rattle.winnow_script_run.specs.declared.search_steps.SearchStep.{SearchStep}
use Rattle.winnow_script_run.specs.declared.search_steps.SearchStep.TheVariants as step
use Rattle.winnow_script_run.specs.Searching.{ScriptKind, PlacedSearchAnswer, search_answer, search_next}

-- what a kind of pieces determines: what a set holds, whether a shortage is counted, and the bytes
-- of a token and of a literal
pub record PieceReading (T C L : Type 0) : Type 0 where
  pub holds : C → T → Bool
  pub counts_shortage : Bool
  pub write : T → List ℕ
  pub literal : L → List ℕ

-- the kind of stream whose comparisons and searches are those of the bytes
abbrev pub kind_on_pieces : {T C L : Type 0} → PieceReading T C L → ScriptKind T C L
kind_on_pieces k = record {
  holds = k.holds;
  counts_shortage = k.counts_shortage;
  compared = λ literal r. comparison (k.literal literal) (written k.write r);
  found = λ needles r. hit (needle_list k.literal needles) (written k.write r);
}

abbrev pub is_decided : CompareResult → Bool
is_decided (compared.Ok n) = true
is_decided compared.Incomplete = false
is_decided compared.Error = true

-- whether no further input can change what a call answers if r remains: what it needs is there
abbrev pub is_call_definite : {T C : Type 0} → (C → T → Bool) → Bool → Step C → Source T → Bool
is_call_definite holds counts_shortage s r = is_met holds counts_shortage (call_need s) r

module _ {T C L : Type 0} (k : PieceReading T C L) where
  abbrev pub is_definite : SearchStep C L → Source T → Bool
  is_definite (step.Call s) r = is_call_definite k.holds k.counts_shortage s r
  is_definite (step.Compare literal) r = is_decided (comparison (k.literal literal) (written k.write r))
  is_definite (step.Find needles) r = hit_is_definite (needle_list k.literal needles) (written k.write r)

  -- each answer, and whether it is definite
  abbrev pub judged : Source T → SearchStep C L → Cursor → PlacedSearchAnswer T × Bool
  judged all s at = (search_answer (kind_on_pieces k) all s at, is_definite s (rest all at))

  abbrev pub judged_answers : Source T → List (SearchStep C L) → List (PlacedSearchAnswer T × Bool)
  judged_answers all script = answers_from (judged all) (search_next all) script start

  -- the longest front of the answers in which each one is definite
  abbrev pub out : Source T → List (SearchStep C L) → List (PlacedSearchAnswer T)
  out all script = map (λ a. a.0) (take_while (λ a. a.1) (judged_answers all script))

-- if the first n answers are definite, they are also the first n with more input appended, and
-- definite there
abbrev pub StableUnderMore : (T C L : Type 0) → Type 0
StableUnderMore T C L = (k : PieceReading T C L) (script : List (SearchStep C L)) (all more : Source T) (n : ℕ) → All (λ a. a.1 ≡ true) (take n (judged_answers k all script)) → take n (judged_answers k (all ++ more) script) ≡ take n (judged_answers k all script)
