-- What a waiting step has settled, with one definition for each kind of step, in terms of the step
-- and what remains.
use Rattle.std.specs.Prelude.{◌≡◌, ℕ, ◌+◌, ◌≤◌, ◌<◌, Bool, true, false, List, ◌++◌, length, take, drop, Option, None, Some, Result, Ok, Err, ⊤}
use Rattle.std.specs.List.{list_any}
use Rattle.std.specs.declared.ops.Range.{Range}
use Rattle.winnow_stream.specs.declared.needed.Needed.{Needed}
use Rattle.winnow_match.specs.declared.compare.CompareResult.{CompareResult}
use Rattle.winnow_match.specs.declared.compare.CompareResult.TheVariants as compared
use Rattle.winnow_stream.specs.Source.{Source, first_offset}
use Rattle.winnow_stream.specs.Front.{is_offset, count_to, front}
use Rattle.winnow_script_run.specs.declared.script.Step.{Step}
use Rattle.winnow_script_run.specs.declared.need.Need.{Need}
use Rattle.winnow_script_run.specs.declared.need.Need.TheVariants as need
use Rattle.winnow_script_run.specs.Needs.{call_need}
use Rattle.winnow_match.specs.Bytes.{written}
use Rattle.winnow_match.specs.Comparison.{is_prefix}
use Rattle.winnow_match.specs.Search.{is_empty, needle_at, needle_of, needle_list}
use Rattle.winnow_script_run.specs.declared.search_steps.SearchStep.{SearchStep}
use Rattle.winnow_script_run.specs.declared.search_steps.SearchStep.TheVariants as step
use Rattle.winnow_script_run.specs.Definite.{PieceReading}
use Rattle.winnow_script_attempt.specs.declared.calls.Settled.{Settled}

-- a token of a set: an offset up to which the set holds none
pub record NoneInSet {T : Type 0} (holds : T → Bool) (r : Source T) (n : ℕ) : Type 0 where
  pub offset : is_offset r n ≡ true
  pub none : first_offset holds (front r n) ≡ None

-- `Find`: a place before which no needle stands, no matter what follows
pub record NoneOccurs (needles : List (List ℕ)) (bytes : List ℕ) (n : ℕ) : Type 0 where
  pub within : n ≤ length bytes
  pub none : (m : List ℕ) (i : ℕ) → i < n → needle_at needles (drop i (bytes ++ m)) ≡ None

-- `Compare`: a length up to which the bytes and the literal are the same
pub record AreSame (literal bytes : List ℕ) (n : ℕ) : Type 0 where
  pub within : n ≤ length bytes
  pub fits : n ≤ length literal
  pub same : take n bytes ≡ take n literal

-- a search: no needle stands before its width, no matter what follows; there the bytes that were
-- compared are those of its needle, and no needle listed before that one comes to stand there
pub record IsSearchSettled (needles : List (List ℕ)) (bytes : List ℕ) (settled : Settled) : Type 0 where
  pub none : NoneOccurs needles bytes settled.width
  pub same : AreSame (needle_of needles settled.needle) (drop settled.width bytes) settled.compared
  pub passed : (m : List ℕ) (i : ℕ) → i < settled.needle
      → is_prefix (needle_of needles i) (drop settled.width (bytes ++ m)) ≡ false
  pub some : 0 < settled.compared → list_any is_empty needles ≡ false

-- nothing is settled
abbrev pub nothing_settled : Settled
nothing_settled = record { width = 0; tokens = 0; needle = 0; compared = 0 }

-- a number of tokens: the offset after `count` of them, which are no more than are asked for
pub record AreCounted {T : Type 0} (asked : ℕ) (r : Source T) (n count : ℕ) : Type 0 where
  pub offset : is_offset r n ≡ true
  pub counted : count_to r n ≡ count
  pub fits : count ≤ asked

-- where a need waits, the width n is settled, and `tokens` if tokens are counted
module _ {T C : Type 0} (holds : C → T → Bool) where
  abbrev pub IsNeedSettled : Need C → Source T → ℕ → ℕ → Type 0
  IsNeedSettled (need.TokenOf c) r n tokens = NoneInSet (holds c) r n
  IsNeedSettled (need.Tokens asked) r n tokens = AreCounted asked r n tokens
  IsNeedSettled _ r n tokens = ⊤

-- a waiting call has settled what its need has
abbrev pub IsCallSettled : {T C : Type 0} → (C → T → Bool) → Step C → Source T → ℕ → ℕ → Type 0
IsCallSettled holds s r n tokens = IsNeedSettled holds (call_need s) r n tokens

module _ {T C L : Type 0} (k : PieceReading T C L) where
  abbrev pub IsSettled : SearchStep C L → Source T → Settled → Type 0
  IsSettled (step.Call s) r settled = IsCallSettled k.holds s r settled.width settled.tokens
  IsSettled (step.Compare literal) r settled = AreSame (k.literal literal) (written k.write r) settled.width
  IsSettled (step.Find needles) r settled = IsSearchSettled (needle_list k.literal needles) (written k.write r) settled

  -- what a search has settled
  abbrev pub IsSearched : SearchStep C L → Source T → Settled → Type 0
  IsSearched (step.Find needles) r settled = IsSearchSettled (needle_list k.literal needles) (written k.write r) settled
  IsSearched _ r settled = ⊤

-- ---- an answer that was found from n on, as an answer for the whole

abbrev pub shifted : ℕ → Option (Range ℕ) → Option (Range ℕ)
shifted n None = None
shifted n (Some p) = Some (record { start = n + p.start; end = n + p.end })

abbrev pub longer : ℕ → CompareResult → CompareResult
longer n (compared.Ok k) = compared.Ok (n + k)
longer n compared.Incomplete = compared.Incomplete
longer n compared.Error = compared.Error

abbrev pub further : ℕ → Result ℕ Needed → Result ℕ Needed
further n (Ok w) = Ok (n + w)
further n (Err e) = Err e
