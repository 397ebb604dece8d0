-- What a step answers and where it leads, in terms of what remains, the place of the cursor and the
-- places of the marks. A feed knows these, however much it has kept of the input.
use Rattle.std.specs.Prelude.{◌≡◌, ℕ, ◌+◌, ◌-◌, nat_le, Bool, true, false, cond, List, [], ◌∷◌, ◌++◌, length, Option, None, Some, unwrap_or, ◌≤◌, vec_len, vec_capacity}
use Rattle.std.specs.Global.{Vec}
use Rattle.winnow_stream.specs.Source.{Source, width}
use Rattle.winnow_stream.specs.Front.{is_offset}
use Rattle.winnow_script_run.specs.Needs.{call_mark, mark_of, Move, stays, past_token, past_width, to_end, to_mark, marking, call_move}
use Rattle.winnow_script_run.specs.Script.{PlacedAnswer, call_answer, reset_answer}
use Rattle.winnow_script_run.specs.declared.script.Step.{Step}
use Rattle.winnow_script_run.specs.declared.script.Answer.TheVariants as answer
use Rattle.winnow_match.specs.Bytes.{written}
use Rattle.winnow_match.specs.Comparison.{comparison}
use Rattle.winnow_match.specs.Search.{hit, needle_list}
use Rattle.winnow_sets.specs.Sets.{char_ranges, in_ranges}
use Rattle.winnow_sets.specs.declared.char_set.CharSet.{CharSet}
use Rattle.winnow_script_run.specs.declared.search_steps.SearchStep.{SearchStep}
use Rattle.winnow_script_run.specs.declared.search_steps.SearchStep.TheVariants as step
use Rattle.winnow_script_run.specs.declared.search_steps.SearchAnswer.TheVariants as search_answered
use Rattle.winnow_script_run.specs.Searching.{PlacedSearchAnswer}
use Rattle.winnow_script_attempt.specs.declared.calls.Seen.{Seen}
use Rattle.winnow_script_attempt.specs.declared.told.Told.{Told}
use Rattle.winnow_script_attempt.specs.declared.attempts.Attempt.{Attempt}
use Rattle.winnow_script_attempt.specs.declared.attempts.Attempt.TheVariants as attempt
use Rattle.winnow_script_attempt.specs.Settled.{IsSettled}
use Rattle.winnow_script_run.specs.Definite.{PieceReading, is_call_definite, is_definite}

-- what a set of characters holds, for tokens that stand for characters
abbrev pub in_set : {T : Type 0} → (T → ℕ) → CharSet → T → Bool
in_set code set token = in_ranges (char_ranges set) (code token)

-- how pieces are read: by the numbers and the bytes of tokens, and the bytes of literals
abbrev pub piece_reading : {T L : Type 0} → (T → ℕ) → Bool → (T → List ℕ) → (L → List ℕ)
    → PieceReading T CharSet L
piece_reading code counts_shortage write literal = record { holds = in_set code; counts_shortage = counts_shortage; write = write; literal = literal }

abbrev pub placed_since : {T : Type 0} → ℕ → Option ℕ → PlacedAnswer T
placed_since at None = answer.NoMark
placed_since at (Some mark) = cond (nat_le mark at) (answer.Offset (at - mark)) answer.LaterMark

-- what a call answers
abbrev pub placed_call : {T C : Type 0} → (C → T → Bool) → Bool → ℕ → List ℕ → Source T → Step C
    → PlacedAnswer T
placed_call holds counts_shortage at marks r s =
    let mark = mark_of marks (call_mark s) in
    call_answer holds counts_shortage at r (length marks) (reset_answer mark) (placed_since at mark) s

-- the width of the first token, if there is one
abbrev pub first_width : {T : Type 0} → Source T → ℕ
first_width [] = 0
first_width (x ∷ r) = x.1

-- the place after a move, for a call that names this mark
module _ {T : Type 0} (at : ℕ) (marks : List ℕ) (r : Source T) (mark : Option ℕ) where
  abbrev pub place_after : Move → ℕ
  place_after stays = at
  place_after past_token = at + first_width r
  place_after (past_width n) = cond (is_offset r n) (at + n) at
  place_after to_end = at + width r
  place_after to_mark = unwrap_or (mark_of marks mark) at
  place_after marking = at

abbrev pub is_marking : Move → Bool
is_marking marking = true
is_marking _ = false

-- one element more, and no less room
abbrev pub GrowsByOne : {A : Type 0} → Vec A → Vec A → Type 0
GrowsByOne old new = (vec_len new ≡ vec_len old + 1) × (vec_capacity old ≤ vec_capacity new)

-- all that a look at a step gives: its answer, whether the answer is definite, the place to which
-- the step leads, and whether it marks the place where it stood
pub record Look (T : Type 0) : Type 0 where
  pub answer : PlacedSearchAnswer T
  pub definite : Bool
  pub place : ℕ
  pub marks : Bool

-- what a look gives, without the answer
abbrev pub seen_of : {T : Type 0} → Look T → Seen
seen_of look = record { definite = look.definite; place = look.place; marks = look.marks }

-- an answer with the number of a piece, or with none
abbrev pub under : {T : Type 0} → Option ℕ → PlacedSearchAnswer T → Told T
under piece answer = record { piece = piece; answer = answer }

module _ {T C : Type 0} (holds : C → T → Bool) (counts_shortage : Bool) (at : ℕ) (marks : List ℕ) (r : Source T) where
  abbrev pub call_look : Step C → Look T
  call_look s = record {
    answer = search_answered.Call (placed_call holds counts_shortage at marks r s);
    definite = is_call_definite holds counts_shortage s r;
    place = place_after at marks r (call_mark s) (call_move s);
    marks = is_marking (call_move s);
  }

module _ {T C L : Type 0} (k : PieceReading T C L) (at : ℕ) (marks : List ℕ) (r : Source T) where
  abbrev pub look_of : SearchStep C L → Look T
  look_of (step.Call s) = call_look k.holds k.counts_shortage at marks r s
  look_of (step.Compare literal) = record {
    answer = search_answered.Compared (comparison (k.literal literal) (written k.write r));
    definite = is_definite k (step.Compare literal) r;
    place = at;
    marks = false;
  }
  look_of (step.Find needles) = record {
    answer = search_answered.Hit (hit (needle_list k.literal needles) (written k.write r));
    definite = is_definite k (step.Find needles) r;
    place = at;
    marks = false;
  }

-- an attempt at a step: either the answer is appended with the number of the piece, and it is
-- definite or no more may follow; or nothing is appended, and the step waits and has settled what
-- the attempt says
module _ {T C L : Type 0} (k : PieceReading T C L) (at : ℕ) (marks : List ℕ) (r : Source T) (s : SearchStep C L) (more : Bool) (piece : Option ℕ) (before after : List (Told T)) where
  abbrev pub Attempts : Attempt → Type 0
  Attempts (attempt.Answered seen) = (more ≡ true → is_definite k s r ≡ true) × (seen ≡ seen_of (look_of k at marks r s)) × (after ≡ before ++ under piece (look_of k at marks r s).answer ∷ [])
  Attempts (attempt.Waits settled) = (more ≡ true) × (is_definite k s r ≡ false) × IsSettled k s r settled × (after ≡ before)
