-- A definite step, and then a script, answers the same with more input appended.
use Rattle.std.proofs.Common.{◌≡◌, ℕ, zero, suc, ◌+◌, ◌-◌, ◌≤◌, ◌<◌, min, true, List, [], ◌∷◌, ◌++◌, length, take, drop, refl, sym, ap, ◌∙◌, arith}
use Rattle.std.specs.Prelude.{Bool, Option, None, Some, ⊤, is_some, is_ok, unwrap_or, slice_get}
use Rattle.std.specs.List.{All, AllByRecursion}
use Rattle.std.proofs.lemmas.Bool.{leb-true, le-leb}
use Rattle.std.proofs.lemmas.List.{take-append-le, drop-append-le, length-append}
use Rattle.std.proofs.lemmas.List.Elements.{All-head, All-tail}
use Rattle.winnow_stream.specs.Source.{Source, width, first_token, first_offset}
use Rattle.winnow_stream.specs.Front.{front_count}
use Rattle.winnow_stream.specs.Shortage.{offset_at}
use Rattle.winnow_stream.specs.Cursor.{Cursor, start, rest, place, answers_from}
use Rattle.winnow_script_run.specs.Needs.{call_need, is_met, call_mark, mark_of, call_move, Move, stays, past_token, past_width, to_end, to_mark, marking}
use Rattle.winnow_script_run.specs.Script.{PlacedAnswer, call_answer, step_answer, step_next, moved, slice_answer, since_answer}
use Rattle.winnow_script_run.specs.declared.need.Need.{Need}
use Rattle.winnow_script_run.specs.declared.need.Need.TheVariants as need
use Rattle.winnow_stream.specs.Span.{span}
use Rattle.winnow_script_run.specs.declared.script.Step.{Step}
use Rattle.winnow_script_run.specs.declared.script.Step.TheVariants as call
use Rattle.winnow_script_run.specs.declared.script.Answer.TheVariants as answer
use Rattle.winnow_stream.proofs.lemmas.FrontLemmas.{within-back}
use Rattle.winnow_match.specs.Bytes.{written}
use Rattle.winnow_match.specs.Comparison.{comparison}
use Rattle.winnow_match.specs.Search.{hit, needle_list}
use Rattle.winnow_match.specs.Stretch.{hit_is_definite}
use Rattle.winnow_match.proofs.lemmas.MoveLemmas.{find-stable}
use Rattle.winnow_script_run.specs.declared.search_steps.SearchStep.{SearchStep}
use Rattle.winnow_script_run.specs.declared.search_steps.SearchStep.TheVariants as step
use Rattle.winnow_script_run.specs.declared.search_steps.SearchAnswer.TheVariants as search_answered
use Rattle.winnow_script_run.specs.Searching.{search_answer, search_next}
use Rattle.winnow_script_run.specs.Definite.{PieceReading, kind_on_pieces, is_decided, is_call_definite, is_definite, judged, StableUnderMore}
use Rattle.winnow_match.specs.Staying.{written-append}
use Rattle.winnow_script_run.proofs.lemmas.MoreLemmas.{width-append, first_token-more, front_count-more, first_offset-more, offset_at-more, comparison-more}

-- the cursor and its marks are inside the list
pub record Inside {T : Type 0} (all : Source T) (at : Cursor) : Type 0 where
  pub index : at.index ≤ length all
  pub marks : AllByRecursion (λ m. m ≤ length all) at.marks

-- the start of a list is inside it
pub start-inside : {T : Type 0} (all : Source T) → Inside all start
start-inside all = record { index = omega arith; marks = tt }

-- the place of an index inside the list stays the same with more input appended
pub place-more : {T : Type 0} (all more : Source T) (i : ℕ) → i ≤ length all
    → place (all ++ more) i ≡ place all i
place-more all more i h = ap width (take-append-le i all more h)

-- what is left after an index grows by the width of the appended input
left-more : {T : Type 0} (all more : Source T) (i : ℕ) → i ≤ length all
    → width (drop i (all ++ more)) ≡ width (drop i all) + width more
left-more all more i h = ap width (drop-append-le i all more h) ∙ width-append (drop i all) more

-- the width since a mark inside the list stays the same with more input appended
since-more : {T : Type 0} (all more : Source T) (i : ℕ) (marks : List ℕ) (k : ℕ) → i ≤ length all
    → AllByRecursion (λ m. m ≤ length all) marks
    → since_answer (all ++ more) i (slice_get marks k) ≡ since_answer all i (slice_get marks k)
since-more all more i [] k h inside = refl
since-more all more i (m ∷ marks) zero h inside =
    let a = left-more all more m inside.0 in
    let b = left-more all more i h in
    let e : width (drop m (all ++ more)) - width (drop i (all ++ more)) ≡ width (drop m all) - width (drop i all) = omega arith in
    rw e refl
since-more all more i (m ∷ marks) (suc k) h inside = since-more all more i marks k h inside.1

-- if there is a first token, the index is before the end
some-left : {T : Type 0} (all : Source T) (i : ℕ) → is_some (first_token (drop i all)) ≡ true
    → i < length all
some-left [] zero h = absurd (cc)
some-left [] (suc i) h = absurd (cc)
some-left (x ∷ all) zero h = omega arith
some-left (x ∷ all) (suc i) h = omega (arith, some-left all i h)

-- of two rests a need reads the same
abbrev pub SameReading : {T C : Type 0} → (C → T → Bool) → Bool → Need C → Source T → Source T
    → Type 0
SameReading holds counts_shortage need.Nothing r q = ⊤
SameReading holds counts_shortage need.Token r q = first_token r ≡ first_token q
SameReading holds counts_shortage (need.Width n) r q = front_count r n ≡ front_count q n
SameReading holds counts_shortage (need.Tokens n) r q = offset_at counts_shortage r n ≡ offset_at counts_shortage q n
SameReading holds counts_shortage (need.TokenOf c) r q = first_offset (holds c) r ≡ first_offset (holds c) q
SameReading holds counts_shortage need.End r q = r ≡ q

-- what a move needs of what remains, so that no further input changes where it leads
abbrev pub move_need : {C : Type 0} → Move → Need C
move_need stays = need.Nothing
move_need past_token = need.Token
move_need (past_width n) = need.Width n
move_need to_end = need.End
move_need to_mark = need.Nothing
move_need marking = need.Nothing

module _ {T C : Type 0} (holds : C → T → Bool) (counts_shortage : Bool) (r q : Source T) where
  -- a call answers the same of r and q
  abbrev pub AnswersSame : Step C → Type 0
  AnswersSame s =
      (here count : ℕ) (back since : PlacedAnswer T)
      → call_answer holds counts_shortage here r count back since s
      ≡ call_answer holds counts_shortage here q count back since s

  -- a call answers from what its need reads, and it needs what its move needs
  pub call-reads : (s : Step C)
      → (SameReading holds counts_shortage (call_need s) r q → AnswersSame s)
      × (is_met holds counts_shortage (call_need s) r ≡ true
      → is_met holds counts_shortage (move_need (call_move s)) r ≡ true)
  call-reads call.Next = (λ e here count back since. ap (λ t. answer.Token t) e, λ h. h)
  call-reads call.Peek = (λ e here count back since. ap (λ t. answer.Token t) e, λ h. refl)
  call-reads (call.Take n) = (λ e here count back since. ap (slice_answer here n) e, λ h. h)
  call-reads (call.Look n) = (λ e here count back since. ap (slice_answer here n) e, λ h. refl)
  call-reads call.Finish = (λ e here count back since. ap (λ x. answer.Slice (span here (width x))) e, λ h. h)
  call-reads call.PeekFinish = (λ e here count back since. ap (λ x. answer.Slice (span here (width x))) e, λ h. refl)
  call-reads call.Eof = (λ e here count back since. ap (λ x. answer.Offset (width x)) e, λ h. refl)
  call-reads (call.At n) = (λ e here count back since. ap (λ o. answer.At o) e, λ h. refl)
  call-reads (call.IsOffset n) = (λ e here count back since. ap (λ o. answer.Flag (is_some o)) e, λ h. refl)
  call-reads (call.First c) = (λ e here count back since. ap (λ o. answer.First o) e, λ h. refl)
  call-reads call.Each = (λ e here count back since. ap (λ x. answer.Items (span here (width x))) e, λ h. refl)
  call-reads call.Mark = (λ e here count back since. refl, λ h. refl)
  call-reads (call.Reset k) = (λ e here count back since. refl, λ h. refl)
  call-reads (call.Since k) = (λ e here count back since. refl, λ h. refl)

module _ {T C L : Type 0} (k : PieceReading T C L) (all more : Source T) (at : Cursor) (inside : Inside all at) where
  -- with more input appended, the rest at the cursor is the old rest followed by it
  pub rest-more : rest (all ++ more) at ≡ rest all at ++ more
  rest-more = drop-append-le at.index all more inside.index

  -- the cursor's place stays the same with more input appended
  here-more : place (all ++ more) at.index ≡ place all at.index
  here-more = place-more all more at.index inside.index

  -- a function that gives the same for the appended rest gives the same at the cursor
  of_rest : {A : Type 0} (f : Source T → A) → f (rest all at ++ more) ≡ f (rest all at)
      → f (rest (all ++ more) at) ≡ f (rest all at)
  of_rest f e = ap f rest-more ∙ e

  -- what a need reads is the same with more input appended, and there is still enough
  need-more : (n : Need C) → is_met k.holds k.counts_shortage n (rest all at) ≡ true
      → SameReading k.holds k.counts_shortage n (rest (all ++ more) at) (rest all at)
      × (is_met k.holds k.counts_shortage n (rest (all ++ more) at) ≡ true)
  need-more need.Nothing h = (tt, refl)
  need-more need.Token h =
      let e = of_rest first_token (first_token-more (rest all at) more h) in (e, ap is_some e ∙ h)
  need-more (need.Width n) h =
      let w = leb-true n _ h in
      let a = width-append (rest all at) more in
      (of_rest (λ r. front_count r n) (front_count-more (rest all at) more n w), rw rest-more (le-leb n _ (omega arith)))
  need-more (need.Tokens n) h =
      let e = of_rest (λ r. offset_at k.counts_shortage r n) (offset_at-more k.counts_shortage (rest all at) more n h) in
      (e, ap is_ok e ∙ h)
  need-more (need.TokenOf c) h =
      let e = of_rest (first_offset (k.holds c)) (first_offset-more (k.holds c) (rest all at) more h) in
      (e, ap is_some e ∙ h)
  need-more need.End h = absurd (cc)

  -- a move whose need is met leads to the same cursor with more input appended
  move-more : (mark : Option ℕ) (m : Move)
      → is_met k.holds k.counts_shortage (move_need m) (rest all at) ≡ true
      → moved (all ++ more) at mark m ≡ moved all at mark m
  move-more mark stays h = refl
  move-more mark past_token h =
      let l = some-left all at.index h in
      let a = length-append all more in
      let o : min (at.index + 1) (length (all ++ more)) ≡ min (at.index + 1) (length all) = omega arith in
      ap (λ n. record at { index = n }) o
  move-more mark (past_width n) h = ap (λ o. record at { index = at.index + unwrap_or o 0 }) (need-more (need.Width n) h).0
  move-more mark to_end h = absurd (cc)
  move-more mark to_mark h = refl
  move-more mark marking h = refl

  -- the width since a mark stays the same with more input appended
  mark-more : (mark : Option ℕ)
      → since_answer {T = T} (all ++ more) at.index (mark_of at.marks mark)
      ≡ since_answer all at.index (mark_of at.marks mark)
  mark-more None = refl
  mark-more (Some i) = since-more all more at.index at.marks i inside.index inside.marks

  -- a call whose need reads the same answers the same with more input appended
  pub answer-read : (s : Step C)
      → SameReading k.holds k.counts_shortage (call_need s) (rest (all ++ more) at) (rest all at)
      → step_answer k.holds k.counts_shortage (all ++ more) s at
      ≡ step_answer k.holds k.counts_shortage all s at
  answer-read s e =
      rw (here-more, mark-more (call_mark s))
      ((call-reads k.holds k.counts_shortage (rest (all ++ more) at) (rest all at) s).0 e _ _ _ _)

  -- a definite call answers the same, moves the same and stays definite with more input appended
  pub call-more : (s : Step C) → is_call_definite k.holds k.counts_shortage s (rest all at) ≡ true
      → (step_answer k.holds k.counts_shortage (all ++ more) s at
      ≡ step_answer k.holds k.counts_shortage all s at)
      × (step_next (all ++ more) s at ≡ step_next all s at)
      × (is_call_definite k.holds k.counts_shortage s (rest (all ++ more) at) ≡ true)
  call-more s h =
      let e = need-more (call_need s) h in
      let move = (call-reads k.holds k.counts_shortage (rest all at) (rest all at) s).1 h in
      (answer-read s e.0, move-more (call_mark s) (call_move s) move, e.1)

  -- a function of the bytes that more bytes do not change gives the same at the cursor
  bytes-more : {A : Type 0} (f : List ℕ → A)
      → ((m : List ℕ) → f (written k.write (rest all at) ++ m) ≡ f (written k.write (rest all at)))
      → f (written k.write (rest (all ++ more) at)) ≡ f (written k.write (rest all at))
  bytes-more f e = ap (λ r. f (written k.write r)) rest-more ∙ ap f (written-append k.write (rest all at) more) ∙ e _

  -- a definite step answers the same, moves the same and stays definite with more input appended
  pub step-more : (s : SearchStep C L) → is_definite k s (rest all at) ≡ true
      → (search_answer (kind_on_pieces k) (all ++ more) s at ≡ search_answer (kind_on_pieces k) all s at)
      × (search_next (all ++ more) s at ≡ search_next all s at)
      × (is_definite k s (rest (all ++ more) at) ≡ true)
  step-more (step.Call s) h = let e = call-more s h in (ap (λ a. search_answered.Call a) e.0, e.1, e.2)
  step-more (step.Compare l) h =
      let e = bytes-more (comparison (k.literal l)) (λ m. comparison-more (k.literal l) _ m h) in
      (ap (λ a. search_answered.Compared a) e, refl, ap is_decided e ∙ h)
  step-more (step.Find ns) h =
      let ls = needle_list k.literal ns in
      let e = bytes-more (hit ls) (λ m. (find-stable ls _ m h).0) in
      let d = bytes-more (hit_is_definite ls) (λ m. (find-stable ls _ m h).1 ∙ sym h) in
      (ap (λ a. search_answered.Hit a) e, refl, d ∙ h)

-- ---- a step leaves the cursor inside the list

-- the place to which a step goes back is inside the list
marked-inside : (n i : ℕ) (marks : List ℕ) (k : ℕ) → i ≤ n → AllByRecursion (λ m. m ≤ n) marks
    → unwrap_or (slice_get marks k) i ≤ n
marked-inside n i [] k h inside = h
marked-inside n i (m ∷ marks) zero h inside = inside.0
marked-inside n i (m ∷ marks) (suc k) h inside = marked-inside n i marks k h inside.1

back-inside : (n i : ℕ) (marks : List ℕ) (mark : Option ℕ) → i ≤ n
    → AllByRecursion (λ m. m ≤ n) marks → unwrap_or (mark_of marks mark) i ≤ n
back-inside n i marks None h inside = h
back-inside n i marks (Some k) h inside = marked-inside n i marks k h inside

-- marks stay inside the list when a further one inside it is added
pub marks-push : (n i : ℕ) (marks : List ℕ) → i ≤ n → AllByRecursion (λ m. m ≤ n) marks
    → AllByRecursion (λ m. m ≤ n) (marks ++ i ∷ [])
marks-push n i [] h inside = (h, tt)
marks-push n i (m ∷ marks) h inside = (inside.0, marks-push n i marks h inside.1)

module _ {T : Type 0} (all : Source T) (at : Cursor) (inside : Inside all at) where
  -- after a move the cursor and its marks are inside the list
  pub move-inside : (mark : Option ℕ) (m : Move) → Inside all (moved all at mark m)
  move-inside mark stays = inside
  move-inside mark past_token = record { index = omega arith; marks = inside.marks }
  move-inside mark (past_width n) = record { index = within-back all at.index n inside.index; marks = inside.marks }
  move-inside mark to_end = record { index = omega arith; marks = inside.marks }
  move-inside mark to_mark = record { index = back-inside (length all) at.index at.marks mark inside.index inside.marks; marks = inside.marks }
  move-inside mark marking = record { index = inside.index; marks = marks-push _ at.index at.marks inside.index inside.marks }

  -- after a step the cursor and its marks are inside the list
  pub step-inside : {C L : Type 0} (s : SearchStep C L) → Inside all (search_next all s at)
  step-inside (step.Call s) = move-inside (call_mark s) (call_move s)
  step-inside (step.Compare l) = inside
  step-inside (step.Find ns) = inside

-- ---- a script, from any cursor inside the list

module _ {T C L : Type 0} (k : PieceReading T C L) where
  -- the definite front of a script's answers stays with more input appended, from any cursor inside
  judged_from-more : (script : List (SearchStep C L)) (all more : Source T) (at : Cursor) (n : ℕ)
      → Inside all at
      → All (λ a. a.1 ≡ true) (take n (answers_from (judged k all) (search_next all) script at))
      → take n (answers_from (judged k (all ++ more)) (search_next (all ++ more)) script at)
      ≡ take n (answers_from (judged k all) (search_next all) script at)
  judged_from-more [] all more at n inside h = refl
  judged_from-more (s ∷ ss) all more at zero inside h = refl
  judged_from-more (s ∷ ss) all more at (suc n) inside h =
      let first = judged k all s at in
      let later = take n (answers_from (judged k all) (search_next all) ss (search_next all s at)) in
      let d : is_definite k s (rest all at) ≡ true = All-head (λ a. a.1 ≡ true) first later h in
      let e = step-more k all more at inside s d in
      let ih = judged_from-more ss all more (search_next all s at) n (step-inside all at inside s) (All-tail (λ a. a.1 ≡ true) first later h) in
      let same : is_definite k s (rest (all ++ more) at) ≡ is_definite k s (rest all at) = e.2 ∙ sym d in
      rw (e.0, same, e.1, ih) refl

-- the law of stability, from the start of a list
pub stable : (T C L : Type 0) → StableUnderMore T C L
stable T C L k script all more n h = judged_from-more k script all more start n (start-inside all) h
