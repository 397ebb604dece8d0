-- How far the definite answers reach, and why no step reaches further back than the remaining steps
-- did before.
use Rattle.std.proofs.Common.{◌≡◌, ℕ, zero, suc, ◌≤◌, Bool, true, false, List, [], ◌∷◌, ◌++◌, length, take, map, Option, None, Some, refl, sym, ap, ◌∙◌, arith, subst, one-add}
use Rattle.std.specs.Prelude.{unwrap_or, slice_get}
use Rattle.std.proofs.lemmas.Bool.{false≢true}
use Rattle.std.specs.List.{take_while}
use Rattle.winnow_stream.specs.Source.{Source}
use Rattle.winnow_stream.specs.Cursor.{Cursor, rest, answers_from, cursor_after}
use Rattle.winnow_script_run.specs.Needs.{call_mark, mark_of, call_move, Move, stays, past_token, past_width, to_end, to_mark, marking}
use Rattle.winnow_script_run.specs.Script.{moved}
use Rattle.winnow_script_run.specs.declared.script.Step.{Step}
use Rattle.winnow_script_run.specs.declared.search_steps.SearchStep.{SearchStep}
use Rattle.winnow_script_run.specs.declared.search_steps.SearchStep.TheVariants as step
use Rattle.winnow_script_run.specs.Searching.{PlacedSearchAnswer, search_answer, search_next}
use Rattle.winnow_script_run.specs.Definite.{PieceReading, kind_on_pieces, is_definite, judged}
use Rattle.winnow_script_feed.specs.Reach.{Reaches, step_mark, named_index, least_index}
use Rattle.winnow_script_run.proofs.lemmas.StepLemmas.{Inside, step-more, step-inside}

-- `take_while` stops at an element that fails the test, and goes on after one that passes
pub take_while-stop : {X : Type 0} (p : X → Bool) (x : X) (xs : List X) → p x ≡ false
    → take_while p (x ∷ xs) ≡ []
take_while-stop p x xs h = rw h

pub take_while-go : {X : Type 0} (p : X → Bool) (x : X) (xs : List X) → p x ≡ true
    → take_while p (x ∷ xs) ≡ x ∷ take_while p xs
take_while-go p x xs h = rw (h, one-add)

module _ {T C L : Type 0} (k : PieceReading T C L) where
  -- definite answers are reached with more input appended too
  pub Reaches-more : (all more : Source T) (s t : Cursor) (steps : List (SearchStep C L))
      (gs : List (PlacedSearchAnswer T)) → Inside all s → Reaches true k all s steps gs t
      → Reaches true k (all ++ more) s steps gs t
  Reaches-more all more s t steps [] inside r = r
  Reaches-more all more s t [] (a ∷ gs) inside r = r
  Reaches-more all more s t (x ∷ steps) (a ∷ gs) inside r =
      let e = step-more k all more s inside x (r.0 refl) in
      let ih = Reaches-more all more (search_next all x s) t steps gs (step-inside all s inside x) r.2 in
      (λ _. e.2, r.1 ∙ sym e.0, rw e.1 ih)

  -- the cursor that is reached is inside the list
  pub Reaches-inside : (strict : Bool) (all : Source T) (s t : Cursor)
      (steps : List (SearchStep C L)) (gs : List (PlacedSearchAnswer T)) → Inside all s
      → Reaches strict k all s steps gs t → Inside all t
  Reaches-inside strict all s t steps [] inside r = subst (Inside all) r inside
  Reaches-inside strict all s t [] (a ∷ gs) inside r = elim r [ ]
  Reaches-inside strict all s t (x ∷ steps) (a ∷ gs) inside r = Reaches-inside strict all (search_next all x s) t steps gs (step-inside all s inside x) r.2

  -- one more step adds its answer and moves the cursor
  pub Reaches-push : (strict : Bool) (all : Source T) (s t : Cursor)
      (steps : List (SearchStep C L)) (gs : List (PlacedSearchAnswer T)) (x : SearchStep C L)
      → Reaches strict k all s steps gs t → slice_get steps (length gs) ≡ Some x
      → (strict ≡ true → is_definite k x (rest all t) ≡ true)
      → Reaches strict k all s steps (gs ++ search_answer (kind_on_pieces k) all x t
      ∷ []) (search_next all x t)
  Reaches-push strict all s t [] [] x r e d = cc
  Reaches-push strict all s t (next ∷ steps) [] x r e d = let same : next ≡ x = cc in rw (r, same) (d, refl, refl)
  Reaches-push strict all s t [] (a ∷ gs) x r e d = r
  Reaches-push strict all s t (next ∷ steps) (a ∷ gs) x r e d = (r.0, r.1, Reaches-push strict all (search_next all next s) t steps gs x r.2 e d)

  -- if no step remains or the next one waits, the answers that were reached are those that are out
  pub Reaches-out : (all : Source T) (s t : Cursor) (steps : List (SearchStep C L))
      (gs : List (PlacedSearchAnswer T)) → Reaches true k all s steps gs t
      → ((x : SearchStep C L) → slice_get steps (length gs) ≡ Some x
      → is_definite k x (rest all t) ≡ false)
      → map (λ a. a.0)
      (take_while (λ a. a.1) (answers_from (judged k all) (search_next all) steps s)) ≡ gs
  Reaches-out all s t [] [] r stop = refl
  Reaches-out all s t (x ∷ steps) [] r stop =
      let d : is_definite k x (rest all s) ≡ false = rw r (stop x refl) in
      ap (map (λ a. a.0)) (take_while-stop (λ a. a.1) (judged k all x s) (answers_from (judged k all) (search_next all) steps (search_next all x s)) d)
  Reaches-out all s t [] (a ∷ gs) r stop = elim r [ ]
  Reaches-out all s t (x ∷ steps) (a ∷ gs) r stop =
      let ih = Reaches-out all (search_next all x s) t steps gs r.2 stop in
      ap (map (λ a. a.0)) (take_while-go (λ a. a.1) (judged k all x s) (answers_from (judged k all) (search_next all) steps (search_next all x s)) (r.0 refl)) ∙ rw (ih, r.1) refl

module _ {T C L : Type 0} (strict : Bool) (k : PieceReading T C L) (all : Source T) where
  -- the cursor that is reached is the one after as many steps
  pub Reaches-cursor : (s t : Cursor) (steps : List (SearchStep C L))
      (gs : List (PlacedSearchAnswer T)) → Reaches strict k all s steps gs t
      → cursor_after (search_next all) (take (length gs) steps) s ≡ t
  Reaches-cursor s t [] [] r = r
  Reaches-cursor s t (x ∷ steps) [] r = r
  Reaches-cursor s t [] (a ∷ gs) r = elim r [ ]
  Reaches-cursor s t (x ∷ steps) (a ∷ gs) r = Reaches-cursor (search_next all x s) t steps gs r.2

  -- if as many answers were reached as there are steps, they are all answers
  pub Reaches-all : (s t : Cursor) (steps : List (SearchStep C L))
      (gs : List (PlacedSearchAnswer T)) → Reaches strict k all s steps gs t
      → length steps ≤ length gs
      → (gs ≡ answers_from (search_answer (kind_on_pieces k) all) (search_next all) steps s)
      × (t ≡ cursor_after (search_next all) steps s)
  Reaches-all s t [] [] r l = (refl, sym r)
  Reaches-all s t (x ∷ steps) [] r l = absurd (omega arith)
  Reaches-all s t [] (a ∷ gs) r l = elim r [ ]
  Reaches-all s t (x ∷ steps) (a ∷ gs) r l =
      let ih = Reaches-all (search_next all x s) t steps gs r.2 (omega arith) in
      (rw (← ih.0, r.1) refl, ih.1)

-- answers that are all definite are reached where indefinite ones count too
pub Reaches-loose : {T C L : Type 0} (k : PieceReading T C L) (all : Source T) (s t : Cursor)
    (steps : List (SearchStep C L)) (gs : List (PlacedSearchAnswer T))
    → Reaches true k all s steps gs t → Reaches false k all s steps gs t
Reaches-loose k all s t steps [] r = r
Reaches-loose k all s t [] (a ∷ gs) r = r
Reaches-loose k all s t (x ∷ steps) (a ∷ gs) r = (λ e. absurd (false≢true e), r.1, Reaches-loose k all (search_next all x s) t steps gs r.2)

-- ---- how far back the remaining steps reach

-- the least index is no greater than the cursor's
pub least-at : {C L : Type 0} (steps : List (SearchStep C L)) (s : Cursor)
    → least_index steps s ≤ s.index
least-at [] s = omega arith
least-at (x ∷ steps) s = omega (arith, least-at steps s)

-- if the cursor and the marks of t are at n or later, so is the mark that is named
mark-above : (n : ℕ) (s t : Cursor) (there : n ≤ t.index)
    (marks : (k : ℕ) → n ≤ unwrap_or (slice_get s.marks k) s.index
    → n ≤ unwrap_or (slice_get t.marks k) t.index) (mark : Option ℕ)
    → n ≤ unwrap_or (mark_of s.marks mark) s.index → n ≤ unwrap_or (mark_of t.marks mark) t.index
mark-above n s t there marks None h = there
mark-above n s t there marks (Some k) h = marks k h

module _ {C L : Type 0} (n : ℕ) (s t : Cursor) (there : n ≤ t.index) (marks : (k : ℕ) → n ≤ unwrap_or (slice_get s.marks k) s.index → n ≤ unwrap_or (slice_get t.marks k) t.index) where
  -- the index that a step names is at n or later
  named-above : (x : SearchStep C L) → n ≤ named_index s x → n ≤ named_index t x
  named-above x h = mark-above n s t there marks (step_mark x) h

  least-above : (steps : List (SearchStep C L)) → n ≤ least_index steps s → n ≤ least_index steps t
  least-above [] h = there
  least-above (x ∷ steps) h = omega (arith, named-above x (omega arith), least-above steps (omega arith))

-- a later cursor, or one more mark at the cursor, keeps a named index at n or later
same-marks : (n i j : ℕ) (o : Option ℕ) → n ≤ j → n ≤ unwrap_or o i → n ≤ unwrap_or o j
same-marks n i j None h g = h
same-marks n i j (Some m) h g = g

more-marks : (n i : ℕ) (marks : List ℕ) (k : ℕ) → n ≤ i → n ≤ unwrap_or (slice_get marks k) i
    → n ≤ unwrap_or (slice_get (marks ++ i ∷ []) k) i
more-marks n i [] zero h g = h
more-marks n i [] (suc k) h g = h
more-marks n i (m ∷ marks) zero h g = g
more-marks n i (m ∷ marks) (suc k) h g = more-marks n i marks k h g

module _ {T C L : Type 0} (all : Source T) (s : Cursor) (x : SearchStep C L) (steps : List (SearchStep C L)) where
  -- after a move to t, the remaining steps name nothing before the old least index
  to : (t : Cursor) → least_index (x ∷ steps) s ≤ t.index
      → ((k : ℕ) → least_index (x ∷ steps) s ≤ unwrap_or (slice_get s.marks k) s.index
      → least_index (x ∷ steps) s ≤ unwrap_or (slice_get t.marks k) t.index)
      → least_index (x ∷ steps) s ≤ least_index steps t
  to t there marks = least-above (least_index (x ∷ steps) s) s t there marks steps (omega arith)

  -- after a move of the index alone, the steps name nothing before the old least index
  on : (i : ℕ) → least_index (x ∷ steps) s ≤ i
      → least_index (x ∷ steps) s ≤ least_index steps (record s { index = i })
  on i h = to (record s { index = i }) h (λ k g. same-marks (least_index (x ∷ steps) s) s.index i (slice_get s.marks k) h g)

  -- the least index is no greater than the cursor's
  at_cursor : least_index (x ∷ steps) s ≤ s.index
  at_cursor = least-at (x ∷ steps) s

-- no move of a call makes the remaining steps reach further back
move-back : {T C L : Type 0} (all : Source T) (s : Cursor) (inside : Inside all s) (x : Step C)
    (m : Move) (steps : List (SearchStep C L))
    → least_index (step.Call x ∷ steps) s ≤ least_index steps (moved all s (call_mark x) m)
move-back all s inside x stays steps = omega arith
move-back all s inside x past_token steps = on all s (step.Call x) steps _ (omega (arith, inside.index, at_cursor all s (step.Call x) steps))
move-back all s inside x (past_width n) steps = on all s (step.Call x) steps _ (omega (arith, at_cursor all s (step.Call x) steps))
move-back all s inside x to_end steps = on all s (step.Call x) steps _ (omega (arith, inside.index, at_cursor all s (step.Call x) steps))
move-back all s inside x to_mark steps = on all s (step.Call x) steps _ (omega arith)
move-back all s inside x marking steps =
    to all s (step.Call x) steps (record s { marks = s.marks ++ s.index ∷ [] }) (at_cursor all s (step.Call x) steps)
    (λ k g. more-marks (least_index (step.Call x ∷ steps) s) s.index s.marks k (at_cursor all s (step.Call x) steps) g)

-- no step makes the remaining steps reach further back
pub never_back : {T C L : Type 0} (all : Source T) (s : Cursor) (inside : Inside all s)
    (x : SearchStep C L) (steps : List (SearchStep C L))
    → least_index (x ∷ steps) s ≤ least_index steps (search_next all x s)
never_back all s inside (step.Call x) steps = move-back all s inside x (call_move x) steps
never_back all s inside (step.Compare l) steps = omega arith
never_back all s inside (step.Find ns) steps = omega arith
