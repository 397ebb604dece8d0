-- What remains, the place and the places of the marks determine what the cursor on the whole list
-- does.
use Rattle.std.proofs.Common.{◌≡◌, ℕ, zero, suc, ◌+◌, ◌-◌, ◌≤◌, min, cond, List, [], ◌∷◌, ◌++◌, length, take, drop, map, Option, None, Some, refl, sym, ap, ◌∙◌, arith, inl, inr, take_all}
use Rattle.std.specs.Prelude.{unwrap_or, slice_get, option_map}
use Rattle.std.specs.List.{AllByRecursion}
use Rattle.std.proofs.lemmas.Bool.{cases_Bool, cases_lt, le-leb, lt-leb}
use Rattle.std.proofs.lemmas.List.{length-map, map-append}
use Rattle.winnow_stream.specs.Source.{Source, width, HasPositiveWidths}
use Rattle.winnow_stream.specs.Front.{front_count, is_offset, count_to}
use Rattle.winnow_stream.specs.Cursor.{Cursor, rest, place}
use Rattle.winnow_script_run.specs.Needs.{call_mark, mark_of, call_move, Move, stays, past_token, past_width, to_end, to_mark, marking}
use Rattle.winnow_script_run.specs.Script.{since_answer, reset_answer, step_answer, moved}
use Rattle.winnow_script_run.specs.declared.script.Step.{Step}
use Rattle.winnow_script_run.specs.declared.script.Answer.TheVariants as answer
use Rattle.winnow_stream.proofs.lemmas.FrontLemmas.{front_count-found, front_count-missing, width-front, width-take_drop}
use Rattle.winnow_script_run.proofs.lemmas.PlaceLemmas.{width-later, width-antitone}
use Rattle.winnow_script_run.specs.declared.search_steps.SearchStep.{SearchStep}
use Rattle.winnow_script_run.specs.declared.search_steps.SearchStep.TheVariants as step
use Rattle.winnow_script_run.specs.declared.search_steps.SearchAnswer.TheVariants as search_answered
use Rattle.winnow_script_run.specs.Searching.{search_answer, search_next}
use Rattle.winnow_script_run.specs.Definite.{PieceReading, kind_on_pieces}
use Rattle.winnow_script_attempt.specs.Looks.{placed_since, placed_call, first_width, place_after, is_marking, look_of}
use Rattle.winnow_script_run.proofs.lemmas.StepLemmas.{Inside}
use Rattle.winnow_script_attempt.proofs.lemmas.SettledLemmas.{width-split}

-- the place after one more token is later by its width
place-next : {T : Type 0} (all : Source T) (i : ℕ) → i ≤ length all
    → width (take i all) + first_width (drop i all) ≡ width (take (min (i + 1) (length all)) all)
place-next [] zero h = refl
place-next [] (suc i) h = absurd (omega arith)
place-next (x ∷ all) zero h =
    let e : min (zero + 1) (suc (length all)) ≡ suc zero = omega arith in
    rw e (omega arith)
place-next (x ∷ all) (suc i) h =
    let e : min (suc i + 1) (suc (length all)) ≡ suc (min (i + 1) (length all)) = omega arith in
    rw e (omega (arith, place-next all i (omega arith)))

-- a `Take` leads to a place that is later by its width, if a front has that width
taken-place : {T : Type 0} (all : Source T) (i n : ℕ)
    → cond (is_offset (drop i all) n) (width (take i all) + n) (width (take i all))
    ≡ width (take (i + unwrap_or (front_count (drop i all) n) 0) all)
taken-place all i n =
    let r = drop i all in
    elim (cases_Bool (is_offset r n)) [
      | inl e ↦
          let f = front_count-found r n e in
          let w : width (take (count_to r n) r) ≡ n = width-front r n e in
          rw e (sym (ap (λ o. width (take (i + unwrap_or o 0) all)) f ∙ width-split i (count_to r n) all ∙ ap (λ m. width (take i all) + m) w))
      | inr e ↦
          let f = front_count-missing r n e in
          let z : i + 0 ≡ i = omega arith in
          rw e (sym (ap (λ o. width (take (i + unwrap_or o 0) all)) f ∙ ap (λ m. width (take m all)) z))
    ]

-- the place of the end is the cursor's place and the width of what remains
end-place : {T : Type 0} (all : Source T) (i : ℕ)
    → width (take i all) + width (drop i all) ≡ width (take (length all) all)
end-place all i = width-take_drop all i ∙ ap width (sym (take_all (length all) all (omega arith)))

-- the place of a mark is the place of its index
pub marked : (f : ℕ → ℕ) (marks : List ℕ) (k : ℕ)
    → slice_get (map f marks) k ≡ option_map f (slice_get marks k)
marked f [] k = refl
marked f (m ∷ marks) zero = refl
marked f (m ∷ marks) (suc k) = marked f marks k

-- going back leads to the place of the mark's index
pub reset-place : (f : ℕ → ℕ) (o : Option ℕ) (i : ℕ)
    → unwrap_or (option_map f o) (f i) ≡ f (unwrap_or o i)
reset-place f None i = refl
reset-place f (Some m) i = refl

-- a `Reset` answers the same for indices as for places
reset-same : {T : Type 0} (f : ℕ → ℕ) (o : Option ℕ)
    → reset_answer {T = T} (option_map f o) ≡ reset_answer o
reset-same f None = refl
reset-same f (Some m) = refl

-- a `Since` answers the same for indices as for places
since-same : {T : Type 0} (all : Source T) (i m : ℕ) → HasPositiveWidths all → i ≤ length all
    → m ≤ length all
    → placed_since {T = T} (place all i) (Some (place all m)) ≡ since_answer all i (Some m)
since-same all i m w hi hm =
    let a = width-take_drop all i in
    let b = width-take_drop all m in
    elim (cases_lt i m) [
      | inl l ↦ let c = width-later all i m w l hm in rw (lt-leb (place all m) (place all i) (omega arith), lt-leb m i l) refl
      | inr l ↦
          let c = width-antitone all m i l in
          let e : place all i - place all m ≡ width (drop m all) - width (drop i all) = omega arith in
          rw (le-leb (place all m) (place all i) (omega arith), le-leb m i l) (ap (λ n. answer.Offset n) e)
    ]

since-marked : {T : Type 0} (all : Source T) (i : ℕ) (marks : List ℕ) (k : ℕ)
    → HasPositiveWidths all → i ≤ length all → AllByRecursion (λ m. m ≤ length all) marks
    → placed_since {T = T} (place all i) (slice_get (map (place all) marks) k)
    ≡ since_answer all i (slice_get marks k)
since-marked all i [] k w hi h = refl
since-marked all i (m ∷ marks) zero w hi h = since-same all i m w hi h.0
since-marked all i (m ∷ marks) (suc k) w hi h = since-marked all i marks k w hi h.1

-- the place of a mark is the place of its index, and that of the cursor without one
pub mark-place : {T : Type 0} (all : Source T) (at : Cursor) (mark : Option ℕ)
    → unwrap_or (mark_of (map (place all) at.marks) mark) (place all at.index)
    ≡ place all (unwrap_or (mark_of at.marks mark) at.index)
mark-place all at None = refl
mark-place all at (Some k) = ap (λ o. unwrap_or o (place all at.index)) (marked (place all) at.marks k) ∙ reset-place (place all) (slice_get at.marks k) at.index

module _ {T C L : Type 0} (k : PieceReading T C L) (all : Source T) (at : Cursor) (w : HasPositiveWidths all) (inside : Inside all at) where
  -- the mark that a call names answers the same for the places as at the cursor
  back-placed : (mark : Option ℕ)
      → reset_answer {T = T} (mark_of (map (place all) at.marks) mark)
      ≡ reset_answer (mark_of at.marks mark)
  back-placed None = refl
  back-placed (Some i) = ap reset_answer (marked (place all) at.marks i) ∙ reset-same (place all) (slice_get at.marks i)

  since-placed : (mark : Option ℕ)
      → placed_since {T = T} (place all at.index) (mark_of (map (place all) at.marks) mark)
      ≡ since_answer all at.index (mark_of at.marks mark)
  since-placed None = refl
  since-placed (Some i) = since-marked all at.index at.marks i w inside.index inside.marks

  -- a call answers the same for the places as at the cursor
  call-placed : (s : Step C)
      → placed_call k.holds k.counts_shortage (place all at.index) (map (place all) at.marks)
      (rest all at) s ≡ step_answer k.holds k.counts_shortage all s at
  call-placed s =
      rw (length-map at.marks (place all), back-placed (call_mark s), since-placed (call_mark s)) refl

  -- a step answers the same, leads to the same place and makes the same marks for the places as at
  -- the cursor
  pub cursor-answer : (s : SearchStep C L)
      → (look_of k (place all at.index) (map (place all) at.marks) (rest all at) s).answer
      ≡ search_answer (kind_on_pieces k) all s at
  cursor-answer (step.Call s) = ap (λ a. search_answered.Call a) (call-placed s)
  cursor-answer (step.Compare l) = refl
  cursor-answer (step.Find ns) = refl

  move-place : (mark : Option ℕ) (m : Move)
      → place_after (place all at.index) (map (place all) at.marks) (rest all at) mark m
      ≡ place all (moved all at mark m).index
  move-place mark stays = refl
  move-place mark past_token = place-next all at.index inside.index
  move-place mark (past_width n) = taken-place all at.index n
  move-place mark to_end = end-place all at.index
  move-place mark to_mark = mark-place all at mark
  move-place mark marking = refl

  pub cursor-place : (s : SearchStep C L)
      → (look_of k (place all at.index) (map (place all) at.marks) (rest all at) s).place
      ≡ place all (search_next all s at).index
  cursor-place (step.Call s) = move-place (call_mark s) (call_move s)
  cursor-place (step.Compare l) = refl
  cursor-place (step.Find ns) = refl

  move-marks : (mark : Option ℕ) (m : Move)
      → cond (is_marking m) (map (place all) at.marks ++ place all at.index ∷ [])
      (map (place all) at.marks) ≡ map (place all) (moved all at mark m).marks
  move-marks mark stays = refl
  move-marks mark past_token = refl
  move-marks mark (past_width n) = refl
  move-marks mark to_end = refl
  move-marks mark to_mark = refl
  move-marks mark marking = sym (map-append (place all) at.marks (at.index ∷ []))

  pub cursor-marks : (s : SearchStep C L)
      → cond (look_of k (place all at.index) (map (place all) at.marks) (rest all at) s).marks
      (map (place all) at.marks ++ place all at.index ∷ []) (map (place all) at.marks)
      ≡ map (place all) (search_next all s at).marks
  cursor-marks (step.Call s) = move-marks (call_mark s) (call_move s)
  cursor-marks (step.Compare l) = refl
  cursor-marks (step.Find ns) = refl
