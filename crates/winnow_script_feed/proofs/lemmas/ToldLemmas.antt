-- The answers that one more piece adds, and those that the end adds, in terms of lists and fronts.
use Rattle.std.proofs.Common.{◌≡◌, ℕ, suc, ◌+◌, ◌≤◌, ◌<◌, Bool, true, false, cond, List, [], ◌∷◌, ◌++◌, length, drop, map, Option, None, Some, refl, sym, ap, ◌∙◌, arith, inl, inr}
use Rattle.std.specs.List.{AllByRecursion, take_while}
use Rattle.std.proofs.lemmas.Bool.{cases_Bool, false≢true, ltb-true, lt-ltb, le-ltb}
use Rattle.std.proofs.lemmas.List.{length-append, append_assoc, append-nil, length-map, map-append}
use Rattle.winnow_stream.specs.Source.{Source}
use Rattle.winnow_stream.specs.Cursor.{Cursor, start, rest, answers_from}
use Rattle.winnow_script_run.specs.declared.search_steps.SearchStep.{SearchStep}
use Rattle.winnow_script_run.specs.Searching.{PlacedSearchAnswer, search_answer, search_answers, search_next}
use Rattle.winnow_script_run.specs.Definite.{PieceReading, kind_on_pieces, is_definite, judged, out}
use Rattle.winnow_script_run.proofs.lemmas.StepLemmas.{Inside, step-more, step-inside, start-inside}
use Rattle.winnow_script_attempt.specs.declared.told.Told.{Told}
use Rattle.winnow_script_feed.specs.Inputs.{PieceStep, InputRules, byte_input, joined}
use Rattle.winnow_script_feed.specs.ToldAnswers.{capped, shortest_front, numbered, out_on, lets_out, is_waiting, piece_of, told_of, TellsMore, waits, all_answers, told_to_end}
use Rattle.winnow_script_attempt.specs.Looks.{under}
use Rattle.winnow_script_feed.proofs.lemmas.InputLemmas.{IsInput, joined-push}
use Rattle.winnow_script_feed.proofs.lemmas.ReachLemmas.{take_while-stop, take_while-go}

module _ {T C L : Type 0} (k : PieceReading T C L) (all more : Source T) where
  -- the answers that are out are the first of those that are out with more input
  out_from-more : (s : Cursor) (steps : List (SearchStep C L)) → Inside all s
      → (later : List (PlacedSearchAnswer T))
      ×
      (map (λ a. a.0)
      (take_while (λ a. a.1) (answers_from (judged k (all ++ more)) (search_next (all
      ++ more)) steps s))
      ≡ map (λ a. a.0)
      (take_while (λ a. a.1) (answers_from (judged k all) (search_next all) steps s)) ++ later)
  out_from-more s [] inside = ([], refl)
  out_from-more s (x ∷ steps) inside =
      elim (cases_Bool (is_definite k x (rest all s))) [
        | inl e ↦
            let e2 = step-more k all more s inside x e in
            let ih = out_from-more (search_next all x s) steps (step-inside all s inside x) in
            let here = take_while-go (λ a. a.1) (judged k all x s) (answers_from (judged k all) (search_next all) steps (search_next all x s)) e in
            let there = take_while-go (λ a. a.1) (judged k (all ++ more) x s) (answers_from (judged k (all ++ more)) (search_next (all ++ more)) steps (search_next (all ++ more) x s)) e2.2 in
            let next = ap (λ t. map (λ a. a.0) (take_while (λ a. a.1) (answers_from (judged k (all ++ more)) (search_next (all ++ more)) steps t))) e2.1 in (
              ih.0,
              ap (map (λ a. a.0)) there
                  ∙ ap (λ a. a ∷ map (λ a. a.0) (take_while (λ a. a.1) (answers_from (judged k (all ++ more)) (search_next (all ++ more)) steps (search_next (all ++ more) x s)))) e2.0
                  ∙ ap (λ r. search_answer (kind_on_pieces k) all x s ∷ r) (next ∙ ih.1)
                  ∙ ap (λ r. map (λ a. a.0) r ++ ih.0) (sym here),
            )
        | inr e ↦
            let here = take_while-stop (λ a. a.1) (judged k all x s) (answers_from (judged k all) (search_next all) steps (search_next all x s)) e in (
              map (λ a. a.0) (take_while (λ a. a.1) (answers_from (judged k (all ++ more)) (search_next (all ++ more)) (x ∷ steps) s)),
              ap (λ r. map (λ a. a.0) r ++ map (λ a. a.0) (take_while (λ a. a.1) (answers_from (judged k (all ++ more)) (search_next (all ++ more)) (x ∷ steps) s))) (sym here),
            )
      ]

  -- the same from the start of the script
  out-more : (script : List (SearchStep C L))
      → (later : List (PlacedSearchAnswer T))
      × (out k (all ++ more) script ≡ out k all script ++ later)
  out-more script = out_from-more start script (start-inside all)

-- ---- fronts

abbrev pub AreInputs : (List ℕ → Bool) → List (List ℕ) → Type 0
AreInputs valid pieces = AllByRecursion (λ piece. valid piece ≡ true) pieces

-- all pieces of bytes are valid
pub are-bytes : (pieces : List (List ℕ)) → AreInputs byte_input.valid pieces
are-bytes [] = tt
are-bytes (p ∷ pieces) = (refl, are-bytes pieces)

-- valid pieces, joined, are valid
pub AreInputs-joined : (i : InputRules) → IsInput i → (pieces : List (List ℕ))
    → AreInputs i.valid pieces → i.valid (joined pieces) ≡ true
AreInputs-joined i law [] us = law.empty
AreInputs-joined i law (p ∷ pieces) us = law.joins p (joined pieces) us.0 (AreInputs-joined i law pieces us.1)

module _ (valid : List ℕ → Bool) (joins : (xs ys : List ℕ) → valid xs ≡ true → valid ys ≡ true → valid (xs ++ ys) ≡ true) (test : List ℕ → Bool) (grows : (xs ys : List ℕ) → valid xs ≡ true → test xs ≡ true → test (xs ++ ys) ≡ true) where
  -- if all pieces joined pass the test, one more piece does not change the shortest front that does
  found_before : (J : List ℕ) (q : List ℕ) (pieces : List (List ℕ)) (p : List ℕ)
      → test (J ++ joined (q ∷ pieces)) ≡ true
      → shortest_front test J ((q ∷ pieces) ++ p ∷ []) ≡ shortest_front test J (q ∷ pieces)
  found_before J q [] p h = let e : test (J ++ q) ≡ true = rw append-nil at h in rw e
  found_before J q (r ∷ pieces) p h =
      elim (cases_Bool (test (J ++ q))) [
        | inl e ↦ rw e
        | inr e ↦ let ih = found_before (J ++ q) r pieces p (rw (append_assoc J q (joined (r ∷ pieces))) h) in rw e (ap (λ n. n + 1) ih)
      ]

  -- if no front passes before the last piece, the front with all pieces is found
  found_last : (J : List ℕ) (pieces : List (List ℕ)) (p : List ℕ) → valid J ≡ true
      → AreInputs valid pieces → (0 < length pieces → test (J ++ joined pieces) ≡ false)
      → test ((J ++ joined pieces) ++ p) ≡ true
      → shortest_front test J (pieces ++ p ∷ []) ≡ length pieces + 1
  found_last J [] p u us h g = let e : test (J ++ p) ≡ true = rw append-nil at g in rw e (omega arith)
  found_last J (q ∷ pieces) p u us h g =
      elim (cases_Bool (test (J ++ q))) [
        | inl e ↦
            let at_end : test ((J ++ q) ++ joined pieces) ≡ true = grows (J ++ q) (joined pieces) (joins J q u us.0) e in
            let not : test (J ++ (q ++ joined pieces)) ≡ false = h (omega arith) in
            absurd (false≢true (sym not ∙ ap test (sym (append_assoc J q (joined pieces))) ∙ at_end))
        | inr e ↦
            let ih = found_last (J ++ q) pieces p (joins J q u us.0) us.1 (λ _. ap test (append_assoc J q (joined pieces)) ∙ h (omega arith)) (rw (append_assoc J q (joined pieces)) g) in
            rw e (omega (arith, ih))
      ]

-- ---- numbers

-- the numbers of appended answers go on after the first ones
numbered-append : (f : ℕ → ℕ) (k : ℕ) (xs ys : List (PlacedSearchAnswer ℕ))
    → numbered f k (xs ++ ys) ≡ numbered f k xs ++ numbered f (k + length xs) ys
numbered-append f k [] ys = ap (λ n. numbered f n ys) (omega arith)
numbered-append f k (x ∷ xs) ys =
    let e : k + 1 + length xs ≡ k + suc (length xs) = omega arith in
    ap (λ r. under (Some (capped (f k))) x ∷ r) (numbered-append f (k + 1) xs ys ∙ ap (λ n. numbered f (k + 1) xs ++ numbered f n ys) e)

-- functions that agree on the numbers give the same numbered answers
numbered-same : (f g : ℕ → ℕ) (k : ℕ) (xs : List (PlacedSearchAnswer ℕ))
    → ((i : ℕ) → k ≤ i → i < k + length xs → f i ≡ g i) → numbered f k xs ≡ numbered g k xs
numbered-same f g k [] h = refl
numbered-same f g k (x ∷ xs) h =
    rw (h k (omega arith) (omega arith), numbered-same f g (k + 1) xs (λ i l u. h i (omega arith) (omega arith)))

-- answers whose numbers have one piece all carry its number
numbered-one : (f : ℕ → ℕ) (n k : ℕ) (xs : List (PlacedSearchAnswer ℕ))
    → ((i : ℕ) → k ≤ i → i < k + length xs → f i ≡ n)
    → numbered f k xs ≡ map (under (Some (capped n))) xs
numbered-one f n k [] h = refl
numbered-one f n k (x ∷ xs) h =
    rw (h k (omega arith) (omega arith), numbered-one f n (k + 1) xs (λ i l u. h i (omega arith) (omega arith)))

abbrev pub answers_of : {T : Type 0} → List (Told T) → List (PlacedSearchAnswer T)
answers_of told = map (λ t. t.answer) told

-- the answers without their numbers are the answers
answers-numbered : (f : ℕ → ℕ) (k : ℕ) (xs : List (PlacedSearchAnswer ℕ))
    → answers_of (numbered f k xs) ≡ xs
answers-numbered f k [] = refl
answers-numbered f k (x ∷ xs) = ap (λ r. x ∷ r) (answers-numbered f (k + 1) xs)

pub answers-under : {T : Type 0} (n : Option ℕ) (xs : List (PlacedSearchAnswer T))
    → answers_of (map (under n) xs) ≡ xs
answers-under n [] = refl
answers-under n (x ∷ xs) = ap (λ r. x ∷ r) (answers-under n xs)

-- the answers after some pieces are those that are out on their joined input
pub answers-told_of : (i : InputRules) (script : List PieceStep) (p : List ℕ)
    (pieces : List (List ℕ))
    → answers_of (told_of i script (p ∷ pieces)) ≡ out_on i script (joined (p ∷ pieces))
answers-told_of i script p pieces = answers-numbered (piece_of i script (p ∷ pieces)) 0 (out_on i script (joined (p ∷ pieces)))

-- ---- one more piece

-- one more piece adds a wait if a step waits after it
pub waits-push : (i : InputRules) (script : List PieceStep) (J : List ℕ) (pieces : List (List ℕ))
    (p : List ℕ)
    → waits i script J (pieces ++ p ∷ [])
    ≡ waits i script J pieces + cond (is_waiting i script ((J ++ joined pieces) ++ p)) 1 0
waits-push i script J [] p = rw (append-nil J) (omega arith)
waits-push i script J (q ∷ pieces) p = let ih = waits-push i script (J ++ q) pieces p in rw (← append_assoc J q (joined pieces)) (omega (arith, ih))

module _ (i : InputRules) (law : IsInput i) (script : List PieceStep) where
  -- the answers that are out on an input are the first of those that are out on a longer one
  out_on-more : (J M : List ℕ) → i.valid J ≡ true
      → (later : List (PlacedSearchAnswer ℕ))
      × (out_on i script (J ++ M) ≡ out_on i script J ++ later)
  out_on-more J M u =
      let grows = out-more i.pieces (i.source J) (i.source M) script in
      (grows.0, ap (λ r. out i.pieces r script) (law.split J M u) ∙ grows.1)

  -- an answer that is out stays out with more input
  lets_out-more : (k : ℕ) (J M : List ℕ) → i.valid J ≡ true → lets_out i script k J ≡ true
      → lets_out i script k (J ++ M) ≡ true
  lets_out-more k J M u h =
      let less = ltb-true k (length (out_on i script J)) h in
      let grows = out_on-more J M u in
      lt-ltb k (length (out_on i script (J ++ M))) (omega (arith, ap length grows.1, length-append (out_on i script J) grows.0))

  -- the answers after one more piece, if those that were out before are a front of them
  pub told_of-push : (pieces : List (List ℕ)) (p : List ℕ) (more : List (PlacedSearchAnswer ℕ))
      → AreInputs i.valid pieces
      → out_on i script (joined pieces ++ p) ≡ answers_of (told_of i script pieces) ++ more
      → told_of i script (pieces ++ p ∷ []) ≡ told_of i script pieces
      ++ map (under (Some (capped (length pieces + 1)))) more
  told_of-push [] p more us h =
      let J : joined (p ∷ []) ≡ p = append-nil p in
      let fits : (n : ℕ) → 0 ≤ n → n < 0 + length (out_on i script (joined (p ∷ []))) → piece_of i script (p ∷ []) n ≡ 1 = λ n l u.
      found_last i.valid law.joins (lets_out i script n) (lets_out-more n) [] [] p law.empty tt (λ z. absurd (omega arith)) (lt-ltb n _ (omega (arith, ap (λ x. length (out_on i script x)) J))) in
      numbered-one (piece_of i script (p ∷ [])) 1 0 (out_on i script (joined (p ∷ []))) fits ∙ ap (map (under (Some (capped 1)))) (ap (out_on i script) J ∙ h)
  told_of-push (q ∷ pieces) p more us h =
      let all = q ∷ pieces in
      let gs = out_on i script (joined all) in
      let before = answers-told_of i script q pieces in
      let J = joined-push all p in
      let split : out_on i script (joined (all ++ p ∷ [])) ≡ gs ++ more = ap (out_on i script) J ∙ h ∙ ap (λ x. x ++ more) before in
      let early : (n : ℕ) → 0 ≤ n → n < 0 + length gs → piece_of i script (all ++ p ∷ []) n ≡ piece_of i script all n = λ n l u.
      found_before i.valid law.joins (lets_out i script n) (lets_out-more n) [] q pieces p (lt-ltb n _ (omega arith)) in
      let late : (n : ℕ) → 0 + length gs ≤ n → n < 0 + length gs + length more → piece_of i script (all ++ p ∷ []) n ≡ length all + 1 = λ n l u.
      found_last i.valid law.joins (lets_out i script n) (lets_out-more n) [] all p law.empty us (λ _. le-ltb n _ (omega arith)) (lt-ltb n _ (omega (arith, ap length h, length-append (answers_of (told_of i script all)) more, ap length before))) in
      ap (numbered (piece_of i script (all ++ p ∷ [])) 0) split ∙ numbered-append (piece_of i script (all ++ p ∷ [])) 0 gs more
      ∙ rw (numbered-same (piece_of i script (all ++ p ∷ [])) (piece_of i script all) 0 gs early, numbered-one (piece_of i script (all ++ p ∷ [])) (length all + 1) (0 + length gs) more late) refl

  -- one more piece takes no answer back
  pub told_of-more : (pieces : List (List ℕ)) (p : List ℕ) → AreInputs i.valid pieces
      → TellsMore i script pieces p
  told_of-more [] p us = record { later = out_on i script p; told = told_of-push [] p (out_on i script p) us refl }
  told_of-more (q ∷ pieces) p us =
      let all = q ∷ pieces in
      let grows = out_on-more (joined all) p (AreInputs-joined i law all us) in
      let n : length all + 1 ≡ length (all ++ p ∷ []) = sym (length-append all (p ∷ [])) in
      record {
        later = grows.0;
        told = told_of-push all p grows.0 us (grows.1 ∙ ap (λ x. x ++ grows.0) (sym (answers-told_of i script q pieces))) ∙ ap (λ n. told_of i script all ++ map (under (Some (capped n))) grows.0) n;
      }

-- ---- the end

-- the definite front of a list, and the rest, are the list
front-rest : {A : Type 0} (xs : List (A × Bool))
    → map (λ a. a.0) (take_while (λ a. a.1) xs)
    ++ drop (length (map {B = A} (λ a. a.0) (take_while (λ a. a.1) xs))) (map (λ a. a.0) xs)
    ≡ map (λ a. a.0) xs
front-rest [] = refl
front-rest (x ∷ xs) =
    elim (cases_Bool x.1) [
      | inl e ↦ rw (take_while-go (λ a. a.1) x xs e) (ap (λ r. x.0 ∷ r) (front-rest xs))
      | inr e ↦ rw (take_while-stop (λ a. a.1) x xs e) refl
    ]

module _ {T C L : Type 0} (k : PieceReading T C L) (all : Source T) where
  -- the answers without their flags are the answers
  answers-judged : (s : Cursor) (steps : List (SearchStep C L))
      → map (λ a. a.0) (answers_from (judged k all) (search_next all) steps s)
      ≡ answers_from (search_answer (kind_on_pieces k) all) (search_next all) steps s
  answers-judged s [] = refl
  answers-judged s (x ∷ steps) = ap (λ r. search_answer (kind_on_pieces k) all x s ∷ r) (answers-judged (search_next all x s) steps)

  -- the answers that are out, and those after them, are all answers
  out-rest : (script : List (SearchStep C L))
      → out k all script
      ++ drop (length (out k all script)) (search_answers (kind_on_pieces k) all script)
      ≡ search_answers (kind_on_pieces k) all script
  out-rest script =
      let same = answers-judged start script in
      ap (λ r. out k all script ++ drop (length (out k all script)) r) (sym same) ∙ front-rest (answers_from (judged k all) (search_next all) script start) ∙ same

-- the answers at the end are all answers
pub answers-told_to_end : (i : InputRules) (script : List PieceStep) (pieces : List (List ℕ))
    → answers_of (told_to_end i script pieces) ≡ all_answers i script pieces
answers-told_to_end i script [] = answers-under None (all_answers i script [])
answers-told_to_end i script (p ∷ pieces) =
    let told = told_of i script (p ∷ pieces) in
    let all = all_answers i script (p ∷ pieces) in
    let before = answers-told_of i script p pieces in
    let count : length told ≡ length (out_on i script (joined (p ∷ pieces))) = sym (length-map told (λ t. t.answer)) ∙ ap length before in
    map-append (λ t. t.answer) told (map (under None) (drop (length told) all))
    ∙ ap (λ x. answers_of told ++ x) (answers-under None (drop (length told) all))
    ∙ ap (λ x. x ++ drop (length told) all) before
    ∙ ap (λ n. out_on i script (joined (p ∷ pieces)) ++ drop n all) count
    ∙ out-rest i.pieces (i.source (joined (p ∷ pieces))) script
