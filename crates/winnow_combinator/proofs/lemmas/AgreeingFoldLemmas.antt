-- A fold whose step may refuse a value has one answer, where its parts have one.
use Rattle.std.proofs.Common.{◌≡◌, ℕ, suc, ◌+◌, ◌≤◌, ◌<◌, Bool, List, [], ◌∷◌, length, Option, Some, Result, Ok, Err, inl, inr, refl, sym, ◌∙◌, subst, arith}
use Rattle.std.specs.Prelude.{◌⊎◌}
use Rattle.std.specs.List.{FoldsTo}
use Rattle.std.proofs.lemmas.Option.{same_Some}
use Rattle.winnow_parser.specs.Outcome.{Ahead, Failed, Backtracks, Cuts, Needs, Refuses, Outcome, Gives, Fails, Meaning}
use Rattle.winnow_parser.specs.Determined.{IsGranted, Agree, IsDetermined, AreSameIfAny}
use Rattle.winnow_combinator.specs.Appended.{Appending}
use Rattle.winnow_combinator.specs.Counts.{IsBelow, Ascending}
use Rattle.winnow_combinator.specs.DeterminedLists.{IsOneStart}
use Rattle.winnow_combinator.specs.Repeat.{Taking, InTurn, FailsWith, OneMore}
use Rattle.winnow_combinator.proofs.lemmas.AgreeingLemmas.{determined-taking}
use Rattle.winnow_combinator.proofs.lemmas.CombinedLemmas.{determined-ascending}
use Rattle.winnow_combinator.specs.DeterminedFolds.{AreSameIfTaken, TriesRespect}
use Rattle.winnow_combinator.specs.TryFold.{StepsTo, RefusesNext, TriesFold}
use Rattle.winnow_combinator.specs.VerifyFold.{TakesIfSome}

module _ {O A C T : Type 0} (same : A → A → Type 0) (alike : O → O → Type 0) (least : ℕ) (greatest : Option ℕ) (step : A → O → Result A C → Type 0) (respects : TriesRespect same alike (AreSameIfTaken same) step) (inner : Meaning O T) (d : IsDetermined alike (Taking inner)) (partial : Bool) where
  -- a fold ends without a result here: the parser fails, or the step refuses the next value
  abbrev Stops : ℕ → A → Ahead T → Failed T → Type 0
  Stops n whole a f = (FailsWith least n f × Taking inner partial a (Fails f))
      ⊎ ((cause : C) × (RefusesNext step inner partial whole a cause × (f ≡ Backtracks a)))

  -- a fold ends here, after n values, with this outcome
  abbrev Ends : ℕ → A → Ahead T → Outcome A T → Type 0
  Ends n whole a (Gives y b) = (whole ≡ y) × (a ≡ b) × (least ≤ n)
      × ((greatest ≡ Some n) ⊎ (IsBelow greatest n × ((c : Ahead T) × Taking inner partial a (Fails (Backtracks c)))))
  Ends n whole a (Fails f) = IsBelow greatest n × Stops n whole a f

  -- from here a fold takes these values, and then ends
  abbrev Runs : List O → ℕ → A → Ahead T → Outcome A T → Type 0
  Runs [] n whole a v = Ends n whole a v
  Runs (x ∷ xs) n whole a v = (new : A) × ((b : Ahead T)
      × (Taking inner partial a (Gives x b) × step whole x (Ok new) × Runs xs (suc n) new b v))

  -- a number below the greatest count n is less than n
  full-below : (n m : ℕ) → greatest ≡ Some n → IsBelow greatest m → m < n
  full-below n m e b = subst (λ g. IsBelow g m) e b

  -- a fold begins with at most the greatest count
  runs-within : (xs : List O) (n m : ℕ) (whole : A) (a : Ahead T) (v : Outcome A T)
      → Runs xs n whole a v → greatest ≡ Some m → n ≤ m
  runs-within [] n m whole a (Gives y b) (e, f, enough, inl full) g = let same_n : n ≡ m = same_Some _ _ (sym full ∙ g) in omega (arith, same_n)
  runs-within [] n m whole a (Gives y b) (e, f, enough, inr (below, back)) g = omega (arith, full-below m n g below)
  runs-within [] n m whole a (Fails f) (below, stops) g = omega (arith, full-below m n g below)
  runs-within (x ∷ xs) n m whole a v (new, (b, (h, took, later))) g = omega (arith, runs-within xs (suc n) m new b v later g)

  -- a step does not take a value and refuse one that is the same
  takes-refuses : (x y z : A) (p q : O) (cause : C) → same x y → alike p q → step x p (Ok z)
      → step y q (Err cause) → ⊥
  takes-refuses x y z p q cause e u h k = respects x y p q (Ok z) (Err cause) e u h k

  -- nor the other way round
  refuses-takes : (x y z : A) (p q : O) (cause : C) → same x y → alike p q → step x p (Err cause)
      → step y q (Ok z) → ⊥
  refuses-takes x y z p q cause e u h k = respects x y p q (Err cause) (Ok z) e u h k

  -- a fold does not end where another takes one more value
  ends-alone : (n : ℕ) (x y z : A) (q : O) (qs : List O) (a b : Ahead T) (v w : Outcome A T)
      → IsGranted v → same x y → Ends n x a v → Taking inner partial a (Gives q b)
      → step y q (Ok z) → Runs qs (suc n) z b w → ⊥
  ends-alone n x y z q qs a b (Gives l p) w s e (i, j, enough, inl full) h took later = omega (arith, runs-within qs (suc n) n z b w later full)
  ends-alone n x y z q qs a b (Gives l p) w s e (i, j, enough, inr (below, (c, back))) h took later =
      d partial a (Fails (Backtracks c)) (Gives q b) tt tt back h
  ends-alone n x y z q qs a b (Fails f) w s e (below, inl (fails, k)) h took later = d partial a (Fails f) (Gives q b) s tt k h
  ends-alone n x y z q qs a b (Fails f) w s e (below, inr (cause, ((p, (c, (k, refused))), back))) h took later =
      refuses-takes x y z p q cause e (d partial a (Gives p c) (Gives q b) tt tt k h).0 refused took

  -- nor the other way round
  alone-ends : (n : ℕ) (x y z : A) (p : O) (ps : List O) (a b : Ahead T) (v w : Outcome A T)
      → IsGranted w → same x y → Taking inner partial a (Gives p b) → step x p (Ok z)
      → Runs ps (suc n) z b v → Ends n y a w → ⊥
  alone-ends n x y z p ps a b v (Gives r q) s e h took later (i, j, enough, inl full) = omega (arith, runs-within ps (suc n) n z b v later full)
  alone-ends n x y z p ps a b v (Gives r q) s e h took later (i, j, enough, inr (below, (c, back))) =
      d partial a (Fails (Backtracks c)) (Gives p b) tt tt back h
  alone-ends n x y z p ps a b v (Fails g) s e h took later (below, inl (fails, k)) = d partial a (Fails g) (Gives p b) s tt k h
  alone-ends n x y z p ps a b v (Fails g) s e h took later (below, inr (cause, ((q, (c, (k, refused))), back))) =
      takes-refuses x y z p q cause e (d partial a (Gives p b) (Gives q c) tt tt h k).0 took refused

  -- a fold that ends with a result does not stop there without one
  result-stops : (n : ℕ) (y : A) (a c : Ahead T) (g : Failed T) → least ≤ n
      → IsGranted {O = O} (Fails g) → Taking inner partial a (Fails (Backtracks c))
      → Stops n y a g → ⊥
  result-stops n y a c g enough t back (inl (fails, k)) =
      let few = subst (FailsWith least n) (sym (d partial a (Fails (Backtracks c)) (Fails g) tt t back k)) fails in omega (arith, enough, few)
  result-stops n y a c g enough t back (inr (cause, ((q, (b, (k, refused))), e))) = d partial a (Fails (Backtracks c)) (Gives q b) tt tt back k

  -- two ends without a result are the same
  stops-meet : (n : ℕ) (x y : A) (a : Ahead T) (f g : Failed T) → IsGranted {O = O} (Fails f)
      → IsGranted {O = O} (Fails g) → Stops n x a f → Stops n y a g → f ≡ g
  stops-meet n x y a f g s t (inl (few, h)) (inl (fewer, k)) = d partial a (Fails f) (Fails g) s t h k
  stops-meet n x y a f g s t (inl (few, h)) (inr (cause, ((q, (b, (k, refused))), e))) = absurd (d partial a (Fails f) (Gives q b) s tt h k)
  stops-meet n x y a f g s t (inr (cause, ((p, (b, (h, refused))), e))) (inl (few, k)) = absurd (d partial a (Fails g) (Gives p b) t tt k h)
  stops-meet n x y a f g s t (inr (cause, (h, e))) (inr (other, (k, i))) = e ∙ sym i

  -- two ends at one place agree
  ends-meet : (n : ℕ) (x y : A) (a : Ahead T) (v w : Outcome A T) → IsGranted v → IsGranted w
      → same x y → Ends n x a v → Ends n y a w → Agree same v w
  ends-meet n x y a (Gives l b) (Gives r c) s t e h k = (subst (λ z. same z r) h.0 (subst (same x) k.0 e), sym h.1 ∙ k.1)
  ends-meet n x y a (Gives l b) (Fails g) s t e (i, j, enough, inl full) k = omega (arith, full-below n n full k.0)
  ends-meet n x y a (Gives l b) (Fails g) s t e (i, j, enough, inr (below, (c, back))) k = result-stops n y a c g enough t back k.1
  ends-meet n x y a (Fails f) (Gives r c) s t e h (i, j, enough, inl full) = omega (arith, full-below n n full h.0)
  ends-meet n x y a (Fails f) (Gives r c) s t e h (i, j, enough, inr (below, (b, back))) = result-stops n x a b f enough s back h.1
  ends-meet n x y a (Fails f) (Fails g) s t e h k = stops-meet n x y a f g s t h.1 k.1

  -- two folds from one place agree
  runs-meet : (ps qs : List O) (n : ℕ) (x y : A) (a : Ahead T) (v w : Outcome A T) → IsGranted v
      → IsGranted w → same x y → Runs ps n x a v → Runs qs n y a w → Agree same v w
  runs-meet [] [] n x y a v w s t e h k = ends-meet n x y a v w s t e h k
  runs-meet [] (q ∷ qs) n x y a v w s t e h (z, (b, (k, took, later))) = absurd (ends-alone n x y z q qs a b v w s e h k took later)
  runs-meet (p ∷ ps) [] n x y a v w s t e (z, (b, (h, took, later))) k = absurd (alone-ends n x y z p ps a b v w t e h took later k)
  runs-meet (p ∷ ps) (q ∷ qs) n x y a v w s t e (l, (b, (h, took, later))) (r, (c, (k, took_too, later_too))) =
      let one = d partial a (Gives p b) (Gives q c) tt tt h k in
      let next = respects x y p q (Ok l) (Ok r) e one.0 took took_too in
      runs-meet ps qs (suc n) l r b v w s t next later (subst (λ o. Runs qs (suc n) r o w) (sym one.1) later_too)

  -- values in turn that a step folds, and an end after them
  runs-of : (xs : List O) (n m : ℕ) (start whole : A) (a b : Ahead T) (v : Outcome A T)
      → m ≡ n + length xs → InTurn (Taking inner) partial xs a b
      → FoldsTo (StepsTo step) start xs whole → Ends m whole b v → Runs xs n start a v
  runs-of [] n m start whole a b v e turns folds end =
      let same_n : m ≡ n = omega (arith, e) in
      subst (λ l. Ends l start a v) same_n (subst (λ o. Ends m start o v) (sym turns) (subst (λ o. Ends m o b v) (sym folds) end))
  runs-of (x ∷ xs) n m start whole a b v e turns folds end =
      (folds.0, (turns.0, (turns.1.0, folds.1, runs-of xs (suc n) m folds.0 whole turns.0 b v (omega (arith, e)) turns.1.1 folds.2 end)))

-- a failure, for which memory was granted, of asking for one more value is one of the parser
appending-stops : {O T : Type 0} (refusable : Type 0) (least n : ℕ) (inner : Meaning O T)
    (partial : Bool) (a : Ahead T) (f : Failed T) → IsGranted {O = O} (Fails f)
    → Appending refusable (OneMore least n inner) partial a (Fails f)
    → FailsWith least n f × inner partial a (Fails f)
appending-stops refusable least n inner partial a (Backtracks b) s h = h
appending-stops refusable least n inner partial a (Cuts b) s h = h
appending-stops refusable least n inner partial a (Needs m) s h = h
appending-stops refusable least n inner partial a Refuses s h = absurd s

module _ {O A C T : Type 0} (same : A → A → Type 0) (alike : O → O → Type 0) (starts : A → Type 0) (step : A → O → Result A C → Type 0) (start : IsOneStart same starts) (respects : TriesRespect same alike (AreSameIfTaken same) step) (refusable : Type 0) (inner : Meaning O T) (d : IsDetermined alike inner) (least : ℕ) (greatest : Option ℕ) where
  -- a fold from a start
  abbrev Began : Bool → Ahead T → Outcome A T → Type 0
  Began partial a v = (xs : List O) × ((x : A)
      × (starts x × Runs same alike least greatest step respects inner (determined-taking alike inner d) partial xs 0 x a v))

  -- an answer of `TriesFold` is that of a fold from a start
  began : (partial : Bool) (a : Ahead T) (v : Outcome A T) → IsGranted v
      → TriesFold least greatest refusable starts step inner partial a v → Began partial a v
  began partial a (Gives y b) s (xs, ((x, (starts_at, folds)), (turns, enough, end))) = (
    xs,
    (
      x,
      (
        starts_at,
        runs-of same alike least greatest step respects inner (determined-taking alike inner d) partial xs 0 (length xs) x y a b (Gives y b) (omega arith) turns folds
            (refl, refl, enough, elim end [ inl full ↦ inl full | inr k ↦ inr (k.0, k.1.2) ]),
      ),
    ),
  )
  began partial a (Fails f) s (xs, (whole, (b, ((turns, (x, (starts_at, folds))), below, end)))) = (
    xs,
    (
      x,
      (
        starts_at,
        runs-of same alike least greatest step respects inner (determined-taking alike inner d) partial xs 0 (length xs) x whole a b (Fails f) (omega arith) turns folds (
          below,
          elim end [
            | inl h ↦ inl (appending-stops refusable least (length xs) (Taking inner) partial b f s h)
            | inr k ↦ inr k
          ],
        ),
      ),
    ),
  )

  -- `TriesFold` has one answer where its parts have one
  determined-tries_fold : IsDetermined same (TriesFold least greatest refusable starts step inner)
  determined-tries_fold partial a v w s t h k =
      let x = began partial a v s h in
      let y = began partial a w t k in
      runs-meet same alike least greatest step respects inner (determined-taking alike inner d) partial x.0 y.0 0 x.1.0 y.1.0 a v w s t (start x.1.0 y.1.0 x.1.1.0 y.1.1.0) x.1.1.1 y.1.1.1

  -- the same where some number of values must be allowed
  pub determined-try_fold : IsDetermined same
      (Ascending least greatest (TriesFold least greatest refusable starts step inner))
  determined-try_fold = determined-ascending same (TriesFold least greatest refusable starts step inner) determined-tries_fold least greatest

-- a step that may make nothing gives the same as one that may refuse
pub verifies-respects : {O A C : Type 0} (same : A → A → Type 0) (alike : O → O → Type 0)
    (step : A → O → Option A → Type 0) → TriesRespect same alike (AreSameIfAny same) step
    → TriesRespect same alike (AreSameIfTaken {C = C} same) (λ whole x. TakesIfSome (step whole x))
verifies-respects same alike step respects x y p q (Ok l) (Ok r) e u h k = respects x y p q _ _ e u h k
verifies-respects same alike step respects x y p q (Ok l) (Err c) e u h k = respects x y p q _ _ e u h k
verifies-respects same alike step respects x y p q (Err c) (Ok r) e u h k = respects x y p q _ _ e u h k
verifies-respects same alike step respects x y p q (Err c) (Err b) e u h k = tt
