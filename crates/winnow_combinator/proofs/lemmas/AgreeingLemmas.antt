-- Repeating a parser that has one answer has one answer.
use Rattle.std.proofs.Common.{◌≡◌, ℕ, suc, ◌+◌, ◌≤◌, ◌<◌, Bool, List, [], ◌∷◌, length, Option, Some, inl, inr, refl, ap, sym, ◌∙◌, subst, arith}
use Rattle.std.proofs.lemmas.Option.{same_Some}
use Rattle.std.specs.Prelude.{◌⊎◌, ⊤}
use Rattle.winnow_stream.specs.Source.{width}
use Rattle.winnow_parser.specs.Outcome.{Ahead, Failed, Backtracks, Cuts, Needs, Refuses, Outcome, Gives, Fails, Meaning}
use Rattle.winnow_parser.specs.Determined.{IsGranted, Agree, IsDetermined}
use Rattle.winnow_combinator.specs.Counts.{IsBelow}
use Rattle.winnow_combinator.specs.Repeat.{Taking, InTurn, FailsWith, Repeats}
use Rattle.winnow_combinator.specs.DeterminedLists.{AreSameEach}

-- ---- `Taking`

-- the outcome is a value for which something was taken, or a failure
abbrev Moved : {O T : Type 0} → Ahead T → Outcome O T → Type 0
Moved a (Gives x b) = width b.tokens < width a.tokens
Moved a (Fails f) = ⊤

-- the outcome is the cut for a value for which nothing was taken
abbrev Stood : {O T : Type 0} → Meaning O T → Bool → Ahead T → Outcome O T → Type 0
Stood {O} {T} inner partial a v = (x : O) × ((b : Ahead T) × (inner partial a (Gives x b) × (width a.tokens ≤ width b.tokens) × (v ≡ Fails (Cuts b))))

module _ {O T : Type 0} (same : O → O → Type 0) (inner : Meaning O T) (d : IsDetermined same inner) (partial : Bool) (a : Ahead T) where
  -- an answer of `Taking` is one of the inner parser, or the cut for a value that took nothing
  taking-cases : (v : Outcome O T) → Taking inner partial a v
      → (inner partial a v × Moved a v) ⊎ Stood inner partial a v
  taking-cases (Gives x b) h = inl h
  taking-cases (Fails (Backtracks b)) h = inl (h, tt)
  taking-cases (Fails (Cuts b)) (inl h) = inl (h, tt)
  taking-cases (Fails (Cuts b)) (inr h) = inr (h.0, (b, (h.1.0, h.1.1, refl)))
  taking-cases (Fails (Needs n)) h = inl (h, tt)
  taking-cases (Fails Refuses) h = inl (h, tt)

  -- an outcome that took something agrees with no value that took nothing
  moved-stood : (v : Outcome O T) (y : O) (c : Ahead T) → Moved a v
      → width a.tokens ≤ width c.tokens → Agree same v (Gives y c) → ⊥
  moved-stood (Gives x b) y c m l e = omega (arith, m, l, ap (λ p. width p.tokens) e.1)
  moved-stood (Fails f) y c m l e = e

  -- the same in the other order
  stood-moved : (w : Outcome O T) (x : O) (b : Ahead T) → Moved a w
      → width a.tokens ≤ width b.tokens → Agree same (Gives x b) w → ⊥
  stood-moved (Gives y c) x b m l e = omega (arith, m, l, ap (λ p. width p.tokens) e.1)
  stood-moved (Fails g) x b m l e = e

  -- two answers of `Taking` agree, by these cases
  taking-agree : (v w : Outcome O T) → IsGranted v → IsGranted w
      → (inner partial a v × Moved a v) ⊎ Stood inner partial a v
      → (inner partial a w × Moved a w) ⊎ Stood inner partial a w → Agree same v w
  taking-agree v w s t (inl h) (inl k) = d partial a v w s t h.0 k.0
  taking-agree v w s t (inl h) (inr (y, (c, (k, l, e)))) = absurd (moved-stood v y c h.1 l (d partial a v (Gives y c) s tt h.0 k))
  taking-agree v w s t (inr (x, (b, (h, l, e)))) (inl k) = absurd (stood-moved w x b k.1 l (d partial a (Gives x b) w tt t h k.0))
  taking-agree v w s t (inr (x, (b, (h, l, e)))) (inr (y, (c, (k, m, f)))) =
      let place = (d partial a (Gives x b) (Gives y c) tt tt h k).1 in
      subst (λ u. Agree same v u) (sym f) (subst (λ u. Agree same u (Fails (Cuts c))) (sym e) (ap Cuts place))

-- `Taking` has one answer where its parts have one
pub determined-taking : {O T : Type 0} (same : O → O → Type 0) (inner : Meaning O T)
    → IsDetermined same inner → IsDetermined same (Taking inner)
determined-taking same inner d partial a v w s t h k =
    taking-agree same inner d partial a v w s t (taking-cases same inner d partial a v h) (taking-cases same inner d partial a w k)

-- ---- `Repeats`

-- the lists and the places after them agree, or the failures do
abbrev Meet : {O P T : Type 0} → (O → O → Type 0) → List O → List O → Outcome P T → Outcome P T
    → Type 0
Meet same xs ys (Gives x b) (Gives y c) = AreSameEach same xs ys × (b ≡ c)
Meet same xs ys (Gives x b) (Fails g) = ⊥
Meet same xs ys (Fails f) (Gives y c) = ⊥
Meet same xs ys (Fails f) (Fails g) = f ≡ g

module _ {O T : Type 0} (same : O → O → Type 0) (least : ℕ) (greatest : Option ℕ) (step : Meaning O T) (d : IsDetermined same step) (partial : Bool) where
  -- after n values the repetition ends with this outcome: n is the greatest count, or the parser
  -- backtracks and n are enough; or it fails
  abbrev Ends : {P : Type 0} → ℕ → Ahead T → Outcome P T → Type 0
  Ends n a (Gives x b) = (a ≡ b) × (least ≤ n)
      × ((greatest ≡ Some n) ⊎ (IsBelow greatest n × ((c : Ahead T) × step partial a (Fails (Backtracks c)))))
  Ends n a (Fails f) = IsBelow greatest n × FailsWith least n f × step partial a (Fails f)

  -- a number below the greatest count n is less than n
  full-below : (n m : ℕ) → greatest ≡ Some n → IsBelow greatest m → m < n
  full-below n m e b = subst (λ g. IsBelow g m) e b

  -- a backtrack after enough values is not a failure of the repetition
  enough-fails : (n : ℕ) (a c : Ahead T) (f : Failed T) → least ≤ n → IsGranted {O = O} (Fails f)
      → FailsWith least n f → step partial a (Fails (Backtracks c)) → step partial a (Fails f) → ⊥
  enough-fails n a c f enough t few back h =
      let few_c = subst (FailsWith least n) (sym (d partial a (Fails (Backtracks c)) (Fails f) tt t back h)) few in
      omega (arith, enough, few_c)

  module _ {P : Type 0} where
    -- two ends at one place agree
    ends-meet : (n : ℕ) (a : Ahead T) (v w : Outcome P T) → IsGranted v → IsGranted w → Ends n a v
        → Ends n a w → Meet {O = O} same [] [] v w
    ends-meet n a (Gives x b) (Gives y c) s t h k = (tt, sym h.0 ∙ k.0)
    ends-meet n a (Gives x b) (Fails g) s t (e, enough, inl full) k = omega (arith, full-below n n full k.0)
    ends-meet n a (Gives x b) (Fails g) s t (e, enough, inr (below, (c, back))) k = enough-fails n a c g enough t k.1 back k.2
    ends-meet n a (Fails f) (Gives y c) s t h (e, enough, inl full) = omega (arith, full-below n n full h.0)
    ends-meet n a (Fails f) (Gives y c) s t h (e, enough, inr (below, (b, back))) = enough-fails n a b f enough s h.1 back h.2
    ends-meet n a (Fails f) (Fails g) s t h k = d partial a (Fails f) (Fails g) s t h.2 k.2

    -- a repetition ends with at most the greatest count
    ends-within : (n m : ℕ) (a : Ahead T) (w : Outcome P T) → Ends m a w → greatest ≡ Some n → m ≤ n
    ends-within n m a (Gives y c) (e, enough, inl full) f = let same_n : m ≡ n = same_Some _ _ (sym full ∙ f) in omega (arith, same_n)
    ends-within n m a (Gives y c) (e, enough, inr (below, back)) f = omega (arith, full-below n m f below)
    ends-within n m a (Fails g) k f = omega (arith, full-below n m f k.0)

    -- where a repetition ends, it cannot read one more value and end later
    ends-alone : (n m : ℕ) (a b c : Ahead T) (x : O) (v w : Outcome P T) → n < m → IsGranted v
        → Ends n a v → step partial a (Gives x b) → Ends m c w → ⊥
    ends-alone n m a b c x (Gives y p) w l s (e, enough, inl full) h k = omega (arith, l, ends-within n m c w k full)
    ends-alone n m a b c x (Gives y p) w l s (e, enough, inr (below, (q, back))) h k = d partial a (Fails (Backtracks q)) (Gives x b) tt tt back h
    ends-alone n m a b c x (Fails f) w l s e h k = d partial a (Fails f) (Gives x b) s tt e.2 h

    -- lists that agree still agree with the same value in front
    both-meet : (x y : O) (xs ys : List O) (v w : Outcome P T) → same x y → Meet same xs ys v w
        → Meet same (x ∷ xs) (y ∷ ys) v w
    both-meet x y xs ys (Gives p b) (Gives q c) e h = ((e, h.0), h.1)
    both-meet x y xs ys (Gives p b) (Fails g) e h = h
    both-meet x y xs ys (Fails f) (Gives q c) e h = h
    both-meet x y xs ys (Fails f) (Fails g) e h = h

    -- two repetitions from one place agree
    turns-meet : (xs ys : List O) (n m k : ℕ) (a b c : Ahead T) (v w : Outcome P T)
        → m ≡ n + length xs → k ≡ n + length ys → IsGranted v → IsGranted w
        → InTurn step partial xs a b → InTurn step partial ys a c → Ends m b v → Ends k c w → Meet same xs ys v w
    turns-meet [] [] n m k a b c v w e f s t at to h j =
        ends-meet n a v w s t (subst (λ p. Ends n p v) (sym at) (subst (λ l. Ends l b v) (omega (arith, e)) h)) (subst (λ p. Ends n p w) (sym to) (subst (λ l. Ends l c w) (omega (arith, f)) j))
    turns-meet [] (y ∷ ys) n m k a b c v w e f s t at to h j =
        absurd (ends-alone n k a to.0 c y v w (omega (arith, f)) s (subst (λ p. Ends n p v) (sym at) (subst (λ l. Ends l b v) (omega (arith, e)) h)) to.1.0 j)
    turns-meet (x ∷ xs) [] n m k a b c v w e f s t at to h j =
        absurd (ends-alone n m a at.0 b x w v (omega (arith, e)) t (subst (λ p. Ends n p w) (sym to) (subst (λ l. Ends l c w) (omega (arith, f)) j)) at.1.0 h)
    turns-meet (x ∷ xs) (y ∷ ys) n m k a b c v w e f s t at to h j =
        let one = d partial a (Gives x at.0) (Gives y to.0) tt tt at.1.0 to.1.0 in
        let others = turns-meet xs ys (suc n) m k at.0 b c v w (omega (arith, e)) (omega (arith, f)) s t at.1.1 (subst (λ p. InTurn step partial ys p c) (sym one.1) to.1.1) h j in
        both-meet x y xs ys v w one.0 others

-- the outcome is a value, and the list is that value
abbrev IsOf : {O T : Type 0} → List O → Outcome (List O) T → Type 0
IsOf xs (Gives ys b) = xs ≡ ys
IsOf xs (Fails f) = ⊤

module _ {O T : Type 0} (same : O → O → Type 0) (least : ℕ) (greatest : Option ℕ) (inner : Meaning O T) (d : IsDetermined same inner) where
  -- an answer of `Repeats` is a list of values with an end after it
  ends : (partial : Bool) (a : Ahead T) (v : Outcome (List O) T)
      → Repeats least greatest inner partial a v
      → (xs : List O) × ((b : Ahead T) × (InTurn (Taking inner) partial xs a b × Ends same least greatest (Taking inner) (determined-taking same inner d) partial (length xs) b v × IsOf xs v))
  ends partial a (Gives xs b) h = (xs, (b, (h.0, (refl, h.1, elim h.2 [ inl full ↦ inl full | inr k ↦ inr (k.0, k.1.2) ]), refl)))
  ends partial a (Fails f) h = (h.0, (h.1.0, (h.1.1.0, (h.1.1.1, h.1.1.2.0, h.1.1.2.1), tt)))

  -- outcomes agree where their lists and ends do
  meet-agree : (xs ys : List O) (v w : Outcome (List O) T) → IsOf xs v → IsOf ys w
      → Meet same xs ys v w → Agree (AreSameEach same) v w
  meet-agree xs ys (Gives p b) (Gives q c) e f h = (subst (λ l. AreSameEach same l q) e (subst (AreSameEach same xs) f h.0), h.1)
  meet-agree xs ys (Gives p b) (Fails g) e f h = h
  meet-agree xs ys (Fails g) (Gives q c) e f h = h
  meet-agree xs ys (Fails f) (Fails g) e i h = h

  -- `Repeats` has one answer where its parts have one
  pub determined-repeat : IsDetermined (AreSameEach same) (Repeats least greatest inner)
  determined-repeat partial a v w s t h k =
      let x = ends partial a v h in
      let y = ends partial a w k in
      meet-agree x.0 y.0 v w x.1.1.2 y.1.1.2
      (turns-meet same least greatest (Taking inner) (determined-taking same inner d) partial x.0 y.0 0 (length x.0) (length y.0) a x.1.0 y.1.0 v w (omega arith) (omega arith) s t x.1.1.0 y.1.1.0 x.1.1.1 y.1.1.1)
