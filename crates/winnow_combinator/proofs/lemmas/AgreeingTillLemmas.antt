-- Repeating a parser up to an end has one answer where the parser and the end have one.
use Rattle.std.proofs.Common.{◌≡◌, ℕ, suc, ◌+◌, ◌≤◌, ◌<◌, Bool, List, [], ◌∷◌, length, Option, Some, None, inl, inr, sym, ◌∙◌, subst, arith}
use Rattle.std.specs.Prelude.{◌⊎◌}
use Rattle.winnow_parser.specs.Outcome.{Ahead, Failed, Backtracks, Outcome, Gives, Fails, Meaning}
use Rattle.winnow_parser.specs.Determined.{IsGranted, IsDetermined, AreBothSame, AreSameIfAny, Respects}
use Rattle.winnow_combinator.specs.Counts.{IsBelow}
use Rattle.winnow_combinator.specs.Repeat.{Taking}
use Rattle.winnow_combinator.specs.RepeatTill.{IsLast, EndAfter, InTurnTill, RepeatsTill, MakesOfFirst}
use Rattle.winnow_combinator.specs.DeterminedLists.{AreSameEach}
use Rattle.winnow_combinator.proofs.lemmas.AgreeingLemmas.{determined-taking}

-- ---- `EndAfter`

module _ {P T : Type 0} (alike : P → P → Type 0) (least : ℕ) (greatest : Option ℕ) (n : ℕ) (terminator : Meaning P T) (e : IsDetermined alike terminator) where
  -- there is no end: the values are too few, or the terminator backtracks and one more value is
  -- allowed
  abbrev NoEnd : Bool → Ahead T → Type 0
  NoEnd partial a = (n < least) ⊎ (IsBelow greatest n × ((c : Ahead T) × terminator partial a (Fails (Backtracks c))))

  -- where the terminator gives a value after enough values, `NoEnd` does not hold
  no_end-gives : (partial : Bool) (a b : Ahead T) (y : P) → least ≤ n
      → terminator partial a (Gives y b) → NoEnd partial a → ⊥
  no_end-gives partial a b y enough h (inl few) = omega (arith, enough, few)
  no_end-gives partial a b y enough h (inr (below, (c, back))) = e partial a (Gives y b) (Fails (Backtracks c)) tt tt h back

  -- where the terminator's failure is that of the whole, `NoEnd` does not hold
  no_end-fails : (partial : Bool) (a : Ahead T) (f : Failed T) → IsGranted {O = P} (Fails f)
      → least ≤ n → IsLast greatest n f → terminator partial a (Fails f) → NoEnd partial a → ⊥
  no_end-fails partial a f s enough last h (inl few) = omega (arith, enough, few)
  no_end-fails partial a f s enough last h (inr (below, (c, back))) =
      subst (IsLast greatest n) (e partial a (Fails f) (Fails (Backtracks c)) s tt h back) last below

  -- `EndAfter` has one answer where its parts have one
  determined-end_after : IsDetermined (AreSameIfAny alike) (EndAfter least greatest n terminator)
  determined-end_after partial a (Gives (Some y) b) (Gives (Some z) c) s t h k = e partial a (Gives y b) (Gives z c) tt tt h.1 k.1
  determined-end_after partial a (Gives (Some y) b) (Gives None c) s t h k = absurd (no_end-gives partial a b y h.0 h.1 k.1)
  determined-end_after partial a (Gives (Some y) b) (Fails g) s t h k = e partial a (Gives y b) (Fails g) tt t h.1 k.2
  determined-end_after partial a (Gives None b) (Gives (Some z) c) s t h k = absurd (no_end-gives partial a c z k.0 k.1 h.1)
  determined-end_after partial a (Gives None b) (Gives None c) s t h k = (tt, sym h.0 ∙ k.0)
  determined-end_after partial a (Gives None b) (Fails g) s t h k = absurd (no_end-fails partial a g t k.0 k.1 k.2 h.1)
  determined-end_after partial a (Fails f) (Gives (Some z) c) s t h k = e partial a (Fails f) (Gives z c) s tt h.2 k.1
  determined-end_after partial a (Fails f) (Gives None c) s t h k = absurd (no_end-fails partial a f s h.0 h.1 h.2 k.1)
  determined-end_after partial a (Fails f) (Fails g) s t h k = e partial a (Fails f) (Fails g) s t h.2 k.2

-- ---- `RepeatsTill`

-- the lists, the ends and the places after them agree, or the failures do
abbrev MeetTill : {O P T : Type 0} → (O → O → Type 0) → (P → P → Type 0) → List O → List O
    → Outcome P T → Outcome P T → Type 0
MeetTill same alike xs ys (Gives p b) (Gives q c) = (AreSameEach same xs ys × alike p q) × (b ≡ c)
MeetTill same alike xs ys (Gives p b) (Fails g) = ⊥
MeetTill same alike xs ys (Fails f) (Gives q c) = ⊥
MeetTill same alike xs ys (Fails f) (Fails g) = f ≡ g

module _ {O P T : Type 0} (same : O → O → Type 0) (alike : P → P → Type 0) (least : ℕ) (greatest : Option ℕ) (step : Meaning O T) (terminator : Meaning P T) (d : IsDetermined same step) (e : IsDetermined alike terminator) (partial : Bool) where
  -- after n values the whole ends with this outcome: by the terminator, or by a failure of the
  -- parser
  abbrev EndsTill : ℕ → Ahead T → Outcome P T → Type 0
  EndsTill n a (Gives y b) = EndAfter least greatest n terminator partial a (Gives (Some y) b)
  EndsTill n a (Fails f) = EndAfter least greatest n terminator partial a (Fails f)
      ⊎ (EndAfter least greatest n terminator partial a (Gives None a) × step partial a (Fails f))

  -- the terminator has one answer after n values
  one_end : (n : ℕ) → IsDetermined (AreSameIfAny alike) (EndAfter least greatest n terminator)
  one_end n = determined-end_after alike least greatest n terminator e

  -- two ends at one place agree
  ends_till-meet : (n : ℕ) (a : Ahead T) (v w : Outcome P T) → IsGranted v → IsGranted w
      → EndsTill n a v → EndsTill n a w → MeetTill {O = O} same alike [] [] v w
  ends_till-meet n a (Gives y b) (Gives z c) s t h k =
      let one = one_end n partial a (Gives (Some y) b) (Gives (Some z) c) tt tt h k in ((tt, one.0), one.1)
  ends_till-meet n a (Gives y b) (Fails g) s t h (inl k) = one_end n partial a (Gives (Some y) b) (Fails g) tt t h k
  ends_till-meet n a (Gives y b) (Fails g) s t h (inr k) = (one_end n partial a (Gives (Some y) b) (Gives None a) tt tt h k.0).0
  ends_till-meet n a (Fails f) (Gives z c) s t (inl h) k = one_end n partial a (Fails f) (Gives (Some z) c) s tt h k
  ends_till-meet n a (Fails f) (Gives z c) s t (inr h) k = (one_end n partial a (Gives None a) (Gives (Some z) c) tt tt h.0 k).0
  ends_till-meet n a (Fails f) (Fails g) s t (inl h) (inl k) = one_end n partial a (Fails f) (Fails g) s t h k
  ends_till-meet n a (Fails f) (Fails g) s t (inl h) (inr k) = absurd (one_end n partial a (Fails f) (Gives None a) s tt h k.0)
  ends_till-meet n a (Fails f) (Fails g) s t (inr h) (inl k) = absurd (one_end n partial a (Gives None a) (Fails g) tt t h.0 k)
  ends_till-meet n a (Fails f) (Fails g) s t (inr h) (inr k) = d partial a (Fails f) (Fails g) s t h.1 k.1

  -- where the whole ends, no more value is read
  ends_till-alone : (n : ℕ) (a b : Ahead T) (x : O) (v : Outcome P T) → IsGranted v
      → EndsTill n a v → EndAfter least greatest n terminator partial a (Gives None a)
      → step partial a (Gives x b) → ⊥
  ends_till-alone n a b x (Gives y p) s h none means = (one_end n partial a (Gives (Some y) p) (Gives None a) tt tt h none).0
  ends_till-alone n a b x (Fails f) s (inl h) none means = one_end n partial a (Fails f) (Gives None a) s tt h none
  ends_till-alone n a b x (Fails f) s (inr h) none means = d partial a (Fails f) (Gives x b) s tt h.1 means

  -- lists that agree still agree with the same value in front
  both_till-meet : (x y : O) (xs ys : List O) (v w : Outcome P T) → same x y
      → MeetTill same alike xs ys v w → MeetTill same alike (x ∷ xs) (y ∷ ys) v w
  both_till-meet x y xs ys (Gives p b) (Gives q c) one h = (((one, h.0.0), h.0.1), h.1)
  both_till-meet x y xs ys (Gives p b) (Fails g) one h = h
  both_till-meet x y xs ys (Fails f) (Gives q c) one h = h
  both_till-meet x y xs ys (Fails f) (Fails g) one h = h

  -- two repetitions up to an end agree, from one place and after n values
  turns_till-meet : (xs ys : List O) (n m k : ℕ) (a b c : Ahead T) (v w : Outcome P T)
      → m ≡ n + length xs → k ≡ n + length ys → IsGranted v → IsGranted w
      → InTurnTill least greatest n terminator step partial xs a b → InTurnTill least greatest n terminator step partial ys a c → EndsTill m b v → EndsTill k c w → MeetTill same alike xs ys v w
  turns_till-meet [] [] n m k a b c v w i j s t at to h l =
      ends_till-meet n a v w s t (subst (λ p. EndsTill n p v) (sym at) (subst (λ u. EndsTill u b v) (omega (arith, i)) h)) (subst (λ p. EndsTill n p w) (sym to) (subst (λ u. EndsTill u c w) (omega (arith, j)) l))
  turns_till-meet [] (y ∷ ys) n m k a b c v w i j s t at to h l =
      absurd (ends_till-alone n a to.0 y v s (subst (λ p. EndsTill n p v) (sym at) (subst (λ u. EndsTill u b v) (omega (arith, i)) h)) to.1.0 to.1.1)
  turns_till-meet (x ∷ xs) [] n m k a b c v w i j s t at to h l =
      absurd (ends_till-alone n a at.0 x w t (subst (λ p. EndsTill n p w) (sym to) (subst (λ u. EndsTill u c w) (omega (arith, j)) l)) at.1.0 at.1.1)
  turns_till-meet (x ∷ xs) (y ∷ ys) n m k a b c v w i j s t at to h l =
      let one = d partial a (Gives x at.0) (Gives y to.0) tt tt at.1.1 to.1.1 in
      let others = turns_till-meet xs ys (suc n) m k at.0 b c v w (omega (arith, i)) (omega (arith, j)) s t at.1.2 (subst (λ p. InTurnTill least greatest (suc n) terminator step partial ys p c) (sym one.1) to.1.2) h l in
      both_till-meet x y xs ys v w one.0 others

module _ {O P T : Type 0} (same : O → O → Type 0) (alike : P → P → Type 0) (least : ℕ) (greatest : Option ℕ) (inner : Meaning O T) (terminator : Meaning P T) (d : IsDetermined same inner) (e : IsDetermined alike terminator) where
  -- two repetitions up to an end agree, from the first value on
  till-meet : (partial : Bool) (a b c : Ahead T) (xs ys : List O) (v w : Outcome P T) → IsGranted v
      → IsGranted w
      → InTurnTill least greatest 0 terminator (Taking inner) partial xs a b → InTurnTill least greatest 0 terminator (Taking inner) partial ys a c
      → EndsTill same alike least greatest (Taking inner) terminator (determined-taking same inner d) e partial (length xs) b v
      → EndsTill same alike least greatest (Taking inner) terminator (determined-taking same inner d) e partial (length ys) c w
      → MeetTill same alike xs ys v w
  till-meet partial a b c xs ys v w s t at to h k =
      turns_till-meet same alike least greatest (Taking inner) terminator (determined-taking same inner d) e partial xs ys 0 (length xs) (length ys) a b c v w (omega arith) (omega arith) s t at to h k

  -- `RepeatsTill` has one answer where its parts have one
  pub determined-repeat_till : IsDetermined (AreBothSame (AreSameEach same) alike)
      (RepeatsTill least greatest inner terminator)
  determined-repeat_till partial a (Gives x b) (Gives y c) s t h k =
      till-meet partial a h.0 k.0 x.0 y.0 (Gives x.1 b) (Gives y.1 c) tt tt h.1.0 k.1.0 h.1.1 k.1.1
  determined-repeat_till partial a (Gives x b) (Fails g) s t h k =
      till-meet partial a h.0 k.1.0 x.0 k.0 (Gives x.1 b) (Fails g) tt t h.1.0 k.1.1.0 h.1.1 k.1.1.1
  determined-repeat_till partial a (Fails f) (Gives y c) s t h k =
      till-meet partial a h.1.0 k.0 h.0 y.0 (Fails f) (Gives y.1 c) s tt h.1.1.0 k.1.0 h.1.1.1 k.1.1
  determined-repeat_till partial a (Fails f) (Fails g) s t h k =
      till-meet partial a h.1.0 k.1.0 h.0 k.0 (Fails f) (Fails g) s t h.1.1.0 k.1.1.0 h.1.1.1 k.1.1.1

-- gathering the first part of pairs keeps them the same
pub makes_of_first-respects : {O A P : Type 0} (same : O → O → Type 0) (alike : A → A
    → Type 0) (equal : P → P → Type 0) (makes : O → A → Type 0) → Respects same alike makes
    → Respects (AreBothSame same equal) (AreBothSame alike equal) (MakesOfFirst makes)
makes_of_first-respects same alike equal makes respects x y p q both h k =
    (respects x.0 y.0 p.0 q.0 both.0 h.0 k.0, subst (λ o. equal o q.1) h.1 (subst (equal x.1) k.1 both.1))
