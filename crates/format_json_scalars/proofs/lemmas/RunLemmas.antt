-- Runs of bytes of a set: where one ends, and that none is missed.
use Rattle.std.proofs.Common.{◌≡◌, ℕ, ◌≤◌, Bool, true, false, List, [], ◌∷◌, ◌++◌, length, Some, None, inl, inr, ap, sym, ◌∙◌, subst, refl, arith}
use Rattle.winnow_stream.specs.Source.{Source, HasPositiveWidths}
use Rattle.winnow_stream.specs.SliceBytes.{SlicesHaveBytes}
use Rattle.winnow_parser.specs.Outcome.{Ahead, Failed, Backtracks, Cuts, Needs, Refuses, Gives, Fails}
use Rattle.format_lemmas.specs.Bytes.{Each, bytes_of, Starts, EndsRun}
use Rattle.format_lemmas.proofs.lemmas.ByteLemmas.{heads, tails, each-after}
use Rattle.format_lemmas.proofs.lemmas.TokenLemmas.{itself, held-fails, held-given}
use Rattle.format_json_scalars.specs.Numbers.{Tells}
use Rattle.format_json_scalars.specs.Meanings.{Keeps, Run}

module _ {S : Type 0} (bytes : S → List ℕ) (fact : List ℕ → Type 0) (s : S) (t : List ℕ) where
  -- a slice is kept where the test holds of its bytes
  pub keeps-yes : (answer : Bool) → t ≡ bytes s → answer ≡ true → Tells answer (fact t)
      → Keeps (λ v. fact (bytes v)) s (Some s)
  keeps-yes true e is tells = (refl, subst fact e tells)
  keeps-yes false e is tells = absurd (cc)

  -- where it does not hold, none is
  pub keeps-no : (answer : Bool) → t ≡ bytes s → answer ≡ false → Tells answer (fact t)
      → Keeps (λ v. fact (bytes v)) s None
  keeps-no true e is tells = absurd (cc)
  keeps-no false e is tells = λ h. tells (subst fact (sym e) h)

module _ (holds : ℕ → Bool) where
  -- a run and what follows it, where no byte of the set follows, are so in one way
  pub split-once : (t s u r : List ℕ) → Each holds t → ¬ (Starts holds s) → Each holds u
      → ¬ (Starts holds r) → t ++ s ≡ u ++ r → (t ≡ u) × (s ≡ r)
  split-once [] s [] r f p g q e = (refl, e)
  split-once [] s (y ∷ u) r f p g q e = absurd (p (subst (Starts holds) (sym e) g.0))
  split-once (x ∷ t) s [] r f p g q e = absurd (q (subst (Starts holds) e f.0))
  split-once (x ∷ t) s (y ∷ u) r f p g q e =
      let on = split-once t s u r f.1 p g.1 q (tails x y (t ++ s) (u ++ r) e) in
      (ap (λ n. n ∷ t) (heads x y (t ++ s) (u ++ r) e) ∙ ap (λ l. y ∷ l) on.0, on.1)

  -- no longer run stands where one ends
  pub longest-run : (t s u r : List ℕ) → ¬ (Starts holds s) → Each holds u → t ++ s ≡ u ++ r
      → length u ≤ length t
  longest-run t s [] r p g e = omega arith
  longest-run [] s (y ∷ u) r p g e = absurd (p (subst (Starts holds) (sym e) g.0))
  longest-run (x ∷ t) s (y ∷ u) r p g e =
      let on = longest-run t s u r p g.1 (tails x y (t ++ s) (u ++ r) e) in omega (arith, on)

  -- where a run ends, not all bytes are of the set
  ended-not : (partial : Bool) (s : List ℕ) → EndsRun holds partial s → partial ≡ true
      → Each holds s → ⊥
  ended-not partial [] ends p h = ends.1 p refl
  ended-not partial (x ∷ s) ends p h = ends.0 h.0

  -- a run that is not empty begins with a byte of the set
  run-starts : (t s r : List ℕ) → r ≡ t ++ s → 1 ≤ length t → Each holds t → Starts holds r
  run-starts [] s r e l h = absurd (omega (arith, l))
  run-starts (x ∷ t) s r e l h = subst (Starts holds) (sym e) h.0

module _ {S : Type 0} (is_slice : S → Source ℕ → ℕ → Type 0) (bytes : S → List ℕ) (have : SlicesHaveBytes is_slice bytes) (holds : ℕ → Bool) (fact : List ℕ → Type 0) (partial : Bool) where
  -- a run that is given stands first, the fact holds of it, and it ends before the rest
  pub run-given : (s : S) (a b : Ahead ℕ) → HasPositiveWidths a.tokens
      → Run itself is_slice bytes holds fact partial a (Gives s b)
      → (bytes_of a.tokens ≡ bytes s ++ bytes_of b.tokens) × fact (bytes s) × Each holds (bytes s)
      × EndsRun holds partial (bytes_of b.tokens)
  run-given s a b wide (x, (keeps, h)) =
      let held = held-given is_slice holds 1 bytes have partial a b x wide h in (
        held.0 ∙ ap (λ t. bytes t ++ bytes_of b.tokens) (sym keeps.0),
        subst (λ t. fact (bytes t)) (sym keeps.0) keeps.1,
        subst (λ t. Each holds (bytes t)) (sym keeps.0) held.1,
        held.2,
      )

  -- a failure takes nothing, and where more may follow, not all bytes are of the set; or more is
  -- needed, where it may follow and they are
  abbrev pub RunFails : Ahead ℕ → Failed ℕ → Type 0
  RunFails a (Backtracks b) = (b ≡ a) × (partial ≡ true → ¬ (Each holds (bytes_of a.tokens)))
  RunFails a (Cuts b) = ⊥
  RunFails a (Needs n) = (partial ≡ true) × Each holds (bytes_of a.tokens)
  RunFails a Refuses = ⊥

  -- a run fails as `RunFails` says
  pub run-fails : (f : Failed ℕ) (a : Ahead ℕ) → HasPositiveWidths a.tokens
      → Run itself is_slice bytes holds fact partial a (Fails f) → RunFails a f
  run-fails (Backtracks b) a wide (inl h) =
      let fails = held-fails is_slice holds 1 partial a (Backtracks b) (omega arith) h in
      (fails.0, λ p all. ended-not holds partial (bytes_of a.tokens) fails.1 p all)
  run-fails (Backtracks b) a wide (inr (same, (x, (c, (h, never))))) =
      let held = held-given is_slice holds 1 bytes have partial a c x wide h in
      (sym same, λ p all. ended-not holds partial (bytes_of c.tokens) held.2 p (each-after holds (bytes x) (bytes_of c.tokens) (subst (Each holds) held.0 all)))
  run-fails (Cuts b) a wide h = held-fails is_slice holds 1 partial a (Cuts b) (omega arith) h
  run-fails (Needs n) a wide h = held-fails is_slice holds 1 partial a (Needs n) (omega arith) h
  run-fails Refuses a wide h = held-fails is_slice holds 1 partial a Refuses (omega arith) h

  module _ (t s : List ℕ) (some : 1 ≤ length t) (is : fact t) (each : Each holds t) (ends : EndsRun holds partial s) where
    -- the run with which the bytes begin is the one that is returned
    pub run-once : (x : S) (a b : Ahead ℕ) → HasPositiveWidths a.tokens
        → bytes_of a.tokens ≡ t ++ s → Run itself is_slice bytes holds fact partial a (Gives x b)
        → (bytes x ≡ t) × (bytes_of b.tokens ≡ s)
    run-once x a b wide e h =
        let given = run-given x a b wide h in
        split-once holds (bytes x) (bytes_of b.tokens) t s given.2 given.3.0 each ends.0 (sym given.0 ∙ e)

    -- if the bytes begin with a run, one is returned
    pub run-missed : (f : Failed ℕ) (a : Ahead ℕ) → HasPositiveWidths a.tokens
        → bytes_of a.tokens ≡ t ++ s → ¬ (Run itself is_slice bytes holds fact partial a (Fails f))
    run-missed (Backtracks b) a wide e (inl h) =
        (held-fails is_slice holds 1 partial a (Backtracks b) (omega arith) h).1.0 (run-starts holds t s (bytes_of a.tokens) e some each)
    run-missed (Backtracks b) a wide e (inr (same, (x, (c, (h, never))))) =
        let held = held-given is_slice holds 1 bytes have partial a c x wide h in
        let one = split-once holds (bytes x) (bytes_of c.tokens) t s held.1 held.2.0 each ends.0 (sym held.0 ∙ e) in
        never (subst fact (sym one.0) is)
    run-missed (Cuts b) a wide e h = held-fails is_slice holds 1 partial a (Cuts b) (omega arith) h
    run-missed (Needs n) a wide e h =
        let more = held-fails is_slice holds 1 partial a (Needs n) (omega arith) h in
        ended-not holds partial s ends more.0 (each-after holds t s (subst (Each holds) e more.1))
    run-missed Refuses a wide e h = held-fails is_slice holds 1 partial a Refuses (omega arith) h

-- the test holds of one byte more
pub each-grows : (test : ℕ → Bool) (xs : List ℕ) (b : ℕ) → Each test xs → test b ≡ true
    → Each test (xs ++ b ∷ [])
each-grows test [] b h e = (e, tt)
each-grows test (x ∷ xs) b h e = (h.0, each-grows test xs b h.1 e)
