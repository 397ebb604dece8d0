-- A deterministic record is deterministic with a limit.
use Rattle.std.specs.Prelude.{Bool, cond, min, nat_lt}
use Rattle.std.proofs.Common.{◌≡◌, ℕ, ◌+◌, ◌-◌, ◌≤◌, ◌<◌, true, false, length, ap, sym, ◌∙◌, inl, inr, arith}
use Rattle.std.proofs.lemmas.Bool.Decides.{nat_tests}
use Rattle.winnow_stream.specs.Shortage.{needed}
use Rattle.winnow_parser.specs.Outcome.{Ahead, Failed, Backtracks, Cuts, Needs, Refuses, Gives, Fails, Meaning}
use Rattle.winnow_parser.specs.Determined.{IsGrantedFailure, IsDetermined}
use Rattle.winnow_reader.specs.Wanted.{size_of}
use Rattle.winnow_reader.specs.First.{first_ahead, left_ahead, goes_on}
use Rattle.winnow_reader_limit.specs.Within.{AnswersFirst, Within}

-- more is more
over-true : (g n : ℕ) → g < n → nat_lt g n ≡ true
over-true g n over = grind (arith, nat_tests)

-- and no more is not
within-false : (g n : ℕ) → n ≤ g → nat_lt g n ≡ false
within-false g n within = grind (arith, nat_tests)

module _ (greatest : ℕ) where
  -- the need that a need of the first tokens is, or the cut if the record is too long
  abbrev shown_need : Bool → Ahead ℕ → ℕ → Failed ℕ
  shown_need over a wanted = cond over (Cuts a) (Needs (needed (min wanted (greatest - length a.tokens + 1))))

  -- the failure that a failure of the first tokens is
  abbrev shown : Ahead ℕ → Failed ℕ → Failed ℕ
  shown a (Backtracks c) = Backtracks (left_ahead greatest a c)
  shown a (Cuts c) = Cuts (left_ahead greatest a c)
  shown a (Needs n) = shown_need (nat_lt greatest (length a.tokens)) a (size_of n)
  shown a Refuses = Refuses

module _ {O : Type 0} (greatest : ℕ) (inner : Meaning O ℕ) where
  -- a failure is one of the first tokens
  first_failure : (partial : Bool) (a : Ahead ℕ) (f : Failed ℕ) → IsGrantedFailure f
      → Within greatest inner partial a (Fails f)
      → (g : Failed ℕ) × (IsGrantedFailure g × (AnswersFirst greatest inner partial a (Fails g) × (f ≡ shown greatest a g)))
  first_failure partial a (Backtracks b) granted h =
      (Backtracks h.0, (tt, (h.1.0, ap Backtracks h.1.1)))
  first_failure partial a (Cuts b) granted (inl h) = (Cuts h.0, (tt, (h.1.0, ap Cuts h.1.1)))
  first_failure partial a (Cuts b) granted (inr h) =
      let wanted = h.0.1.0 in
      (Needs wanted, (tt, (h.0.1.1, ap Cuts h.1 ∙ sym (ap (λ d. shown_need greatest d a (size_of wanted)) (over-true greatest (length a.tokens) h.0.0)))))
  first_failure partial a (Needs n) granted h =
      let wanted = h.1.0 in
      (Needs wanted, (tt, (h.1.1.0, ap Needs h.1.1.1 ∙ sym (ap (λ d. shown_need greatest d a (size_of wanted)) (within-false greatest (length a.tokens) h.0)))))
  first_failure partial a Refuses granted h = absurd granted

  -- two answers agree where two answers of the first tokens do
  pub IsDetermined-Within : (same : O → O → Type 0) → IsDetermined same inner
      → IsDetermined same (Within greatest inner)
  IsDetermined-Within same d partial a (Gives x b) (Gives y c) v w h k =
      let told = goes_on greatest partial a in
      let both = d told (first_ahead greatest a) (Gives x h.0) (Gives y k.0) tt tt h.1.0 k.1.0 in
      (both.0, h.1.1 ∙ ap (left_ahead greatest a) both.1 ∙ sym k.1.1)
  IsDetermined-Within same d partial a (Gives x b) (Fails g) v w h k =
      let told = goes_on greatest partial a in
      let t = first_failure partial a g w k in
      d told (first_ahead greatest a) (Gives x h.0) (Fails t.0) tt t.1.0 h.1.0 t.1.1.0
  IsDetermined-Within same d partial a (Fails f) (Gives y c) v w h k =
      let told = goes_on greatest partial a in
      let t = first_failure partial a f v h in
      d told (first_ahead greatest a) (Fails t.0) (Gives y k.0) t.1.0 tt t.1.1.0 k.1.0
  IsDetermined-Within same d partial a (Fails f) (Fails g) v w h k =
      let told = goes_on greatest partial a in
      let t = first_failure partial a f v h in
      let u = first_failure partial a g w k in
      t.1.1.1 ∙ ap (shown greatest a) (d told (first_ahead greatest a) (Fails t.0) (Fails u.0) t.1.0 u.1.0 t.1.1.0 u.1.1.0) ∙ sym u.1.1.1
