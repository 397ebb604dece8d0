-- A record with a limit keeps the laws of a parser.
use Rattle.std.specs.Prelude.{Bool, true, false, ◌||◌, nat_lt}
use Rattle.std.proofs.Common.{◌≡◌, ℕ, ◌+◌, ◌-◌, ◌<◌, ◌≤◌, [], ◌++◌, length, take, drop, refl, ap, sym, ◌∙◌, subst, inl, inr, arith, append_assoc, length-append}
use Rattle.std.proofs.Math.Seq.{take-append-add, drop-append-add}
use Rattle.std.proofs.lemmas.Bool.{cases_lt}
use Rattle.std.proofs.lemmas.Bool.Decides.{nat_tests}
use Rattle.std.proofs.lemmas.List.{append-nil, take_all, drop_all, take-append-le, drop-append-le, take-append-drop}
use Rattle.winnow_stream.specs.Source.{Source}
use Rattle.winnow_parser.specs.Outcome.{Ahead, Backtracks, Cuts, Needs, Refuses, Outcome, Gives, Fails, Meaning, Moves}
use Rattle.winnow_parser.specs.Laws.{longer, outcome_longer, IsSettled, IsStable, IsFinal, IsOnward, IsParser}
use Rattle.winnow_parser.specs.Parts.{Moves-still}
use Rattle.winnow_reader.specs.First.{first_ahead, left_ahead, goes_on}
use Rattle.winnow_reader_limit.specs.Within.{AnswersFirst, IsTooLong, Within}

-- ---- The first tokens, once more has come

module _ (greatest : ℕ) (xs more : Source ℕ) where
  -- the tokens that come to the first ones
  abbrev came : Source ℕ
  came = take (greatest - length xs) more

  -- none come if there are as many as may be
  none-came : greatest ≤ length xs → came ≡ []
  none-came full =
      let none : greatest - length xs ≡ 0 = omega (arith, full) in
      ap (λ n. take n more) none

  -- the first tokens are longer by those that came
  take-longer : take greatest (xs ++ more) ≡ take greatest xs ++ came
  take-longer = elim (cases_lt (length xs) greatest) [
    | inl short ↦
        let n : greatest ≡ length xs + (greatest - length xs) = omega (arith, short) in
        ap (λ k. take k (xs ++ more)) n ∙ take-append-add xs more (greatest - length xs)
        ∙ ap (λ l. l ++ came) (sym (take_all greatest xs (omega (arith, short))))
    | inr full ↦
        take-append-le greatest xs more full ∙ sym (append-nil (take greatest xs))
        ∙ ap (λ l. take greatest xs ++ l) (sym (none-came full))
  ]

  -- those after them are the others
  rest-longer : came ++ drop greatest (xs ++ more) ≡ drop greatest xs ++ more
  rest-longer = elim (cases_lt (length xs) greatest) [
    | inl short ↦
        let n : greatest ≡ length xs + (greatest - length xs) = omega (arith, short) in
        let rest = ap (λ k. drop k (xs ++ more)) n ∙ drop-append-add xs more (greatest - length xs) in
        ap (λ l. came ++ l) rest ∙ take-append-drop (greatest - length xs) more
        ∙ ap (λ l. l ++ more) (sym (drop_all greatest xs (omega (arith, short))))
    | inr full ↦
        ap (λ l. l ++ drop greatest (xs ++ more)) (none-came full) ∙ drop-append-le greatest xs more full
  ]

module _ (greatest : ℕ) (a : Ahead ℕ) (more : Source ℕ) where
  -- the first tokens ahead are longer by those that came
  first-longer : first_ahead greatest (longer more a)
      ≡ longer (came greatest a.tokens more) (first_ahead greatest a)
  first-longer = ap (λ r. record { location = a.location; tokens = r }) (take-longer greatest a.tokens more)

  -- what is left of them is left of all
  left-longer : (c : Ahead ℕ)
      → left_ahead greatest (longer more a) (longer (came greatest a.tokens more) c)
      ≡ longer more (left_ahead greatest a c)
  left-longer c =
      ap (λ r. record { location = c.location; tokens = r })
      (append_assoc c.tokens (came greatest a.tokens more) (drop greatest (a.tokens ++ more))
      ∙ ap (λ l. c.tokens ++ l) (rest-longer greatest a.tokens more)
      ∙ sym (append_assoc c.tokens (drop greatest a.tokens) more))

  -- the first tokens stay if there are as many as may be
  first-full : greatest ≤ length a.tokens
      → first_ahead greatest (longer more a) ≡ first_ahead greatest a
  first-full full =
      ap (λ r. record { location = a.location; tokens = r }) (take-append-le greatest a.tokens more full)

-- ---- What is told

-- if more tokens are ahead, more may follow
pub goes_on-over : (greatest n : ℕ) (partial : Bool) → greatest < n
    → (partial || nat_lt greatest n) ≡ true
goes_on-over greatest n true over = refl
goes_on-over greatest n false over = grind (arith, nat_tests)

-- if no more are ahead, more may follow if it may
pub goes_on-within : (greatest n : ℕ) (partial : Bool) → n ≤ greatest
    → (partial || nat_lt greatest n) ≡ partial
goes_on-within greatest n true within = refl
goes_on-within greatest n false within = grind (arith, nat_tests)

-- ---- The laws

module _ {O : Type 0} (greatest : ℕ) (inner : Meaning O ℕ) (p : IsParser inner) where
  -- a settled answer of the first tokens is one of the longer ones
  answers-longer : (more : Source ℕ) (partial : Bool) (a : Ahead ℕ) (v : Outcome O ℕ) → IsSettled v
      → AnswersFirst greatest inner true a v
      → AnswersFirst greatest inner partial (longer more a) (outcome_longer (came greatest a.tokens more) v)
  answers-longer more partial a v s h =
      let told = goes_on greatest partial (longer more a) in
      subst (λ b. inner told b (outcome_longer (came greatest a.tokens more) v)) (sym (first-longer greatest a more))
      (p.stable (came greatest a.tokens more) told (first_ahead greatest a) v s h)

  -- a record that is too long is too long if more follows
  too-long-longer : (more : Source ℕ) (partial : Bool) (a : Ahead ℕ)
      → IsTooLong greatest inner true a → IsTooLong greatest inner partial (longer more a)
  too-long-longer more partial a h =
      let v : Outcome O ℕ = Fails (Needs h.1.0) in
      let over : greatest < length (a.tokens ++ more) = omega (arith, h.0, length-append a.tokens more) in
      let told = goes_on-over greatest (length (a.tokens ++ more)) partial over in
      let same = subst (λ b. inner true b v) (sym (first-full greatest a more (omega (arith, h.0)))) h.1.1 in
      (over, (h.1.0, subst (λ q. inner q (first_ahead greatest (longer more a)) v) (sym told) same))

  -- a settled answer of `Within` stays when more input follows
  within-stable : IsStable (Within greatest inner)
  within-stable more partial a (Gives x b) s h =
      (longer (came greatest a.tokens more) h.0, (answers-longer more partial a (Gives x h.0) tt h.1.0, ap (longer more) h.1.1 ∙ sym (left-longer greatest a more h.0)))
  within-stable more partial a (Fails (Backtracks b)) s h =
      (longer (came greatest a.tokens more) h.0, (answers-longer more partial a (Fails (Backtracks h.0)) tt h.1.0, ap (longer more) h.1.1 ∙ sym (left-longer greatest a more h.0)))
  within-stable more partial a (Fails (Cuts b)) s (inl h) =
      inl (longer (came greatest a.tokens more) h.0, (answers-longer more partial a (Fails (Cuts h.0)) tt h.1.0, ap (longer more) h.1.1 ∙ sym (left-longer greatest a more h.0)))
  within-stable more partial a (Fails (Cuts b)) s (inr h) =
      inr (too-long-longer more partial a h.0, ap (longer more) h.1)
  within-stable more partial a (Fails (Needs n)) s h = absurd s
  within-stable more partial a (Fails Refuses) s h = absurd s

  -- `Within` needs nothing more where nothing more may follow
  within-final : IsFinal (Within greatest inner)
  within-final a n h =
      let told = goes_on-within greatest (length a.tokens) false h.0 in
      p.final (first_ahead greatest a) h.1.0 (subst (λ q. inner q (first_ahead greatest a) (Fails (Needs h.1.0))) told h.1.1.0)

  -- what moves on over the first tokens moves on over all
  moves-left : (a c : Ahead ℕ) → Moves (first_ahead greatest a) c
      → Moves a (left_ahead greatest a c)
  moves-left a c m = record {
    taken = m.taken;
    whole = sym (take-append-drop greatest a.tokens) ∙ ap (λ l. l ++ drop greatest a.tokens) m.whole
        ∙ append_assoc m.taken c.tokens (drop greatest a.tokens);
    place = m.place;
  }

  -- `Within` only moves the stream on
  within-onward : IsOnward (Within greatest inner)
  within-onward partial a (Gives x b) h =
      subst (Moves a) (sym h.1.1) (moves-left a h.0 (p.onward (goes_on greatest partial a) (first_ahead greatest a) (Gives x h.0) h.1.0))
  within-onward partial a (Fails (Backtracks b)) h =
      subst (Moves a) (sym h.1.1) (moves-left a h.0 (p.onward (goes_on greatest partial a) (first_ahead greatest a) (Fails (Backtracks h.0)) h.1.0))
  within-onward partial a (Fails (Cuts b)) (inl h) =
      subst (Moves a) (sym h.1.1) (moves-left a h.0 (p.onward (goes_on greatest partial a) (first_ahead greatest a) (Fails (Cuts h.0)) h.1.0))
  within-onward partial a (Fails (Cuts b)) (inr h) = Moves-still a b (sym h.1)
  within-onward partial a (Fails (Needs n)) h = tt
  within-onward partial a (Fails Refuses) h = tt

  -- `Within` keeps the laws of a parser
  pub IsParser-Within : IsParser (Within greatest inner)
  IsParser-Within = record { stable = within-stable; final = within-final; onward = within-onward }
