-- Parsers of tokens have one answer.
use Rattle.std.proofs.Common.{◌≡◌, ℕ, ◌≤◌, Bool, true, false, cond, length, take, Option, Some, None, inl, inr, refl, ap, sym, ◌∙◌, arith, length-take}
use Rattle.std.specs.Prelude.{◌≢◌, nat_le, ◌&&◌, ◌-◌, [], ◌∷◌, IfSome}
use Rattle.std.proofs.lemmas.Option.{same_Some}
use Rattle.std.specs.declared.ops.Range.{Range}
use Rattle.std.proofs.lemmas.Bool.Decides.{nat_tests}
use Rattle.winnow_stream.specs.Source.{Source, width, first_token, held_front}
use Rattle.winnow_stream.specs.Shortage.{needed, shortage}
use Rattle.winnow_stream.specs.declared.needed.Needed.TheVariants.{Unknown}
use Rattle.winnow_match.specs.declared.compare.CompareResult.{CompareResult}
use Rattle.winnow_match.specs.declared.compare.CompareResult.TheVariants as compared
use Rattle.winnow_count.specs.CountRange.{is_up_to}
use Rattle.winnow_parser.specs.Outcome.{Ahead, Backtracks, Cuts, Needs, Refuses, Outcome, Gives, Fails, after}
use Rattle.winnow_parser.specs.Determined.{IsGranted, IsDetermined, SlicesRespect}
use Rattle.winnow_parser.proofs.lemmas.ToldLemmas.{Told, IsTold, determined-told}
use Rattle.winnow_token.specs.OneOf.{IsOneOf, after_one}
use Rattle.winnow_token.specs.Take.{Takes}
use Rattle.winnow_token.specs.TakeWhile.{TakesWhile, held_within, may_grow, is_offset-within}
use Rattle.winnow_parser.specs.Literal.{IsLiteral}
use Rattle.winnow_token.specs.TakeUntil.{TakesUntil, has_counts}

-- ---- Counts

-- where a front within the greatest count has the least count, the least is at most the greatest
up-within : {T : Type 0} (holds : T → Bool) (least : ℕ) (greatest : Option ℕ) (r : Source T)
    → least ≤ length (held_within greatest holds r) → is_up_to greatest least ≡ true
up-within holds least None r h = refl
up-within holds least (Some n) r h = grind (arith, nat_tests, h, length-take n (held_front holds r))

-- where a number is within the counts, the least is at most the greatest
counts-up : (least : ℕ) (greatest : Option ℕ) (n : ℕ)
    → (nat_le least n && is_up_to greatest n) ≡ true → is_up_to greatest least ≡ true
counts-up least None n h = refl
counts-up least (Some m) n h = grind (arith, nat_tests, h)

-- ---- One token

module _ {T : Type 0} (holds : T → Bool) where
  -- the outcome of `IsOneOf`, computed
  abbrev one_told : Option T → Bool → Ahead T → Told T
  one_told (Some x) partial a = cond (holds x) (inr (after_one a)) (inl (Backtracks a))
  one_told None partial a = cond partial (inl (Needs (needed 1))) (inl (Backtracks a))

  -- where the first token is not held, or the input ends, the computed outcome is a backtrack
  one-none : (r : Source T) (partial : Bool) (a : Ahead T)
      → IfSome (first_token r) (λ x. holds x ≡ false) → (partial ≡ true → r ≢ [])
      → one_told (first_token r) partial a ≡ inl (Backtracks a)
  one-none [] true a h n = absurd (n refl refl)
  one-none [] false a h n = refl
  one-none (x ∷ xs) partial a h n = rw h refl

  -- each answer of `IsOneOf` is the computed one
  one-tells : (partial : Bool) (a : Ahead T) (v : Outcome T T) → IsGranted v
      → IsOneOf holds partial a v → IsTold (one_told (first_token a.tokens) partial a) v
  one-tells partial a (Gives x b) s h = rw h.0 (rw h.1 (ap inr (sym h.2)))
  one-tells partial a (Fails (Backtracks b)) s h = one-none a.tokens partial a h.0 h.1 ∙ ap (λ p. inl (Backtracks p)) (sym h.2)
  one-tells partial a (Fails (Cuts b)) s h = absurd h
  one-tells partial a (Fails (Needs n)) s h = ap (λ r. one_told (first_token r) partial a) h.0 ∙ rw h.1 (ap (λ m. inl (Needs m)) (sym h.2))
  one-tells partial a (Fails Refuses) s h = absurd s

  -- `IsOneOf` has one answer
  pub determined-one_of : IsDetermined ◌≡◌ (IsOneOf holds)
  determined-one_of =
      determined-told ◌≡◌ (IsOneOf holds) (λ partial a. one_told (first_token a.tokens) partial a) one-tells (λ partial a b x y h k. same_Some _ _ (sym h.0 ∙ k.0))

-- ---- Slices

module _ {S T : Type 0} (is_slice : S → Source T → ℕ → Type 0) (alike : S → S → Type 0) (fronts : SlicesRespect is_slice alike) where
  -- parsers of n tokens
  module _ (counts_shortage : Bool) (n : ℕ) where
    -- the outcome of `Takes`, computed
    abbrev counted_told : Bool → Ahead T → Told T
    counted_told partial a = cond (nat_le n (length a.tokens)) (inr (after a (width (take n a.tokens))))
        (cond partial (inl (Needs (shortage counts_shortage (n - length a.tokens)))) (inl (Backtracks a)))

    -- each answer of `Takes` is the computed one
    counted-tells : (partial : Bool) (a : Ahead T) (v : Outcome S T) → IsGranted v
        → Takes counts_shortage is_slice n partial a v → IsTold (counted_told partial a) v
    counted-tells partial a (Gives x b) s h = let e : nat_le n (length a.tokens) ≡ true = grind (arith, nat_tests, h.0) in rw e (ap inr (sym h.3))
    counted-tells partial a (Fails (Backtracks b)) s h =
        let e : nat_le n (length a.tokens) ≡ false = grind (arith, nat_tests, h.0) in rw e (rw h.1 (ap (λ p. inl (Backtracks p)) (sym h.2)))
    counted-tells partial a (Fails (Cuts b)) s h = absurd h
    counted-tells partial a (Fails (Needs m)) s h =
        let e : nat_le n (length a.tokens) ≡ false = grind (arith, nat_tests, h.0) in rw e (rw h.1 (ap (λ k. inl (Needs k)) (sym h.2)))
    counted-tells partial a (Fails Refuses) s h = absurd s

    -- `Takes` has one answer where slices of one front are the same
    pub determined-take : IsDetermined alike (Takes counts_shortage is_slice n)
    determined-take =
        determined-told alike (Takes counts_shortage is_slice n) counted_told counted-tells
        (λ partial a b x y h k. fronts x y a b (_, (h.1, h.2, sym h.3)) (_, (k.1, k.2, sym k.3)))

  -- parsers of the tokens that a set holds
  module _ (holds : T → Bool) (least : ℕ) (greatest : Option ℕ) where
    -- the outcome of `TakesWhile`, computed
    abbrev held_told : Bool → Ahead T → Told T
    held_told partial a = let held = held_within greatest holds a.tokens in
        cond (is_up_to greatest least) (cond (partial && may_grow greatest held a.tokens) (inl (Needs (needed 1)))
        (cond (nat_le least (length held)) (inr (after a (width held))) (inl (Backtracks a)))) (inl (Cuts a))

    -- each answer of `TakesWhile` is the computed one
    held-tells : (partial : Bool) (a : Ahead T) (v : Outcome S T) → IsGranted v
        → TakesWhile is_slice holds least greatest partial a v → IsTold (held_told partial a) v
    held-tells partial a (Gives x b) s h =
        let held = held_within greatest holds a.tokens in
        let e : nat_le least (length held) ≡ true = grind (arith, nat_tests, h.2) in
        rw (up-within holds least greatest a.tokens h.2) (rw h.3 (rw e (ap inr (sym h.1))))
    held-tells partial a (Fails (Backtracks b)) s h =
        let e : nat_le least (length (held_within greatest holds a.tokens)) ≡ false = grind (arith, nat_tests, h.1) in
        rw h.2 (rw h.3 (rw e (ap (λ p. inl (Backtracks p)) (sym h.0))))
    held-tells partial a (Fails (Cuts b)) s h = rw h.1 (ap (λ p. inl (Cuts p)) (sym h.0))
    held-tells partial a (Fails (Needs m)) s h = rw h.1 (rw h.2 (ap (λ k. inl (Needs k)) (sym h.0)))
    held-tells partial a (Fails Refuses) s h = absurd s

    -- `TakesWhile` has one answer where slices of one front are the same
    pub determined-take_while : IsDetermined alike (TakesWhile is_slice holds least greatest)
    determined-take_while =
        determined-told alike (TakesWhile is_slice holds least greatest) held_told held-tells
        (λ partial a b x y h k. let offset = is_offset-within holds greatest a.tokens in fronts x y a b (_, (offset, h.0, sym h.1)) (_, (offset, k.0, sym k.1)))

  -- parsers of a literal
  module _ (compare : Source T → CompareResult) where
    -- the outcome of `IsLiteral`, computed
    abbrev literal_told : CompareResult → Bool → Ahead T → Told T
    literal_told (compared.Ok n) partial a = inr (after a n)
    literal_told compared.Error partial a = inl (Backtracks a)
    literal_told compared.Incomplete partial a = cond partial (inl (Needs Unknown)) (inl (Backtracks a))

    -- each answer of `IsLiteral` is the computed one
    literal-tells : (partial : Bool) (a : Ahead T) (v : Outcome S T) → IsGranted v
        → IsLiteral is_slice compare partial a v
        → IsTold (literal_told (compare a.tokens) partial a) v
    literal-tells partial a (Gives x b) s h = rw h.1.0 (ap inr (sym h.1.3))
    literal-tells partial a (Fails (Backtracks b)) s (e, inl h) = rw h (ap (λ p. inl (Backtracks p)) (sym e))
    literal-tells partial a (Fails (Backtracks b)) s (e, inr h) = rw h.0 (rw h.1 (ap (λ p. inl (Backtracks p)) (sym e)))
    literal-tells partial a (Fails (Cuts b)) s h = absurd h
    literal-tells partial a (Fails (Needs n)) s h = rw h.1 (rw h.0 (ap (λ k. inl (Needs k)) (sym h.2)))
    literal-tells partial a (Fails Refuses) s h = absurd s

    -- `IsLiteral` has one answer where slices of one front are the same
    pub determined-literal : IsDetermined alike (IsLiteral is_slice compare)
    determined-literal =
        determined-told alike (IsLiteral is_slice compare) (λ partial a. literal_told (compare a.tokens) partial a) literal-tells
        (λ partial a b x y h k. fronts x y a b (h.0, (h.1.1, h.1.2, sym h.1.3)) (k.0, (k.1.1, k.1.2, sym k.1.3)))

  -- parsers of the tokens before a literal
  module _ (find : Source T → Option (Range ℕ)) (least : ℕ) (greatest : Option ℕ) where
    -- the outcome for a hit or none, computed
    abbrev hit_told : Option (Range ℕ) → Bool → Ahead T → Told T
    hit_told None partial a = cond partial (inl (Needs Unknown)) (inl (Backtracks a))
    hit_told (Some hit) partial a = cond (has_counts least greatest a.tokens hit.start) (inr (after a hit.start)) (inl (Backtracks a))

    -- the outcome of `TakesUntil`, computed
    abbrev until_told : Bool → Ahead T → Told T
    until_told partial a = cond (is_up_to greatest least) (hit_told (find a.tokens) partial a) (inl (Cuts a))

    -- each answer of `TakesUntil` is the computed one
    until-tells : (partial : Bool) (a : Ahead T) (v : Outcome S T) → IsGranted v
        → TakesUntil is_slice find least greatest partial a v → IsTold (until_told partial a) v
    until-tells partial a (Gives x b) s (stays, (hit, (at, h))) =
        rw (counts-up least greatest _ h.2) (rw at.0 (rw h.2 (ap inr (sym h.1))))
    until-tells partial a (Fails (Backtracks b)) s (stays, (e, up, inl h)) = rw up (rw h.0 (rw h.1 (ap (λ p. inl (Backtracks p)) (sym e))))
    until-tells partial a (Fails (Backtracks b)) s (stays, (e, up, inr (hit, (at, few)))) =
        rw up (rw at.0 (rw few (ap (λ p. inl (Backtracks p)) (sym e))))
    until-tells partial a (Fails (Cuts b)) s (stays, h) = rw h.1 (ap (λ p. inl (Cuts p)) (sym h.0))
    until-tells partial a (Fails (Needs n)) s (stays, h) = rw h.2 (rw h.1 (rw h.0 (ap (λ k. inl (Needs k)) (sym h.3))))
    until-tells partial a (Fails Refuses) s h = absurd s

    -- `TakesUntil` has one answer where slices of one front are the same
    pub determined-take_until : IsDetermined alike (TakesUntil is_slice find least greatest)
    determined-take_until =
        determined-told alike (TakesUntil is_slice find least greatest) until_told until-tells
        (λ partial a b x y h k. fronts x y a b (h.1.0.start, (h.1.1.0.1, h.1.1.1.0, sym h.1.1.1.1)) (k.1.0.start, (k.1.1.0.1, k.1.1.1.0, sym k.1.1.1.1)))
