-- Steps of reading values with separators between them.
use Rattle.std.specs.Prelude.{ℕ, ◌-◌, ◌≤◌, zero, suc, Bool, List, [], ◌∷◌, Option, Some, None}
use Rattle.std.specs.List.{FoldsTo}
use Rattle.std.proofs.Common.{refl, inl, inr, arith}
use Rattle.winnow_parser.specs.Outcome.{Ahead, Failed, Backtracks, Cuts, Needs, Refuses, Outcome, Gives, Fails, Meaning}
use Rattle.winnow_parser.specs.Meanings.{Pair, IsPreceded}
use Rattle.winnow_combinator.specs.Counts.{IsBelow, fewer}
use Rattle.winnow_combinator.specs.Repeat.{Repeats, FailsWith}
use Rattle.winnow_combinator.specs.Gathering.{Gathered}
use Rattle.winnow_combinator.specs.Separated.{Chained, IfNeeded, IsSeparated, Countable, IsSeparatedFoldl1}

module _ {O S A T : Type 0} (refusable : Type 0) (makes : List O → A → Type 0) (greatest : Option ℕ) (separator : Meaning S T) (inner : Meaning O T) (partial : Bool) (a : Ahead T) where
  -- a first value and then the others are the whole list
  pub IfNeeded-first : (least : ℕ) (first : O) (b : Ahead T) (v : Outcome A T)
      → inner partial a (Gives first b)
      → Gathered refusable (λ xs whole. makes (first
      ∷ xs) whole) (Repeats (least - 1) (fewer greatest) (IsPreceded separator inner)) partial b v
      → Gathered refusable makes (IfNeeded least (Chained least greatest separator inner))
      partial a v
  IfNeeded-first zero first b (Gives whole c) means h =
      let xs = first ∷ h.0 in (xs, (h.1.0, (Some xs, (refl, ((first, h.0), (refl, (b, (means, h.1.1))))))))
  IfNeeded-first zero first b (Fails (Backtracks c)) means h = absurd (omega (arith, h.1.1.2.0))
  IfNeeded-first zero first b (Fails (Cuts c)) means h = inr (first, (b, (means, h)))
  IfNeeded-first zero first b (Fails (Needs n)) means h = inr (first, (b, (means, h)))
  IfNeeded-first zero first b (Fails Refuses) means (inl r) = inl r
  IfNeeded-first zero first b (Fails Refuses) means (inr h) = inr (inr (first, (b, (means, h))))
  IfNeeded-first (suc n) first b (Gives whole c) means h =
      (first ∷ h.0, (h.1.0, ((first, h.0), (refl, (b, (means, h.1.1))))))
  IfNeeded-first (suc n) first b (Fails (Backtracks c)) means h = inr (first, (b, (means, h)))
  IfNeeded-first (suc n) first b (Fails (Cuts c)) means h = inr (first, (b, (means, h)))
  IfNeeded-first (suc n) first b (Fails (Needs m)) means h = inr (first, (b, (means, h)))
  IfNeeded-first (suc n) first b (Fails Refuses) means (inl r) = inl r
  IfNeeded-first (suc n) first b (Fails Refuses) means (inr h) = inr (inr (first, (b, (means, h))))

  -- a failure of the first value is one of the whole list
  pub IfNeeded-fails : (least : ℕ) (f : Failed T) → FailsWith least 0 f → inner partial a (Fails f)
      → IfNeeded least (Chained least greatest separator inner) partial a (Fails f)
  IfNeeded-fails zero (Backtracks b) few means = absurd (omega (arith, few))
  IfNeeded-fails zero (Cuts b) few means = inl means
  IfNeeded-fails zero (Needs n) few means = inl means
  IfNeeded-fails zero Refuses few means = inl means
  IfNeeded-fails (suc m) f few means = inl means

module _ {O S A T : Type 0} (refusable : Type 0) (makes : List O → A → Type 0) (least : ℕ) (separator : Meaning S T) (inner : Meaning O T) (partial : Bool) (a : Ahead T) where
  -- where a value is allowed, `IsSeparated` asks for one
  pub IsSeparated-asks : (greatest : Option ℕ) (v : Outcome A T) → IsBelow greatest 0
      → Gathered refusable makes (IfNeeded least (Chained least greatest separator inner))
      partial a v → Gathered refusable makes (IsSeparated least greatest separator inner) partial a v
  IsSeparated-asks None v below h = h
  IsSeparated-asks (Some zero) v below h = absurd (omega (arith, below))
  IsSeparated-asks (Some (suc n)) v below h = h

module _ {O S T : Type 0} (step : O → S × O → O → Type 0) (separator : Meaning S T) (inner : Meaning O T) (partial : Bool) (a : Ahead T) where
  -- a first value and then the folded pairs are the whole
  pub IsSeparatedFoldl1-first : (first : O) (b : Ahead T) (v : Outcome O T)
      → inner partial a (Gives first b)
      → Gathered ⊥ (FoldsTo step first) (Repeats 0 None (Pair separator inner)) partial b v
      → IsSeparatedFoldl1 step separator inner partial a v
  IsSeparatedFoldl1-first first b (Gives y c) means h = ((first, h.0), (h.1.0, (b, (means, h.1.1))))
  IsSeparatedFoldl1-first first b (Fails (Backtracks c)) means h = inr (first, (b, (means, h)))
  IsSeparatedFoldl1-first first b (Fails (Cuts c)) means h = inr (first, (b, (means, h)))
  IsSeparatedFoldl1-first first b (Fails (Needs n)) means h = inr (first, (b, (means, h)))
  IsSeparatedFoldl1-first first b (Fails Refuses) means (inl r) = absurd r
  IsSeparatedFoldl1-first first b (Fails Refuses) means (inr h) = inr (first, (b, (means, h)))

-- an answer of the inner parser is one of `Countable`
pub Countable-passes : {O T : Type 0} (inner : Meaning O T) (partial : Bool) (a : Ahead T)
    (v : Outcome O T) → inner partial a v → Countable inner partial a v
Countable-passes inner partial a (Gives x b) h = h
Countable-passes inner partial a (Fails (Backtracks b)) h = h
Countable-passes inner partial a (Fails (Cuts b)) h = h
Countable-passes inner partial a (Fails (Needs n)) h = h
Countable-passes inner partial a (Fails Refuses) h = inr h
