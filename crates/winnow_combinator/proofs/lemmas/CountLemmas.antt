-- Counts below and up to the greatest.
use Rattle.std.specs.Prelude.{◌≡◌, ℕ, ◌+◌, ◌≤◌, Bool, Option, Some, None}
use Rattle.std.proofs.Common.{refl, ap, inl, inr, arith}
use Rattle.winnow_parser.specs.Outcome.{Ahead, Cuts, Outcome, Fails, Meaning}
use Rattle.winnow_combinator.specs.Counts.{IsBelow, IsUpTo, Ascends, Ascending}

-- no value is within each greatest count
pub IsUpTo-zero : (greatest : Option ℕ) → IsUpTo greatest 0
IsUpTo-zero None = tt
IsUpTo-zero (Some greatest) = omega arith

-- one more value than a number below the greatest count is within it
pub IsUpTo-more : (greatest : Option ℕ) (n : ℕ) → IsBelow greatest n → IsUpTo greatest (n + 1)
IsUpTo-more None n h = tt
IsUpTo-more (Some greatest) n h = omega (arith, h)

-- a number within the greatest count that is not below it is the greatest count
pub IsUpTo-full : (greatest : Option ℕ) (n : ℕ) → IsUpTo greatest n → ¬ (IsBelow greatest n)
    → greatest ≡ Some n
IsUpTo-full None n h none = absurd (none tt)
IsUpTo-full (Some greatest) n h none = ap Some (omega (arith, h, none))

-- the greatest count is at least the least, where some number is allowed
pub Ascends-full : (least : ℕ) (greatest : Option ℕ) (n : ℕ) → Ascends least greatest
    → greatest ≡ Some n → least ≤ n
Ascends-full least None n h full = cc
Ascends-full least (Some greatest) n h full = let same : greatest ≡ n = cc in omega (arith, h, same)

module _ {O T : Type 0} (least : ℕ) (inner : Meaning O T) (partial : Bool) (a : Ahead T) where
  -- where some number is allowed, `Ascending` is the inner parser
  pub Ascending-asks : (greatest : Option ℕ) (v : Outcome O T) → Ascends least greatest
      → inner partial a v → Ascending least greatest inner partial a v
  Ascending-asks None v h means = means
  Ascending-asks (Some greatest) v h means = inl (h, means)
