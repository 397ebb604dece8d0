-- The numbers of values that are wanted: from a least count, up to a greatest, if there is one.
use Rattle.std.specs.Prelude.{◌≡◌, ℕ, ◌-◌, ◌<◌, ◌≤◌, Option, Some, None, option_map, ◌⊎◌, ⊤}
use Rattle.std.proofs.Common.{refl, ap, sym, subst, inl, inr}
use Rattle.winnow_parser.specs.Outcome.{Cuts, Fails, Meaning}
use Rattle.winnow_parser.specs.Laws.{outcome_longer, IsStable, IsFinal, LeavesAfter, IsOnward, IsParser}
use Rattle.winnow_parser.specs.Parts.{Moves-still}

-- n is below the greatest count, if there is one
abbrev pub IsBelow : Option ℕ → ℕ → Type 0
IsBelow None n = ⊤
IsBelow (Some greatest) n = n < greatest

-- n is at most the greatest count, if there is one
abbrev pub IsUpTo : Option ℕ → ℕ → Type 0
IsUpTo None n = ⊤
IsUpTo (Some greatest) n = n ≤ greatest

-- some number of values is allowed
abbrev pub Ascends : ℕ → Option ℕ → Type 0
Ascends least None = ⊤
Ascends least (Some greatest) = least ≤ greatest

-- the greatest count for the values after the first
abbrev pub fewer : Option ℕ → Option ℕ
fewer greatest = option_map (λ n. n - 1) greatest

-- the inner parser; where the greatest count is below the least, no number is allowed, and the
-- parser cuts at once
abbrev pub Ascending : {O T : Type 0} → ℕ → Option ℕ → Meaning O T → Meaning O T
Ascending least None inner partial a v = inner partial a v
Ascending least (Some greatest) inner partial a v =
    ((least ≤ greatest) × inner partial a v) ⊎ ((greatest < least) × (v ≡ Fails (Cuts a)))

module _ {O T : Type 0} (least greatest : ℕ) {inner : Meaning O T} (p : IsParser inner) where
  -- a settled answer of `Ascending` stays when more input follows
  ascending-stable : IsStable (Ascending least (Some greatest) inner)
  ascending-stable more partial a v s (inl h) = inl (h.0, p.stable more partial a v s h.1)
  ascending-stable more partial a v s (inr h) = inr (h.0, ap (outcome_longer more) h.1)

  -- `Ascending` needs nothing more where nothing more may follow
  ascending-final : IsFinal (Ascending least (Some greatest) inner)
  ascending-final a n (inl h) = p.final a n h.1
  ascending-final a n (inr h) = cc

  -- `Ascending` only moves the stream on
  ascending-onward : IsOnward (Ascending least (Some greatest) inner)
  ascending-onward partial a v (inl h) = p.onward partial a v h.1
  ascending-onward partial a v (inr h) = subst (LeavesAfter a) (sym h.1) (Moves-still a a refl)

  -- `Ascending` keeps the laws of a parser
  ascending-some : IsParser (Ascending least (Some greatest) inner)
  ascending-some = record { stable = ascending-stable; final = ascending-final; onward = ascending-onward }

-- `Ascending` keeps the laws of a parser, with a greatest count or without
pub IsParser-Ascending : {O T : Type 0} (least : ℕ) (greatest : Option ℕ) {inner : Meaning O T}
    → IsParser inner → IsParser (Ascending least greatest inner)
IsParser-Ascending least None p = p
IsParser-Ascending least (Some greatest) p = ascending-some least greatest p
