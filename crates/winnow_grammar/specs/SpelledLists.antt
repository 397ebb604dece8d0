-- Values with separators between them are spelled by their tokens in turn.
use Rattle.std.specs.Prelude.{◌≡◌, ℕ, zero, suc, ◌+◌, ◌-◌, ◌≤◌, ◌<◌, Bool, true, false, List, [], ◌∷◌, length, Option, Some, None, ⊤}
use Rattle.std.proofs.Common.{refl, ap, sym, subst, inl, inr, arith}
use Rattle.winnow_parser.specs.Outcome.{Meaning}
use Rattle.winnow_parser.specs.Meanings.{IsOpt, IsPreceded}
use Rattle.winnow_combinator.specs.Appended.{AppendingIf}
use Rattle.winnow_combinator.specs.Counts.{Ascends, IsUpTo, fewer, Ascending}
use Rattle.winnow_combinator.specs.Gathering.{Gathered}
use Rattle.winnow_combinator.specs.Repeat.{Repeats}
use Rattle.winnow_combinator.specs.Separated.{Chained, IfNeeded, IsSeparated, Countable}
use Rattle.winnow_grammar.specs.Spelling.{Spelling, IsSpelled}
use Rattle.winnow_grammar.specs.Spellings.{Then, After, InRow, Such, HasLength, Several, Listed, ListOf}
use Rattle.winnow_grammar.specs.Spelled.{takes-none, takes-on, spelled-Then, spelled-After, spelled-Repeats, spelled-Gathered}

-- a value is allowed
IsPositive : Option ℕ → Type 0
IsPositive None = ⊤
IsPositive (Some zero) = ⊥
IsPositive (Some (suc n)) = ⊤

-- one more value than the others
one-more : (greatest : Option ℕ) (n : ℕ) → IsPositive greatest → IsUpTo (fewer greatest) n
    → IsUpTo greatest (n + 1)
unfolding IsPositive
one-more None n p h = tt
one-more (Some zero) n p h = absurd p
one-more (Some (suc m)) n p h = omega (arith, h)

-- no value is not too many
none-up_to : (greatest : Option ℕ) → IsUpTo greatest 0
none-up_to None = tt
none-up_to (Some n) = omega arith

module _ {O S T : Type 0} (s : Spelling S T) (p : Spelling O T) (separator : Meaning S T) (inner : Meaning O T) (sep : IsSpelled s separator) (one : IsSpelled p inner) where
  -- a value, and then others after separators
  spelled-Chained : (least : ℕ) (greatest : Option ℕ) → IsPositive greatest
      → IsSpelled (Such (HasLength least greatest) (Listed s p)) (Chained least greatest separator inner)
  spelled-Chained least greatest positive partial a b ys wide (both, (same, h)) =
      let others = Several (least - 1) (fewer greatest) (After s p) in
      let rest = Repeats (least - 1) (fewer greatest) (IsPreceded separator inner) in
      let L : Spelling (List O) T = Such (HasLength least greatest) (Listed s p) in
      takes-on (Then p others) L both ys a b
      (λ ts (front, (back, (whole, first, ((enough, most), more)))). subst (λ zs. L zs ts) same (
        (omega (arith, enough), subst (IsUpTo greatest) (omega arith) (one-more greatest (length both.1) positive most)),
        (front, (back, (whole, first, more))),
      ))
      (spelled-Then p others inner rest one (spelled-Repeats (After s p) (IsPreceded separator inner) (spelled-After s p separator inner sep one) (least - 1) (fewer greatest)) partial a b both wide h)

  -- the same, where there may be no value
  spelled-IfNeeded : (least : ℕ) (greatest : Option ℕ) → IsPositive greatest
      → IsSpelled (Such (HasLength least greatest) (Listed s p)) (IfNeeded least (Chained least greatest separator inner))
  spelled-IfNeeded zero greatest positive partial a b xs wide (Some ys, (same, h)) =
      let L : Spelling (List O) T = Such (HasLength 0 greatest) (Listed s p) in
      takes-on L L ys xs a b (λ ts k. subst (λ zs. L zs ts) same k) (spelled-Chained zero greatest positive partial a b ys wide h)
  spelled-IfNeeded zero greatest positive partial a b xs wide (None, (same, (still, h))) =
      let L : Spelling (List O) T = Such (HasLength 0 greatest) (Listed s p) in
      takes-none L xs a b still (subst (λ zs. L zs []) same ((omega arith, none-up_to greatest), refl))
  spelled-IfNeeded (suc n) greatest positive partial a b xs wide h = spelled-Chained (suc n) greatest positive partial a b xs wide h

  -- values with separators between them
  pub spelled-IsSeparated : (least : ℕ) (greatest : Option ℕ) → Ascends least greatest
      → IsSpelled (Such (HasLength least greatest) (Listed s p)) (IsSeparated least greatest separator inner)
  unfolding IsPositive
  spelled-IsSeparated least None up partial a b xs wide h = spelled-IfNeeded least None tt partial a b xs wide h
  spelled-IsSeparated least (Some zero) up partial a b xs wide (same, still) =
      let L : Spelling (List O) T = Such (HasLength least (Some zero)) (Listed s p) in
      takes-none L xs a b still (subst (λ zs. L zs []) same ((up, omega arith), refl))
  spelled-IsSeparated least (Some (suc n)) up partial a b xs wide h = spelled-IfNeeded least (Some (suc n)) tt partial a b xs wide h

  -- the same where errors may be appended to
  spelled-appended : (flag : Bool) (q : Type 0) (least : ℕ) (greatest : Option ℕ)
      → Ascends least greatest
      → IsSpelled (Such (HasLength least greatest) (Listed s p)) (AppendingIf flag q (IsSeparated least greatest separator inner))
  spelled-appended true q least greatest up partial a b xs wide h = spelled-IsSeparated least greatest up partial a b xs wide h
  spelled-appended false q least greatest up partial a b xs wide h = spelled-IsSeparated least greatest up partial a b xs wide h

  -- of which a value is made
  pub spelled-ListOf : {P : Type 0} (flag : Bool) (q : Type 0) (least : ℕ) (greatest : Option ℕ)
      (refusable : Type 0) (makes : List O → P → Type 0)
      → IsSpelled (ListOf least greatest makes s p) (Ascending least greatest (Countable (Gathered refusable makes (AppendingIf flag q (IsSeparated least greatest separator inner)))))
  spelled-ListOf flag q least None refusable makes partial a b y wide h =
      spelled-Gathered makes (Such (HasLength least None) (Listed s p)) (AppendingIf flag q (IsSeparated least None separator inner)) (spelled-appended flag q least None tt) refusable partial a b y wide h
  spelled-ListOf flag q least (Some g) refusable makes partial a b y wide (inl (l, h)) =
      spelled-Gathered makes (Such (HasLength least (Some g)) (Listed s p)) (AppendingIf flag q (IsSeparated least (Some g) separator inner)) (spelled-appended flag q least (Some g) l) refusable partial a b y wide h
  spelled-ListOf flag q least (Some g) refusable makes partial a b y wide (inr (l, e)) = absurd (cc e)
