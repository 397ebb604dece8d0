-- What the parsers of an expression spell is what its definition says.
use Rattle.std.proofs.Common.{◌≡◌, ◌==◌, ◌||◌, ℕ, Bool, true, List, [], ◌∷◌, ◌++◌, Option, Some, None, ap, sym, ◌∙◌, subst, inl, inr, arith}
use Rattle.std.specs.Prelude.{ℤ, pos, ◌+ℤ◌, ◌-ℤ◌, ◌*ℤ◌, int_div, IfSome}
use Rattle.std.specs.List.{FoldsTo}
use Rattle.std.proofs.lemmas.Bool.Decides.{nat_tests}
use Rattle.std.proofs.lemmas.Option.{none-some, same_Some}
use Rattle.winnow_stream.specs.Source.{Source}
use Rattle.winnow_combinator.specs.Gathering.{Folds}
use Rattle.winnow_ascii.specs.Classes.{is_ascii_multispace}
use Rattle.winnow_grammar.specs.Spelling.{Spelling, IsWithin}
use Rattle.winnow_grammar.specs.Spellings.{OneToken, Run, Then, After, Before, Or, Counted, Chain}
use Rattle.winnow_grammar.specs.SpelledFolds.{InRow-tokens, Keeps, Chain-within}
use Rattle.example_arithmetic_spelled.specs.Expressions.{AreDigits, number_from, WritesNumber, WritesValue, Part, Expression, Term, Factor, Writes, term, sum, difference, factor, product, quotient, number, parens, spaced, WritesPart}
use Rattle.example_arithmetic_spelled.specs.Steps.{HasDigit, IsSum, IsProduct}

-- ---- What the parsers spell, in the words of the combinators

module _ {S : Type 0} (is_slice : S → Source ℕ → ℕ → Type 0) (expr : Spelling (Option ℤ) ℕ) where
  abbrev pub FactorsBy : Spelling (Option ℤ) ℕ
  FactorsBy = After (Run is_slice is_ascii_multispace 0 None)
      (Before (Or WritesValue (After (OneToken (λ t. 40 == t)) (Before expr (OneToken (λ t. 41 == t)))))
      (Run is_slice is_ascii_multispace 0 None))

  abbrev pub TermsBy : Spelling (Option ℤ) ℕ
  TermsBy = Chain (λ left pair new. IfSome new (IsProduct left pair.0 pair.1)) (OneToken (λ t. 42 == t || 47 == t)) FactorsBy

  abbrev pub ExpressionsBy : Spelling (Option ℤ) ℕ
  ExpressionsBy = Chain (λ left pair new. IfSome new (IsSum left pair.0 pair.1)) (OneToken (λ t. 43 == t || 45 == t)) TermsBy

-- ---- Numbers

-- the step of a fold of digits
abbrev AddsDigit : Option ℤ → ℕ → Option ℤ → Type 0
AddsDigit m digit r = IfSome r (HasDigit m digit)

-- no digits make a value of none
no-digits : (ds : List ℕ) (n : ℤ) → FoldsTo AddsDigit None ds (Some n) → ⊥
no-digits [] n e = none-some _ e
no-digits (d ∷ ds) n (None, s, more) = no-digits ds n more
no-digits (d ∷ ds) n (Some k, s, more) = s

folds-digits : (ds : List ℕ) (m n : ℤ) → FoldsTo AddsDigit (Some m) ds (Some n)
    → AreDigits ds × (n ≡ number_from m ds)
folds-digits [] m n e = (tt, sym (same_Some _ _ e))
folds-digits (d ∷ ds) m n (None, s, more) = absurd (no-digits ds n more)
folds-digits (d ∷ ds) m n (Some k, s, more) =
    let r = folds-digits ds k n more in ((s.0, r.0), r.1 ∙ ap (λ j. number_from j ds) s.1)

pub number-within : (holds : ℕ → Bool)
    → IsWithin (Counted 1 None (Folds (λ x. x ≡ Some (pos 0)) (λ m digit r. IfSome r (HasDigit m digit))) (OneToken holds)) WritesValue
number-within holds None ts h = tt
number-within holds (Some n) ts (xs, ((x, (start, folds)), ((enough, most), row))) =
    let r = folds-digits xs (pos 0) n (subst (λ a. FoldsTo AddsDigit a xs (Some n)) start folds) in
    subst (λ t. WritesNumber n t) (sym (InRow-tokens holds xs ts row)) (r.0, enough, r.1)

-- ---- Sums

term-within : IsWithin (WritesPart Term) (WritesPart Expression)
term-within None ts h = tt
term-within (Some x) ts h = term h

one-sum : (x y n : ℤ) (sign : ℕ) (a b : List ℕ) → Writes Expression x a → Writes Term y b
    → IsSum (Some x) sign (Some y) n → Writes Expression n (a ++ sign ∷ b)
one-sum x y n sign a b p q (inl (plus, made)) =
    subst (λ m. Writes Expression m (a ++ sign ∷ b)) (sym made) (subst (λ s. Writes Expression (x +ℤ y) (a ++ s ∷ b)) (sym plus) (sum p q))
one-sum x y n sign a b p q (inr (minus, made)) =
    subst (λ m. Writes Expression m (a ++ sign ∷ b)) (sym made) (subst (λ s. Writes Expression (x -ℤ y) (a ++ s ∷ b)) (sym minus) (difference p q))

pub sum-within : (holds : ℕ → Bool) (p : Spelling (Option ℤ) ℕ) → IsWithin p (WritesPart Term)
    → IsWithin (Chain (λ left pair new. IfSome new (IsSum left pair.0 pair.1)) (OneToken holds) p) (WritesPart Expression)
sum-within holds p within =
    Chain-within (λ left pair new. IfSome new (IsSum left pair.0 pair.1)) (OneToken holds) p (WritesPart Expression) (λ x ts h. term-within x ts (within x ts h)) on
  where
    on : Keeps (λ left pair new. IfSome new (IsSum left pair.0 pair.1)) (Then (OneToken holds) p)
        (WritesPart Expression)
    on x pair None ts us w t made = tt
    on None pair (Some n) ts us w t made = absurd made
    on (Some x) (sign, None) (Some n) ts us w t made = absurd made
    on (Some x) (sign, Some y) (Some n) ts us w (one, (other, (split, (is, held), k))) made =
        subst (λ r. Writes Expression n (ts ++ r)) (sym (split ∙ ap (λ u. u ++ other) is)) (one-sum x y n sign ts other w (within (Some y) other k) made)

-- ---- Products

factor-within : IsWithin (WritesPart Factor) (WritesPart Term)
factor-within None ts h = tt
factor-within (Some x) ts h = factor h

one-product : (x y n : ℤ) (sign : ℕ) (a b : List ℕ) → Writes Term x a → Writes Factor y b
    → IsProduct (Some x) sign (Some y) n → Writes Term n (a ++ sign ∷ b)
one-product x y n sign a b p q (inl (star, made)) =
    subst (λ m. Writes Term m (a ++ sign ∷ b)) (sym made) (subst (λ s. Writes Term (x *ℤ y) (a ++ s ∷ b)) (sym star) (product p q))
one-product x y n sign a b p q (inr (slash, nonzero, made)) =
    subst (λ m. Writes Term m (a ++ sign ∷ b)) (sym made) (subst (λ s. Writes Term (int_div x y) (a ++ s ∷ b)) (sym slash) (quotient p q nonzero))

pub product-within : (holds : ℕ → Bool) (p : Spelling (Option ℤ) ℕ) → IsWithin p (WritesPart Factor)
    → IsWithin (Chain (λ left pair new. IfSome new (IsProduct left pair.0 pair.1)) (OneToken holds) p) (WritesPart Term)
product-within holds p within =
    Chain-within (λ left pair new. IfSome new (IsProduct left pair.0 pair.1)) (OneToken holds) p (WritesPart Term) (λ x ts h. factor-within x ts (within x ts h)) on
  where
    on : Keeps (λ left pair new. IfSome new (IsProduct left pair.0 pair.1))
        (Then (OneToken holds) p) (WritesPart Term)
    on x pair None ts us w t made = tt
    on None pair (Some n) ts us w t made = absurd made
    on (Some x) (sign, None) (Some n) ts us w t made = absurd made
    on (Some x) (sign, Some y) (Some n) ts us w (one, (other, (split, (is, held), k))) made =
        subst (λ r. Writes Term n (ts ++ r)) (sym (split ∙ ap (λ u. u ++ other) is)) (one-product x y n sign ts other w (within (Some y) other k) made)

-- ---- Factors

module _ (expr : Spelling (Option ℤ) ℕ) (within : IsWithin expr (WritesPart Expression)) where
  in-parens : (x : ℤ) (ts : List ℕ)
      → After (OneToken (λ t. 40 == t)) (Before expr (OneToken (λ t. 41 == t))) (Some x) ts
      → Writes Factor x ts
  in-parens x ts (c, (one, (other, (split, (is, held), (d, (mid, (last, (left, e, (was, kept))))))))) =
      let begin : c ≡ 40 = grind (arith, nat_tests, held) in
      let close : d ≡ 41 = grind (arith, nat_tests, kept) in
      let rest : other ≡ mid ++ 41 ∷ [] =
      left ∙ ap (λ u. mid ++ u) was ∙ ap (λ k. mid ++ k ∷ []) close in
      let all : ts ≡ 40 ∷ (mid ++ 41 ∷ []) =
      split ∙ ap (λ u. u ++ other) is ∙ ap (λ k. k ∷ other) begin ∙ ap (λ r. 40 ∷ r) rest in
      subst (λ r. Writes Factor x r) (sym all) (parens (within (Some x) mid e))

  spaced-factors : {S : Type 0} (is_slice : S → Source ℕ → ℕ → Type 0)
      → IsWithin (FactorsBy is_slice expr) (WritesPart Factor)
  spaced-factors is_slice None ts h = tt
  spaced-factors is_slice (Some x) ts (s, (one, (rest, (split, run, (r, (mid, (last, (left, choice, end)))))))) =
      let inner : Writes Factor x mid = elim choice [ inl n ↦ number x mid n | inr p ↦ in-parens x mid p ] in
      subst (λ t. Writes Factor x t) (sym (split ∙ ap (λ t. one ++ t) left)) (spaced one last run.1 inner end.1)

  pub expressions-within : {S : Type 0} (is_slice : S → Source ℕ → ℕ → Type 0)
      → IsWithin (ExpressionsBy is_slice expr) (WritesPart Expression)
  expressions-within is_slice =
      sum-within (λ t. 43 == t || 45 == t) (TermsBy is_slice expr) (product-within (λ t. 42 == t || 47 == t) (FactorsBy is_slice expr) (spaced-factors is_slice))
