-- The parsers of numbers and blanks read what the definition says.
use Rattle.std.proofs.Common.{◌≡◌, ℕ, ◌+◌, ◌*◌, ◌<◌, ◌≤◌, true, List, [], ◌∷◌, Option, subst, refl, arith}
use Rattle.std.specs.Prelude.{ℤ}
use Rattle.std.specs.Borrow.{Bor}
use Rattle.std.specs.Char.{is_ascii_digit, digit_value}
use Rattle.std.specs.List.{FoldsTo}
use Rattle.std.proofs.lemmas.Bool.Decides.{nat_tests}
use Rattle.std.proofs.lemmas.Str.{digit_value_digit}
use Rattle.winnow_combinator.specs.Gathering.{Folds}
use Rattle.winnow_ascii.specs.Classes.{is_ascii_multispace}
use Rattle.winnow_grammar.specs.Spelling.{Spelling}
use Rattle.winnow_grammar.specs.Spellings.{AreHeld}
use Rattle.winnow_exact.specs.Exact.{IsExact}
use Rattle.winnow_exact.specs.Languages.{AreTokens}
use Rattle.winnow_exact.proofs.lemmas.ValueLemmas.{IsExact-as, IsExact-Gathered, IsExact-Appending}
use Rattle.winnow_exact.proofs.lemmas.RunLemmas.{IsExact-TakesWhile, IsExact-Repeats}
use Rattle.example_arithmetic_exact.specs.Expressions.{number_from, IsValue, WritesNumber}
use Rattle.example_arithmetic_exact.specs.Grammar.{IsTextSlice, AddsDigit, Blanks, Number}

-- blanks, of which no value is kept
abbrev pub Spaces : Spelling (Bor (List ℕ)) ℕ
Spaces s p = AreHeld is_ascii_multispace p

pub reads-spaces : IsExact Spaces is_ascii_multispace (Blanks IsTextSlice)
reads-spaces =
    IsExact-as Spaces is_ascii_multispace (IsExact-TakesWhile is_ascii_multispace IsTextSlice 0)
    (λ s p h. h.1) (λ s p h. (omega (arith), h)) (λ c h. h)

in-range : (c : ℕ) → is_ascii_digit c ≡ true → (48 ≤ c) × (c ≤ 57)
in-range c h = (grind (arith, nat_tests, h), grind (arith, nat_tests, h))

-- a digit has a value below 10
digit-below : (c : ℕ) → is_ascii_digit c ≡ true → digit_value c < 10
digit-below c h =
    let at : (48 ≤ c) × (c ≤ 57) = in-range c h in omega (arith, digit_value_digit c at, at.0, at.1)

-- the value of digits
value-of : (xs : List ℕ) (n : ℕ) (m v : Option ℤ) → IsValue n m → AreHeld is_ascii_digit xs
    → FoldsTo AddsDigit m xs v → IsValue (number_from n xs) v
value-of [] n m v h all s = subst (IsValue n) s h
value-of (d ∷ ds) n m v h all (k, s, ss) =
    value-of ds (n * 10 + digit_value d) k v (s n (digit-below d all.0) h) all.1 ss

number-made : (xs : List ℕ) (v : Option ℤ) (p : List ℕ) → Folds (IsValue 0) AddsDigit xs v
    → AreTokens 1 is_ascii_digit xs p → WritesNumber v p
number-made xs v p (start, (starts, folds)) (is, enough, all) = (
  all,
  enough,
  value-of p 0 start v starts all (subst (λ t. FoldsTo AddsDigit start t v) is folds),
)

pub reads-number : IsExact WritesNumber is_ascii_digit Number
reads-number =
    IsExact-Gathered (IsExact-Appending ⊥ (IsExact-Repeats is_ascii_digit 1)) WritesNumber ⊥
    (Folds (IsValue 0) AddsDigit) number-made (λ v p w. (p, (refl, w.1, w.0)))
