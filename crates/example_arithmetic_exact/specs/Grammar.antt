-- What the parsers of an expression mean, as they are written with the combinators.
use Rattle.std.specs.Prelude.{◌≡◌, ℕ, ◌+◌, ◌*◌, ◌<◌, ◌==◌, ℤ, List, Option, None}
use Rattle.std.specs.Char.{is_ascii_digit, digit_value}
use Rattle.std.specs.Borrow.{Bor}
use Rattle.winnow_stream.specs.Source.{Source}
use Rattle.winnow_stream.specs.Front.{front}
use Rattle.winnow_stream.specs.Longer.{SlicesStay}
use Rattle.winnow_stream.specs.Text.{text_source}
use Rattle.winnow_parser.specs.Outcome.{Meaning}
use Rattle.winnow_parser.specs.Laws.{IsParser}
use Rattle.winnow_parser.specs.Meanings.{IsPreceded, IsTerminated, IsAlt2}
use Rattle.winnow_parser.specs.Parts.{IsParser-IsPreceded, IsParser-IsTerminated, IsParser-IsAlt2}
use Rattle.winnow_token.specs.OneOf.{IsOneOf, IsParser-IsOneOf}
use Rattle.winnow_token.specs.TakeWhile.{TakesWhile, IsParser-TakesWhile}
use Rattle.winnow_combinator.specs.Appended.{Appending, IsParser-Appending}
use Rattle.winnow_combinator.specs.Gathering.{Gathered, Folds, IsParser-Gathered}
use Rattle.winnow_combinator.specs.Repeat.{Repeats, IsParser-Repeats}
use Rattle.winnow_combinator.specs.Separated.{IsSeparatedFoldl1, IsParser-IsSeparatedFoldl1}
use Rattle.winnow_ascii.specs.Classes.{is_ascii_multispace}
use Rattle.example_arithmetic_exact.specs.Steps.{OfBoth, Adds, Multiplies}
use Rattle.example_arithmetic_exact.specs.Expressions.{is_sum_sign, is_product_sign, IsValue}

-- one more digit makes the value of a number that of the longer number
abbrev pub AddsDigit : Option ℤ → ℕ → Option ℤ → Type 0
AddsDigit old digit new = (n : ℕ) → digit_value digit < 10 → IsValue n old
    → IsValue (n * 10 + digit_value digit) new

-- the slice is the front of this width
abbrev pub IsTextSlice : Bor (List ℕ) → Source ℕ → ℕ → Type 0
IsTextSlice s r n = text_source s.now ≡ front r n

-- a number
abbrev pub Number : Meaning (Option ℤ) ℕ
Number = Gathered ⊥ (Folds (IsValue 0) AddsDigit) (Appending ⊥ (Repeats 1 None (IsOneOf is_ascii_digit)))

-- what the inner parser means, in parentheses
abbrev pub Parens : Meaning (Option ℤ) ℕ → Meaning (Option ℤ) ℕ
Parens inner = IsPreceded (IsOneOf (λ c. 40 == c)) (IsTerminated inner (IsOneOf (λ c. 41 == c)))

-- a number, or what the inner parser means in parentheses
abbrev pub Cores : Meaning (Option ℤ) ℕ → Meaning (Option ℤ) ℕ
Cores inner = Appending ⊥ (IsAlt2 ⊥ Number (Parens inner))

module _ {S : Type 0} (is_slice : S → Source ℕ → ℕ → Type 0) where
  -- the slice of the blanks ahead
  abbrev pub Blanks : Meaning S ℕ
  Blanks = TakesWhile is_slice is_ascii_multispace 0 None

  -- with blanks around it
  abbrev pub Factors : Meaning (Option ℤ) ℕ → Meaning (Option ℤ) ℕ
  Factors inner = IsPreceded Blanks (IsTerminated (Cores inner) Blanks)

  -- factors with stars and slashes between them
  abbrev pub Terms : Meaning (Option ℤ) ℕ → Meaning (Option ℤ) ℕ
  Terms inner = IsSeparatedFoldl1 (λ left pair new. OfBoth (Multiplies pair.0) left pair.1 new) (IsOneOf is_product_sign) (Factors inner)

  -- terms with pluses and minuses between them
  abbrev pub IsLayer : Meaning (Option ℤ) ℕ → Meaning (Option ℤ) ℕ
  IsLayer inner = IsSeparatedFoldl1 (λ left pair new. OfBoth (Adds pair.0) left pair.1 new) (IsOneOf is_sum_sign) (Terms inner)

  module _ (stay : SlicesStay is_slice) (inner : Meaning (Option ℤ) ℕ) (p : IsParser inner) where
    -- `Cores` keeps the laws of a parser
    IsParser-Cores : IsParser (Cores inner)
    IsParser-Cores =
        let number = IsParser-Gathered ⊥ (Folds (IsValue 0) AddsDigit) (IsParser-Appending ⊥ (IsParser-Repeats 1 None (IsParser-IsOneOf is_ascii_digit))) in
        let close = IsParser-IsTerminated inner (IsOneOf (λ c. 41 == c)) p (IsParser-IsOneOf (λ c. 41 == c)) in
        let parens = IsParser-IsPreceded (IsOneOf (λ c. 40 == c)) (IsTerminated inner (IsOneOf (λ c. 41 == c))) (IsParser-IsOneOf (λ c. 40 == c)) close in
        IsParser-Appending ⊥ (IsParser-IsAlt2 ⊥ Number (Parens inner) number parens)

    -- `Factors` keeps the laws of a parser
    pub IsParser-Factors : IsParser (Factors inner)
    IsParser-Factors =
        let blanks = IsParser-TakesWhile is_slice stay is_ascii_multispace 0 None in
        IsParser-IsPreceded Blanks (IsTerminated (Cores inner) Blanks) blanks (IsParser-IsTerminated (Cores inner) Blanks IsParser-Cores blanks)

    -- `Terms` keeps the laws of a parser
    pub IsParser-Terms : IsParser (Terms inner)
    IsParser-Terms = IsParser-IsSeparatedFoldl1 (IsParser-IsOneOf is_product_sign) IsParser-Factors (λ left pair new. OfBoth (Multiplies pair.0) left pair.1 new)

    -- `IsLayer` keeps the laws of a parser
    pub IsParser-IsLayer : IsParser (IsLayer inner)
    IsParser-IsLayer = IsParser-IsSeparatedFoldl1 (IsParser-IsOneOf is_sum_sign) IsParser-Terms (λ left pair new. OfBoth (Adds pair.0) left pair.1 new)
