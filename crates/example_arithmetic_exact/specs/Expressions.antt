-- How expressions are written, and what they are worth.
use Rattle.std.specs.Prelude.{◌≡◌, ℕ, ◌+◌, ◌*◌, ◌^◌, ◌<◌, ◌≤◌, ◌==◌, Bool, true, ◌||◌, ℤ, pos, List, [], ◌∷◌, ◌++◌, length, Option, SomeIff}
use Rattle.std.specs.Char.{is_ascii_digit, digit_value}
use Rattle.winnow_ascii.specs.Classes.{is_ascii_multispace}
use Rattle.example_arithmetic_exact.specs.Steps.{OfBoth, Adds, Multiplies}
use Rattle.winnow_grammar.specs.Spellings.{AreHeld}

-- a plus or a minus
abbrev pub is_sum_sign : ℕ → Bool
is_sum_sign c = 43 == c || 45 == c

-- a star or a slash
abbrev pub is_product_sign : ℕ → Bool
is_product_sign c = 42 == c || 47 == c

-- the number n with these digits after its own
abbrev pub number_from : ℕ → List ℕ → ℕ
number_from n [] = n
number_from n (d ∷ ds) = number_from (n * 10 + digit_value d) ds

-- the value is this number, and it is there if a 64-bit number with a sign can be as great
abbrev pub IsValue : ℕ → Option ℤ → Type 0
IsValue n value = SomeIff value (n < 2 ^ 63) (pos n)

-- digits write a number, one digit at least
abbrev pub WritesNumber : Option ℤ → List ℕ → Type 0
WritesNumber value ds = AreHeld is_ascii_digit ds × (1 ≤ length ds) × IsValue (number_from 0 ds) value

-- the parts of an expression
pub data Part : Type 0 where
  Expression : Part
  Term : Part
  Factor : Part
  Core : Part

-- the text writes this part of an expression, which has this value, or none where a number or a
-- result is too great or a divisor is 0: an expression is a term, or an expression, a plus or a
-- minus, and a term; a term is a factor, or a term, a star or a slash, and a factor; a factor is a
-- core with blanks around it; a core is a number, or an expression in parentheses
pub data Writes : Part → Option ℤ → List ℕ → Type 0 where
  term : {x : Option ℤ} {a : List ℕ} → Writes Term x a → Writes Expression x a
  sum : {x y value : Option ℤ} {a b : List ℕ} (sign : ℕ) → Writes Expression x a
      → is_sum_sign sign ≡ true → Writes Term y b → OfBoth (Adds sign) x y value
      → Writes Expression value (a ++ sign ∷ b)
  factor : {x : Option ℤ} {a : List ℕ} → Writes Factor x a → Writes Term x a
  product : {x y value : Option ℤ} {a b : List ℕ} (sign : ℕ) → Writes Term x a
      → is_product_sign sign ≡ true → Writes Factor y b → OfBoth (Multiplies sign) x y value
      → Writes Term value (a ++ sign ∷ b)
  spaced : {x : Option ℤ} {a : List ℕ} (before after : List ℕ)
      → AreHeld is_ascii_multispace before → Writes Core x a → AreHeld is_ascii_multispace after
      → Writes Factor x (before ++ (a ++ after))
  number : {x : Option ℤ} {a : List ℕ} → WritesNumber x a → Writes Core x a
  parens : {x : Option ℤ} {a : List ℕ} → Writes Expression x a
      → Writes Core x (40 ∷ (a ++ 41 ∷ []))
