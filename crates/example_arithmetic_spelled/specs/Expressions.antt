-- How expressions are written, and what they are worth.
use Rattle.std.specs.Prelude.{◌≡◌, ◌≢◌, ℕ, ◌<◌, ◌≤◌, ℤ, pos, ◌+ℤ◌, ◌-ℤ◌, ◌*ℤ◌, int_div, List, [], ◌∷◌, ◌++◌, length, Option, IfSome, ⊤}
use Rattle.std.specs.Char.{digit_value}
use Rattle.winnow_ascii.specs.Classes.{is_ascii_multispace}
use Rattle.winnow_grammar.specs.Spellings.{AreHeld}

-- each is a decimal digit
abbrev pub AreDigits : List ℕ → Type 0
AreDigits [] = ⊤
AreDigits (d ∷ ds) = (digit_value d < 10) × AreDigits ds

-- the number n with these digits after its own
abbrev pub number_from : ℤ → List ℕ → ℤ
number_from n [] = n
number_from n (d ∷ ds) = number_from ((n *ℤ pos 10) +ℤ pos (digit_value d)) ds

-- the digits write the number, one digit at least
abbrev pub WritesNumber : ℤ → List ℕ → Type 0
WritesNumber n ds = AreDigits ds × (1 ≤ length ds) × (n ≡ number_from (pos 0) ds)

-- the digits write the number, if it has a value
abbrev pub WritesValue : Option ℤ → List ℕ → Type 0
WritesValue value ds = IfSome value (λ n. WritesNumber n ds)

-- the parts of an expression
pub data Part : Type 0 where
  Expression : Part
  Term : Part
  Factor : Part

-- the text writes this part of an expression, which is worth x: an expression is a term, or an
-- expression, a plus or a minus, and a term; a term is a factor, or a term, a star or a slash, and
-- a factor; a factor is a number, or an expression in parentheses, with spaces around it
pub data Writes : Part → ℤ → List ℕ → Type 0 where
  term : {x : ℤ} {a : List ℕ} → Writes Term x a → Writes Expression x a
  sum : {x y : ℤ} {a b : List ℕ} → Writes Expression x a → Writes Term y b
      → Writes Expression (x +ℤ y) (a ++ 43 ∷ b)
  difference : {x y : ℤ} {a b : List ℕ} → Writes Expression x a → Writes Term y b
      → Writes Expression (x -ℤ y) (a ++ 45 ∷ b)
  factor : {x : ℤ} {a : List ℕ} → Writes Factor x a → Writes Term x a
  product : {x y : ℤ} {a b : List ℕ} → Writes Term x a → Writes Factor y b
      → Writes Term (x *ℤ y) (a ++ 42 ∷ b)
  quotient : {x y : ℤ} {a b : List ℕ} → Writes Term x a → Writes Factor y b → y ≢ pos 0
      → Writes Term (int_div x y) (a ++ 47 ∷ b)
  number : (x : ℤ) (a : List ℕ) → WritesNumber x a → Writes Factor x a
  parens : {x : ℤ} {a : List ℕ} → Writes Expression x a → Writes Factor x (40 ∷ (a ++ 41 ∷ []))
  spaced : {x : ℤ} {a : List ℕ} (before after : List ℕ) → AreHeld is_ascii_multispace before
      → Writes Factor x a → AreHeld is_ascii_multispace after
      → Writes Factor x (before ++ (a ++ after))

-- the text writes this part, if it has a value
abbrev pub WritesPart : Part → Option ℤ → List ℕ → Type 0
WritesPart part value text = IfSome value (λ x. Writes part x text)
