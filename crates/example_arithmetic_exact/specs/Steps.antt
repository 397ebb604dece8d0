-- What the operators make of values, where both are there and 64 bits hold the result.
use Rattle.std.specs.Prelude.{◌≡◌, ℕ, ℤ, ◌+ℤ◌, ◌-ℤ◌, ◌*ℤ◌, int_div, Option, Some, None, SomeIff, FitsSigned}
use Rattle.std.specs.Int.{w64, CanDivide}

-- what is made of two values, or no value where one of them is missing
abbrev pub OfBoth : (ℤ → ℤ → Option ℤ → Type 0) → Option ℤ → Option ℤ → Option ℤ → Type 0
OfBoth makes None right result = result ≡ None
OfBoth makes (Some x) None result = result ≡ None
OfBoth makes (Some x) (Some y) result = makes x y result

-- the sum after a plus, and the difference after a minus, if it fits
abbrev pub Adds : ℕ → ℤ → ℤ → Option ℤ → Type 0
Adds sign x y result = (sign ≡ 43 → SomeIff result (FitsSigned w64 (x +ℤ y)) (x +ℤ y))
    × (sign ≡ 45 → SomeIff result (FitsSigned w64 (x -ℤ y)) (x -ℤ y))

-- the product after a star, and the quotient after a slash, if it fits and the divisor is not 0
abbrev pub Multiplies : ℕ → ℤ → ℤ → Option ℤ → Type 0
Multiplies sign x y result = (sign ≡ 42 → SomeIff result (FitsSigned w64 (x *ℤ y)) (x *ℤ y))
    × (sign ≡ 47 → SomeIff result (CanDivide w64 x y) (int_div x y))
