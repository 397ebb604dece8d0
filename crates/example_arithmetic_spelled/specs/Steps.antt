-- What the functions of the grammar make of values, where these are there.
use Rattle.std.specs.Prelude.{◌≡◌, ◌≢◌, ℕ, ◌<◌, ℤ, pos, ◌+ℤ◌, ◌-ℤ◌, ◌*ℤ◌, int_div, Option, Some, None, ◌⊎◌}
use Rattle.std.specs.Char.{digit_value}

-- the number has one more digit
abbrev pub HasDigit : Option ℤ → ℕ → ℤ → Type 0
HasDigit None digit n = ⊥
HasDigit (Some m) digit n = (digit_value digit < 10) × (n ≡ (m *ℤ pos 10) +ℤ pos (digit_value digit))

-- the sum, or the difference
abbrev pub IsSum : Option ℤ → ℕ → Option ℤ → ℤ → Type 0
IsSum None sign right n = ⊥
IsSum (Some x) sign None n = ⊥
IsSum (Some x) sign (Some y) n = ((sign ≡ 43) × (n ≡ x +ℤ y)) ⊎ ((sign ≡ 45) × (n ≡ x -ℤ y))

-- the product, or the quotient
abbrev pub IsProduct : Option ℤ → ℕ → Option ℤ → ℤ → Type 0
IsProduct None sign right n = ⊥
IsProduct (Some x) sign None n = ⊥
IsProduct (Some x) sign (Some y) n = ((sign ≡ 42) × (n ≡ x *ℤ y))
    ⊎ ((sign ≡ 47) × (y ≢ pos 0) × (n ≡ int_div x y))
