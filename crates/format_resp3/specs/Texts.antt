-- The texts of lines: of doubles and of big numbers. 43 is +, 45 is -, 46 a dot, 48 to 57 are the
-- digits, and 69 and 101 are E and e.
use Rattle.std.specs.Prelude.{◌≡◌, ℕ, ◌==◌, nat_le, nat_lt, Bool, true, false, ◌&&◌, ◌||◌, if◌then◌else◌, List, [], ◌∷◌, length, drop, ◌⊎◌}
use Rattle.std.specs.List.{prefix_len}

-- the byte is a carriage return or a newline
abbrev pub ends_line : ℕ → Bool
ends_line c = 13 == c || 10 == c

-- the byte is a digit
abbrev pub is_digit : ℕ → Bool
is_digit c = nat_le 48 c && nat_le c 57

-- the text is digits, at least one
abbrev pub is_digits : List ℕ → Bool
is_digits text = nat_lt 0 (length text) && (prefix_len is_digit text == length text)

-- the text without the sign that it may begin with
abbrev pub unsigned : List ℕ → List ℕ
unsigned [] = []
unsigned (c ∷ text) = if 43 == c || 45 == c then text else c ∷ text

-- what follows the digits that the text begins with
abbrev pub after_digits : List ℕ → List ℕ
after_digits text = drop (prefix_len is_digit text) text

-- a sign or none, and digits
abbrev pub is_integer : List ℕ → Bool
is_integer text = is_digits (unsigned text)

-- an exponent or none
abbrev pub is_exponent : List ℕ → Bool
is_exponent [] = true
is_exponent (c ∷ text) = (69 == c || 101 == c) && is_integer text

-- a dot with the digits of a fraction or none, and then an exponent or none
abbrev pub is_fraction : List ℕ → Bool
is_fraction [] = true
is_fraction (c ∷ text) = is_exponent (if 46 == c then after_digits text else c ∷ text)

-- digits, and then a fraction and an exponent or none
abbrev pub is_decimal : List ℕ → Bool
is_decimal [] = false
is_decimal (c ∷ text) = is_digit c && is_fraction (after_digits text)

-- the text of a double: a decimal number with a sign or none, or inf, -inf or nan
abbrev pub IsDouble : List ℕ → Type 0
IsDouble text = (is_decimal (unsigned text) ≡ true) ⊎ ((text ≡ 105 ∷ 110 ∷ 102 ∷ [])
    ⊎ ((text ≡ 45 ∷ 105 ∷ 110 ∷ 102 ∷ []) ⊎ (text ≡ 110 ∷ 97 ∷ 110 ∷ [])))
