-- The numbers on lines, as the reader takes them apart.
use Rattle.std.specs.Prelude.{◌≡◌, ℕ, suc, ◌+◌, ◌*◌, ◌<◌, ◌^◌, ◌==◌, Bool, false, ◌||◌, ◌&&◌, not, List, [], ◌∷◌, length, ℤ, pos, negsuc, FitsSigned}
use Rattle.std.specs.Int.{w64}
use Rattle.std.specs.Char.{digit_value}
use Rattle.std.specs.Str.Parse.{AllDigits, digits_value}

-- the text is not empty, and begins neither with a plus nor with a 0 before other bytes
abbrev pub is_plain : List ℕ → Bool
is_plain [] = false
is_plain (c ∷ cs) = not (c == 43) && (not (c == 48) || length cs == 0)

-- the byte is a decimal digit, and n, of 64 bits, is the number with that digit after its own
abbrev pub HasDigit : ℕ → ℕ → ℕ → Type 0
HasDigit number byte n =
    (digit_value byte < 10) × ((n ≡ number * 10 + digit_value byte) × (n < 2 ^ 64))

-- the text has decimal digits alone, if any, and they write n, of 64 bits
abbrev pub AreDigitsOf : List ℕ → ℕ → Type 0
AreDigitsOf text n = AllDigits 10 text × ((digits_value 10 text ≡ n) × (n < 2 ^ 64))

-- the integer is the negative of a number that is not 0, and has 64 bits
abbrev pub IsNegative : ℕ → ℤ → Type 0
IsNegative number n = FitsSigned w64 n × ((k : ℕ) × ((n ≡ negsuc k) × (number ≡ suc k)))

-- the integer is this number, and has 64 bits
abbrev pub IsPositive : ℕ → ℤ → Type 0
IsPositive number n = FitsSigned w64 n × (n ≡ pos number)
