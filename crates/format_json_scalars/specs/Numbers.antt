-- Numbers, as RFC 8259 writes them: 45 is a minus, 43 a plus, 46 a point, 48 a 0, and 101 and 69
-- are an e.
use Rattle.std.specs.Prelude.{◌≡◌, ℕ, ◌==◌, Bool, true, ◌||◌, List, [], ◌∷◌, ◌++◌, ◌⊎◌, ⊤, MatchBool}
use Rattle.std.specs.Int.{is_in_range}
use Rattle.std.specs.Char.{is_ascii_digit}
use Rattle.format_lemmas.specs.Bytes.{Each}

-- one or more digits
abbrev pub AreDigits : List ℕ → Type 0
AreDigits [] = ⊥
AreDigits (byte ∷ bytes) = (is_ascii_digit byte ≡ true) × Each is_ascii_digit bytes

-- nothing, or a minus
abbrev pub IsMinus : List ℕ → Type 0
IsMinus bytes = (bytes ≡ []) ⊎ (bytes ≡ 45 ∷ [])

-- a 0 alone, or digits of which the first is no 0
abbrev pub IsWhole : List ℕ → Type 0
IsWhole [] = ⊥
IsWhole (byte ∷ bytes) = ((byte ≡ 48) × (bytes ≡ [])) ⊎ ((is_in_range 49 57 byte ≡ true) × Each is_ascii_digit bytes)

-- nothing, or a point and one or more digits
abbrev pub IsFraction : List ℕ → Type 0
IsFraction bytes = (bytes ≡ []) ⊎ ((digits : List ℕ) × ((bytes ≡ 46 ∷ digits) × AreDigits digits))

-- an e, small or large
abbrev pub is_e : ℕ → Bool
is_e byte = 101 == byte || 69 == byte

-- a plus or a minus
abbrev pub is_sign : ℕ → Bool
is_sign byte = 43 == byte || 45 == byte

-- one or more digits, perhaps after a plus or a minus
abbrev pub IsPower : List ℕ → Type 0
IsPower [] = ⊥
IsPower (byte ∷ bytes) = ((is_sign byte ≡ true) × AreDigits bytes) ⊎ AreDigits (byte ∷ bytes)

-- nothing, or an e and a power
abbrev pub IsExponent : List ℕ → Type 0
IsExponent [] = ⊤
IsExponent (byte ∷ bytes) = (is_e byte ≡ true) × IsPower bytes

-- a number: perhaps a minus, the whole part, and perhaps a fraction and an exponent
abbrev pub IsNumber : List ℕ → Type 0
IsNumber bytes = (minus : List ℕ) × ((whole : List ℕ) × ((fraction : List ℕ) × ((exponent : List ℕ)
    × ((bytes ≡ minus ++ (whole ++ (fraction ++ exponent)))
    × IsMinus minus × IsWhole whole × IsFraction fraction × IsExponent exponent))))

-- more bytes make the bytes a number
abbrev pub BeginsNumber : List ℕ → Type 0
BeginsNumber bytes = (more : List ℕ) × IsNumber (bytes ++ more)

-- a byte that a number may have: a digit, a sign, a point or an e
abbrev pub is_number_byte : ℕ → Bool
is_number_byte byte = is_in_range 48 57 byte || (45 == byte || (43 == byte || (46 == byte || (101 == byte || 69 == byte))))

-- the answer says whether a fact holds
abbrev pub Tells : Bool → Type 0 → Type 0
Tells answer Fact = MatchBool answer Fact (¬ Fact)
