-- Strings, as RFC 8259 writes them: 34 is a quote, 92 a backslash, and 117 a u.
use Rattle.std.specs.Prelude.{◌≡◌, ℕ, ◌+◌, ◌-◌, ◌*◌, ◌<◌, ◌==◌, nat_lt, Bool, true, not, ◌&&◌, ◌||◌, if◌then◌else◌, List, [], ◌∷◌, ◌++◌, ◌⊎◌, Option, Some, None}
use Rattle.std.specs.Char.{IsScalar, encode_utf8, digit_value}
use Rattle.std.specs.Int.{IsInRange}

-- a quote, a backslash or a control character, which do not stand for themselves in a string
abbrev pub is_special : ℕ → Bool
is_special c = 34 == c || (92 == c || nat_lt c 32)

-- any other character or byte, which stands for itself
abbrev pub is_plain : ℕ → Bool
is_plain c = not (is_special c)

-- a character of ASCII that stands for itself
abbrev pub is_plain_ascii : ℕ → Bool
is_plain_ascii c = is_plain c && nat_lt c 128

-- the character for which a letter after a backslash stands: a quote, a backslash or a slash for
-- itself, and b, f, n, r and t for a control character
abbrev pub escaped : ℕ → Option ℕ
escaped letter =
    if 34 == letter || (92 == letter || 47 == letter) then Some letter
    else (if 98 == letter then Some 8 else (if 102 == letter then Some 12
    else (if 110 == letter then Some 10 else (if 114 == letter then Some 13
    else (if 116 == letter then Some 9 else None)))))

-- four hexadecimal digits, of either case
abbrev pub AreHex : ℕ → ℕ → ℕ → ℕ → Type 0
AreHex a b c d =
    (digit_value a < 16) × (digit_value b < 16) × (digit_value c < 16) × (digit_value d < 16)

-- the number that four hexadecimal digits write
abbrev pub hex_number : ℕ → ℕ → ℕ → ℕ → ℕ
hex_number a b c d =
    digit_value a * 4096 + digit_value b * 256 + digit_value c * 16 + digit_value d

-- the text is `\u` and four hexadecimal digits that write the number
abbrev pub WritesNumber : ℕ → List ℕ → Type 0
WritesNumber n text = (a : ℕ) × ((b : ℕ) × ((c : ℕ) × ((d : ℕ)
    × ((text ≡ 92 ∷ 117 ∷ a ∷ b ∷ c ∷ d ∷ []) × AreHex a b c d × (n ≡ hex_number a b c d)))))

-- the first of a pair of surrogates
abbrev pub IsHigh : ℕ → Type 0
IsHigh n = IsInRange 0xD800 0xDBFF n

-- the second of a pair of surrogates
abbrev pub IsLow : ℕ → Type 0
IsLow n = IsInRange 0xDC00 0xDFFF n

-- the code of the character for which two surrogates stand
abbrev pub pair_code : ℕ → ℕ → ℕ
pair_code high low = 0x10000 + (high - 0xD800) * 1024 + (low - 0xDC00)

-- the text is a plain character, in UTF-8
abbrev pub IsPlainChar : ℕ → List ℕ → Type 0
IsPlainChar c text = IsScalar c × (is_plain c ≡ true) × (text ≡ encode_utf8 c)

-- the text is a backslash and a letter that stands for the character
abbrev pub IsLetterEscape : ℕ → List ℕ → Type 0
IsLetterEscape c text = (letter : ℕ) × ((text ≡ 92 ∷ letter ∷ []) × (escaped letter ≡ Some c))

-- the text writes the code of the character, which is no surrogate
abbrev pub IsCodeEscape : ℕ → List ℕ → Type 0
IsCodeEscape c text = IsScalar c × WritesNumber c text

-- the text writes two surrogates that stand for the character
abbrev pub IsPairEscape : ℕ → List ℕ → Type 0
IsPairEscape c text = (high : ℕ) × ((low : ℕ) × ((first : List ℕ) × ((second : List ℕ)
    × ((text ≡ first ++ second) × WritesNumber high first × WritesNumber low second
    × IsHigh high × IsLow low × (c ≡ pair_code high low)))))

-- the text spells the character: as it stands, or by an escape of one of the three kinds
abbrev pub SpellsChar : ℕ → List ℕ → Type 0
SpellsChar c text = IsPlainChar c text
    ⊎ (IsLetterEscape c text ⊎ (IsCodeEscape c text ⊎ IsPairEscape c text))

-- the text spells these characters, one after the other
abbrev pub SpellsChars : List ℕ → List ℕ → Type 0
SpellsChars [] text = text ≡ []
SpellsChars (c ∷ cs) text = (front : List ℕ) × ((rest : List ℕ)
    × ((text ≡ front ++ rest) × SpellsChar c front × SpellsChars cs rest))

-- the bytes begin with a string of these characters, between quotes, and the rest follows
abbrev pub StringAhead : List ℕ → List ℕ → List ℕ → Type 0
StringAhead bytes cs rest =
    (text : List ℕ) × ((bytes ≡ 34 ∷ (text ++ 34 ∷ rest)) × SpellsChars cs text)
