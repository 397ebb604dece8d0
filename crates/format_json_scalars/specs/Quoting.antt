-- How strings are written: 34 is a quote, 92 a backslash, 117 a u and 48 a 0.
use Rattle.std.specs.Prelude.{◌≡◌, ℕ, ◌==◌, ◌/◌, ◌%◌, nat_lt, ◌||◌, if◌then◌else◌, List, [], ◌∷◌, ◌++◌, Option, Some, None}
use Rattle.std.specs.List.{flat_map}
use Rattle.std.specs.Char.{digit_char}

-- the letter that stands for a byte after a backslash: a quote or a backslash for itself, and b, f,
-- n, r and t for a control character
abbrev pub letter_of : ℕ → Option ℕ
letter_of byte =
    if 34 == byte || 92 == byte then Some byte
    else (if 8 == byte then Some 98 else (if 12 == byte then Some 102
    else (if 10 == byte then Some 110 else (if 13 == byte then Some 114
    else (if 9 == byte then Some 116 else None)))))

-- the escape of a control character: `\u00` and the two hexadecimal digits of its code
abbrev pub written_code : ℕ → List ℕ
written_code byte =
    92 ∷ 117 ∷ 48 ∷ 48 ∷ digit_char (byte / 16) ∷ digit_char (byte % 16) ∷ []

-- a backslash and this letter, or these bytes where there is none
abbrev pub written_letter : Option ℕ → List ℕ → List ℕ
written_letter (Some letter) bytes = 92 ∷ letter ∷ []
written_letter None bytes = bytes

-- a byte of a string: after a backslash where a letter stands for it, by its code where it is
-- another control character, and as it is elsewhere
abbrev pub written_byte : ℕ → List ℕ
written_byte byte =
    written_letter (letter_of byte) (if nat_lt byte 32 then written_code byte else byte ∷ [])

-- a string: its bytes, between quotes
abbrev pub written_string : List ℕ → List ℕ
written_string bytes = 34 ∷ (flat_map written_byte bytes ++ 34 ∷ [])

-- the bytes after it begin with those before
abbrev pub Extends : List ℕ → List ℕ → Type 0
Extends before after = (more : List ℕ) × (after ≡ before ++ more)
