-- The lines that show a reply, of whatever version of the protocol.
use Rattle.std.specs.Prelude.{ℕ, ◌+◌, ◌-◌, ◌/◌, ◌%◌, ◌==◌, Bool, ◌&&◌, List, [], ◌∷◌, ◌++◌, length, replicate, decimal, codes, Option, None, Some, nat_lt, nat_le, if◌then◌else◌}
use Rattle.std.specs.List.{flat_map}

-- the digit of a number below 16
abbrev pub hex_digit : ℕ → ℕ
hex_digit n = if nat_lt n 10 then 48 + n else 97 + (n - 10)

-- what stands after a backslash for a byte with a short form: a quote, a backslash, a line feed, a
-- carriage return, a tab, a bell or a backspace
abbrev pub letter_after : ℕ → Option ℕ
letter_after b = if b == 34 then Some 34 else if b == 92 then Some 92 else if b == 10 then Some 110
    else if b == 13 then Some 114 else if b == 9 then Some 116 else if b == 7 then Some 97
    else if b == 8 then Some 98 else None

-- the byte is printed as it is
abbrev pub is_printable : ℕ → Bool
is_printable b = nat_le 32 b && nat_le b 126

-- a byte that has no short form: as it is, or after \x by two digits
abbrev pub plain_or_hex : ℕ → List ℕ
plain_or_hex b = if is_printable b then b ∷ [] else 92 ∷ 120 ∷ hex_digit (b / 16) ∷ hex_digit (b % 16) ∷ []

-- a byte with this short form, as it stands between quotes
abbrev pub escaped_as : Option ℕ → ℕ → List ℕ
escaped_as (Some letter) b = 92 ∷ letter ∷ []
escaped_as None b = plain_or_hex b

-- a byte as it stands between quotes
abbrev pub escaped : ℕ → List ℕ
escaped b = escaped_as (letter_after b) b

-- a line with bytes between quotes
abbrev pub quoted : List ℕ → List ℕ
quoted bytes = 34 ∷ flat_map escaped bytes ++ codes "\"\n"

-- a line with these two parts
abbrev pub line_of : List ℕ → List ℕ → List ℕ
line_of kind text = kind ++ text ++ 10 ∷ []

-- the margin, wider by this many spaces
abbrev pub widened : List ℕ → ℕ → List ℕ
widened margin more = margin ++ replicate more 32

-- the number of an entry, with spaces before it up to the width, and this mark after it
abbrev pub label : ℕ → ℕ → ℕ → List ℕ
label mark width n = replicate (width - length (decimal n)) 32 ++ decimal n ++ mark ∷ 32 ∷ []

-- what stands before the entry at this index: the margin, but for the first, and its number
abbrev pub entry_start : ℕ → List ℕ → ℕ → ℕ → List ℕ
entry_start mark margin width i = (if i == 0 then [] else margin) ++ label mark width (i + 1)

-- the entries from this index on, from how each is shown after a margin
abbrev pub entries : ℕ → List ℕ → ℕ → ℕ → List (List ℕ → List ℕ) → List ℕ
entries mark margin width i [] = []
entries mark margin width i (show ∷ shows) = entry_start mark margin width i
    ++ show (widened margin (width + 2)) ++ entries mark margin width (i + 1) shows

-- a list of these entries, numbered as wide as their number is; or this text, if there are none
abbrev pub list_shown : ℕ → List ℕ → List ℕ → List (List ℕ → List ℕ) → List ℕ
list_shown mark empty margin [] = line_of [] empty
list_shown mark empty margin (show ∷ shows) =
    entries mark margin (length (decimal (length (show ∷ shows)))) 0 (show ∷ shows)
