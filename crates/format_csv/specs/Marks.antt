-- Byte order marks before the first record: EF BB BF is that of UTF-8, FE FF and FF FE are those of
-- UTF-16, and 00 00 FE FF and FF FE 00 00 those of UTF-32.
use Rattle.std.specs.Prelude.{◌≡◌, ◌≢◌, ℕ, nat_lt, Bool, true, false, ◌||◌, ◌&&◌, if◌then◌else◌, List, [], ◌∷◌, ◌++◌, length, Option, Some, None, codes, ◌⊎◌}
use Rattle.std.specs.List.{starts_with}
use Rattle.std.proofs.Math.Dec.{eqb}
use Rattle.winnow_reader.specs.Reading.{MayFollow}
use Rattle.format_csv.specs.declared.marks.Mark.{Mark}
use Rattle.format_csv.specs.declared.marks.Mark.TheVariants.{Utf8, Utf16, Utf32}

-- the mark of UTF-8
abbrev pub utf8_mark : List ℕ
utf8_mark = 239 ∷ 187 ∷ 191 ∷ []

-- the bytes begin with these
abbrev pub begins : List ℕ → List ℕ → Bool
begins mark bytes = starts_with eqb bytes mark

-- the mark with which the bytes begin, the longest where two do
abbrev pub mark_of : List ℕ → Option Mark
mark_of bytes =
    if begins utf8_mark bytes then Some Utf8
    else (if begins (0 ∷ 0 ∷ 254 ∷ 255 ∷ []) bytes || begins (255 ∷ 254 ∷ 0 ∷ 0 ∷ []) bytes then Some Utf32
    else (if begins (254 ∷ 255 ∷ []) bytes || begins (255 ∷ 254 ∷ []) bytes then Some Utf16 else None))

-- the mark begins with the bytes, and is longer
abbrev pub is_cut : List ℕ → List ℕ → Bool
is_cut mark bytes = begins bytes mark && nat_lt (length bytes) (length mark)

-- the bytes end inside a mark, and more of them may make it
abbrev pub ends_in_mark : List ℕ → Bool
ends_in_mark bytes = is_cut utf8_mark bytes || (is_cut (0 ∷ 0 ∷ 254 ∷ 255 ∷ []) bytes
    || (is_cut (255 ∷ 254 ∷ 0 ∷ 0 ∷ []) bytes || is_cut (254 ∷ 255 ∷ []) bytes))

-- the text of an input is all of it, where no mark stands before it; where marks are skipped, it is
-- what follows one of UTF-8
abbrev pub HasText : Bool → List ℕ → List ℕ → Type 0
HasText skips input text = ((mark_of input ≡ None) × (text ≡ input))
    ⊎ ((skips ≡ true) × (input ≡ utf8_mark ++ text))

-- the input has no text, for this mark before it
abbrev pub IsRefused : Bool → List ℕ → Mark → Type 0
IsRefused skips input mark = (mark_of input ≡ Some mark) × (skips ≡ true → mark ≢ Utf8)

-- no matter what follows, the text of the bytes and that is this one and that
abbrev pub BeginsText : Bool → Bool → List ℕ → List ℕ → Type 0
BeginsText skips ended bytes text = (more : List ℕ) → MayFollow ended more false
    → HasText skips (bytes ++ more) (text ++ more)

-- no matter what follows, the bytes and that have no text, for this mark
abbrev pub RefusesText : Bool → Bool → List ℕ → Mark → Type 0
RefusesText skips ended bytes mark = (more : List ℕ) → MayFollow ended more false
    → IsRefused skips (bytes ++ more) mark

-- the text of a mark
abbrev pub mark_text : Mark → List ℕ
mark_text Utf8 = codes "a byte order mark stands before the first record"
mark_text Utf16 = codes "a byte order mark of UTF-16 stands before the first record"
mark_text Utf32 = codes "a byte order mark of UTF-32 stands before the first record"
