-- The words of a line, and what each word means.
use Rattle.std.specs.Prelude.{◌≡◌, ◌⊎◌, ◌==◌, ◌^◌, ◌<◌, Bool, ℕ, List, [], ◌++◌, codes, length}
use Rattle.std.specs.Char.{IsScalar}
use Rattle.std.specs.List.{before_first, after_first, position_or_len, slice_split, AllZip}
use Rattle.std.specs.Str.Parse.{IsNumeral, digits_value}
use Rattle.winnow_match.specs.declared.needles.Needles.{Needles}
use Rattle.winnow_match.specs.declared.needles.Needles.TheVariants.{One, Two, Three}
use Rattle.winnow_script_lines.specs.Literals.{DenotesBytes}

abbrev pub is_space : ℕ → Bool
is_space byte = byte == 32

abbrev pub is_comma : ℕ → Bool
is_comma byte = byte == 44

-- the first word of a line
abbrev pub first_word : List ℕ → List ℕ
first_word line = before_first is_space line

-- the words that follow the first one
abbrev pub later_words : List ℕ → List ℕ
later_words line = after_first is_space line

-- a space stands in the line
abbrev pub HasSpace : List ℕ → Type 0
HasSpace line = position_or_len is_space line < length line

-- the word means this number, written in decimal digits; a number that does not fit is not meant
abbrev pub DenotesNumber : List ℕ → ℕ → Type 0
DenotesNumber word number =
    IsNumeral 10 word × (digits_value 10 word ≡ number) × (number < 2 ^ 64)

-- the word means this character, given by its number
abbrev pub DenotesChar : List ℕ → ℕ → Type 0
DenotesChar word number = DenotesNumber word number × IsScalar number

-- the word means the range of these two characters, with two dots between them
abbrev pub DenotesRange : List ℕ → ℕ × ℕ → Type 0
DenotesRange word range =
    (low : List ℕ) × (high : List ℕ) × (word ≡ low ++ codes ".." ++ high)
    × DenotesChar low range.0 × DenotesChar high range.1

-- the word means these ranges: none for `-`, and else those between its commas
abbrev pub DenotesRanges : List ℕ → List (ℕ × ℕ) → Type 0
DenotesRanges word ranges =
    ((word ≡ codes "-") × (ranges ≡ []))
    ⊎ AllZip DenotesRange (slice_split is_comma word) ranges

-- the words mean these needles, given by the bytes of each
module _ {L : Type 0} (bytes : L → List ℕ) where
  abbrev pub DenotesNeedles : List ℕ → Needles L → Type 0
  DenotesNeedles words (One a) = DenotesBytes words (bytes a)
  DenotesNeedles words (Two a b) =
      DenotesBytes (first_word words) (bytes a) × DenotesBytes (later_words words) (bytes b)
  DenotesNeedles words (Three a b c) =
      DenotesBytes (first_word words) (bytes a)
      × DenotesBytes (first_word (later_words words)) (bytes b)
      × DenotesBytes (later_words (later_words words)) (bytes c)
