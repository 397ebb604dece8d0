-- What the reader of strings finds at a backslash.
use Rattle.std.specs.Prelude.{◌≡◌, ◌≢◌, ℕ, ◌<◌, ◌≤◌, List, [], ◌∷◌, ◌++◌, length, take, get_or}
use Rattle.format_json_scalars.specs.Strings.{SpellsChar, AreHex, hex_number, IsLow}
use Rattle.format_json_scalars.specs.StringAnswers.{BeginsChar}
use Rattle.format_json_scalars.specs.declared.escapes.Escape.{Escape}
use Rattle.format_json_scalars.specs.declared.escapes.Escape.TheVariants.{Whole, Begun, Wrong}

-- some more bytes make the bytes the spelling of a character
abbrev pub MayBeChar : List ℕ → Type 0
MayBeChar bytes = (more : List ℕ) × ((c : ℕ) × ((more ≢ []) × SpellsChar c (bytes ++ more)))

-- no matter what follows the bytes, they do not begin with the spelling of a character
abbrev pub IsNoChar : List ℕ → Type 0
IsNoChar bytes = (more : List ℕ) → ¬ (BeginsChar (bytes ++ more))

-- the bytes begin with the spelling of a character, which has n bytes; or they may be the spelling
-- of one; or no character begins there
abbrev pub IsEscape : List ℕ → Escape → Type 0
IsEscape bytes (Whole c n) = (0 < n) × (n ≤ length bytes) × SpellsChar c (take n bytes)
IsEscape bytes Begun = MayBeChar bytes
IsEscape bytes Wrong = IsNoChar bytes

-- the same of any bytes that write the first of two surrogates, and of the bytes after them
abbrev pub IsPair : ℕ → List ℕ → Escape → Type 0
IsPair high rest answer = (a b c d : ℕ) → AreHex a b c d → high ≡ hex_number a b c d
    → IsEscape (92 ∷ 117 ∷ a ∷ b ∷ c ∷ d ∷ rest) answer

-- the number of the second surrogate that the bytes write; each byte that is missing is taken to be
-- the one that `\uDC00` has there
abbrev pub low_number : List ℕ → ℕ
low_number rest =
    hex_number (get_or rest 2 68) (get_or rest 3 67) (get_or rest 4 48) (get_or rest 5 48)

-- the bytes, with those that are missing, are the escape of a second surrogate
abbrev pub FillsLow : List ℕ → Type 0
FillsLow rest = (get_or rest 0 92 ≡ 92) × (get_or rest 1 117 ≡ 117)
    × AreHex (get_or rest 2 68) (get_or rest 3 67) (get_or rest 4 48) (get_or rest 5 48)
    × IsLow (low_number rest)

-- the number that the first four digits write; each digit that is missing is taken to be a zero
abbrev pub code_number : List ℕ → ℕ
code_number rest =
    hex_number (get_or rest 0 48) (get_or rest 1 48) (get_or rest 2 48) (get_or rest 3 48)

-- these are digits, and their number is not that of a second surrogate
abbrev pub FillsCode : List ℕ → Type 0
FillsCode rest = AreHex (get_or rest 0 48) (get_or rest 1 48) (get_or rest 2 48) (get_or rest 3 48)
    × ¬ (IsLow (code_number rest))
