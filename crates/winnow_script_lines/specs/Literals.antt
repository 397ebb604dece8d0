-- The words for bytes.
use Rattle.std.specs.Prelude.{◌≡◌, ◌⊎◌, ℕ, ◌%◌, ◌≤◌, List, [], Ok, codes, length}
use Rattle.std.specs.List.{AllPass}
use Rattle.hex.specs.Hex.{is_hex_digit, decode_of}

-- hexadecimal digits, two for each byte, and one byte at least
abbrev pub IsHexWord : List ℕ → Type 0
IsHexWord word = (2 ≤ length word) × (length word % 2 ≡ 0) × AllPass is_hex_digit word

-- the word means these bytes: none for `-`, and else those of its digits
abbrev pub DenotesBytes : List ℕ → List ℕ → Type 0
DenotesBytes word bytes =
    ((word ≡ codes "-") × (bytes ≡ [])) ⊎ (IsHexWord word × (decode_of word ≡ Ok bytes))

-- the word means this literal, given by its bytes
abbrev pub DenotesLiteral : {L : Type 0} → (L → List ℕ) → List ℕ → L → Type 0
DenotesLiteral bytes word literal = DenotesBytes word (bytes literal)
