-- How colours are written.
use Rattle.std.specs.Prelude.{◌≡◌, ℕ, ◌+◌, ◌*◌, ◌<◌, List, [], ◌∷◌, ◌++◌}
use Rattle.std.specs.Char.{digit_value}
use Rattle.example_colors.specs.declared.Color.{Color}

-- the number of two hexadecimal digits
abbrev pub IsByteOf : ℕ → ℕ → ℕ → Type 0
IsByteOf high low n = (digit_value high < 16) × (digit_value low < 16)
    × (n ≡ 16 * digit_value high + digit_value low)

-- two hexadecimal digits write the number
abbrev pub WritesByte : ℕ → List ℕ → Type 0
WritesByte n text = (high : ℕ) × ((low : ℕ) × ((text ≡ high ∷ low ∷ []) × IsByteOf high low n))

-- a number sign and two digits each for red, green and blue write the colour
abbrev pub WritesColor : Color → List ℕ → Type 0
WritesColor color text = (red : List ℕ) × ((green : List ℕ) × ((blue : List ℕ)
    × ((text ≡ 35 ∷ (red ++ (green ++ blue))) × WritesByte color.red red
    × WritesByte color.green green × WritesByte color.blue blue)))
