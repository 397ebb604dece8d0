-- Bytes in hexadecimal digits.
use Rattle.std.specs.Prelude.{ℕ, ◌/◌, ◌%◌, Bool, List, [], ◌∷◌}
use Rattle.std.specs.List.{flat_map}
use Rattle.std.specs.Fmt.{digit_glyph}

-- the two digits of a byte, in capitals if `upper` is set
abbrev pub two_digits : Bool → ℕ → List ℕ
two_digits upper byte = digit_glyph upper (byte / 16) ∷ digit_glyph upper (byte % 16) ∷ []

-- two digits for each byte
abbrev pub hex_text : Bool → List ℕ → List ℕ
hex_text upper bytes = flat_map (two_digits upper) bytes
