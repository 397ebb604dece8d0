-- The parts of numbers, as the reader goes through them byte by byte.
use Rattle.std.specs.Prelude.{ℕ, ◌==◌, Bool, true, false, if◌then◌else◌, List, [], ◌∷◌}
use Rattle.std.specs.Char.{is_ascii_digit}
use Rattle.format_json_scalars.specs.Numbers.{is_e, is_sign}
use Rattle.format_json_scalars.specs.declared.parts.Part.{Part}
use Rattle.format_json_scalars.specs.declared.parts.Part.TheVariants.{Begin, Minus, Nought, Whole, Point, Fraction, Letter, Sign, Exponent, Wrong}

-- the part that the first byte of a whole part makes
abbrev pub whole_part : ℕ → Part
whole_part byte = if 48 == byte then Nought else (if is_ascii_digit byte then Whole else Wrong)

-- the part that a byte makes after a fraction, unless it is one more digit
abbrev pub letter_part : ℕ → Part
letter_part byte = if is_e byte then Letter else Wrong

-- the part that a byte makes after a whole part, unless it is one more digit
abbrev pub tail_part : ℕ → Part
tail_part byte = if 46 == byte then Point else letter_part byte

-- the part that a byte makes where a digit of a power may stand
abbrev pub power_part : ℕ → Part
power_part byte = if is_ascii_digit byte then Exponent else Wrong

-- the part that a byte makes after another part
abbrev pub next_part : Part → ℕ → Part
next_part Begin byte = if 45 == byte then Minus else whole_part byte
next_part Minus byte = whole_part byte
next_part Nought byte = tail_part byte
next_part Whole byte = if is_ascii_digit byte then Whole else tail_part byte
next_part Point byte = if is_ascii_digit byte then Fraction else Wrong
next_part Fraction byte = if is_ascii_digit byte then Fraction else letter_part byte
next_part Letter byte = if is_sign byte then Sign else power_part byte
next_part Sign byte = power_part byte
next_part Exponent byte = power_part byte
next_part Wrong byte = Wrong

-- the part of the last of some bytes
abbrev pub run : Part → List ℕ → Part
run part [] = part
run part (byte ∷ bytes) = run (next_part part byte) bytes

-- a number may end with this part
abbrev pub is_last : Part → Bool
is_last Begin = false
is_last Minus = false
is_last Nought = true
is_last Whole = true
is_last Point = false
is_last Fraction = true
is_last Letter = false
is_last Sign = false
is_last Exponent = true
is_last Wrong = false

-- bytes with this last part begin no number
abbrev pub is_wrong : Part → Bool
is_wrong Begin = false
is_wrong Minus = false
is_wrong Nought = false
is_wrong Whole = false
is_wrong Point = false
is_wrong Fraction = false
is_wrong Letter = false
is_wrong Sign = false
is_wrong Exponent = false
is_wrong Wrong = true
