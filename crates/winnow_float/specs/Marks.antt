-- The characters of a float.
use Rattle.std.specs.Prelude.{ℕ, ◌==◌, Bool, ◌||◌, None}
use Rattle.std.specs.Char.{to_ascii_lowercase}
use Rattle.std.specs.Int.{is_in_range}
use Rattle.winnow_stream.specs.Source.{Source}
use Rattle.winnow_parser.specs.Outcome.{Meaning}
use Rattle.winnow_token.specs.TakeWhile.{TakesWhile}
use Rattle.winnow_float.specs.declared.mark.Mark.{Mark}
use Rattle.winnow_float.specs.declared.mark.Mark.TheVariants.{Sign, Point, Letter}

-- the character is a plus (43) or a minus (45), a point (46), or a small letter or its capital
abbrev pub is_mark : Mark → ℕ → Bool
is_mark Sign c = c == 43 || c == 45
is_mark Point c = c == 46
is_mark (Letter small) c = to_ascii_lowercase c == small

-- the character is a digit, from 48 to 57
abbrev pub is_digit : ℕ → Bool
is_digit c = is_in_range 48 57 c

-- all digits ahead, if there are at least the least count
abbrev pub IsDigits : {S T : Type 0} → (S → Source T → ℕ → Type 0) → (T → ℕ) → ℕ → Meaning S T
IsDigits is_slice code least = TakesWhile is_slice (λ token. is_digit (code token)) least None
