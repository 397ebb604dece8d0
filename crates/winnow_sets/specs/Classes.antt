-- Classes of ASCII characters for which std has no word, as tests of a character's number.
use Rattle.std.specs.Prelude.{ℕ, ◌==◌, Bool, ◌||◌}
use Rattle.std.specs.Int.{is_in_range}

-- one of the digits 0 to 7; 48 is '0'
abbrev pub is_ascii_oct_digit : ℕ → Bool
is_ascii_oct_digit c = is_in_range 48 55 c

-- a space or a tab
abbrev pub is_ascii_blank : ℕ → Bool
is_ascii_blank c = c == 32 || c == 9
