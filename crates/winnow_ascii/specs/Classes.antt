-- The classes of ASCII characters, as tests of a character's code.
use Rattle.std.specs.Prelude.{◌≡◌, ℕ, ◌==◌, Bool, ◌||◌, None}
use Rattle.std.specs.Char.{is_ascii_alphabetic, is_ascii_digit, is_ascii_alphanumeric, is_ascii_hexdigit}
use Rattle.winnow_sets.specs.Classes.{is_ascii_oct_digit, is_ascii_blank}
use Rattle.winnow_stream.specs.Source.{Source}
use Rattle.winnow_count.specs.CountRange.{HasCounts}
use Rattle.winnow_parser.specs.Outcome.{Meaning}
use Rattle.winnow_token.specs.TakeWhile.{TakesWhile}
use Rattle.winnow_token.specs.declared.parsers.take_while.TakeWhile.{TakeWhile}
use Rattle.winnow_ascii.specs.declared.class.Class.{Class}
use Rattle.winnow_ascii.specs.declared.class.Class.TheVariants.{Alpha, Digit, Alphanumeric, HexDigit, OctDigit, Space, Multispace}

-- a space, a tab, a carriage return (13) or a newline (10)
abbrev pub is_ascii_multispace : ℕ → Bool
is_ascii_multispace c = is_ascii_blank c || (c == 13 || c == 10)

-- the class has the character
abbrev pub is_in_class : Class → ℕ → Bool
is_in_class Alpha c = is_ascii_alphabetic c
is_in_class Digit c = is_ascii_digit c
is_in_class Alphanumeric c = is_ascii_alphanumeric c
is_in_class HexDigit c = is_ascii_hexdigit c
is_in_class OctDigit c = is_ascii_oct_digit c
is_in_class Space c = is_ascii_blank c
is_in_class Multispace c = is_ascii_multispace c

-- the parser takes all characters of the class ahead, if there are at least the least count
abbrev pub TakesAll : Class → ℕ → TakeWhile Class → Type 0
TakesAll class least p = (p.set ≡ class) × HasCounts least None p.counts

-- the meaning of such a parser, for tokens that stand for characters
abbrev pub AllOf : {S T : Type 0} → (S → Source T → ℕ → Type 0) → (T → ℕ) → Class → ℕ → Meaning S T
AllOf is_slice code class least = TakesWhile is_slice (λ token. is_in_class class (code token)) least None
