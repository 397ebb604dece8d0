-- The numbers that hexadecimal digits write.
use Rattle.std.specs.Prelude.{◌≡◌, ℕ, ◌+◌, ◌*◌, ◌^◌, ◌<◌, ◌≤◌, nat_le, ◌==◌, Bool, ◌&&◌, not, List, length, Some, slice_index}
use Rattle.std.specs.Char.{is_ascii_hexdigit}
use Rattle.std.specs.Str.{IsUtf8}
use Rattle.std.specs.Str.Parse.{IsNumeral, digits_value}
use Rattle.winnow_stream.specs.Source.{Source}
use Rattle.winnow_stream.specs.Longer.{SlicesStay}
use Rattle.winnow_count.specs.Reading.{IsSomeExactly}
use Rattle.winnow_parser.specs.Outcome.{Meaning}
use Rattle.winnow_parser.specs.Laws.{IsParser}
use Rattle.winnow_parser.specs.Meanings.{VerifyMaps}
use Rattle.winnow_parser.specs.Parts.{IsParser-VerifyMaps}
use Rattle.winnow_token.specs.TakeWhile.{TakesWhile, IsParser-TakesWhile}

-- at most `nibbles` hexadecimal digits write n, which has four bits for each digit
abbrev pub ReadsHex : ℕ → List ℕ → ℕ → Type 0
ReadsHex nibbles ds n = IsNumeral 16 ds × (digits_value 16 ds ≡ n) × (length ds ≤ nibbles) × (n < 2 ^ (4 * nibbles))

-- the bytes are text that reads as the value
abbrev pub ReadsText : {R : Type 0} → (List ℕ → R → Type 0) → List ℕ → R → Type 0
ReadsText reads bytes value = IsUtf8 bytes × reads bytes value

-- the text has at most `nibbles` bytes, and does not begin with a plus (43)
abbrev pub may_be_digits : ℕ → List ℕ → Bool
may_be_digits nibbles text = nat_le (length text) nibbles && not (slice_index text 0 == 43)

-- the value that the slice of all hexadecimal digits ahead reads as; where it reads as none, the
-- parser backtracks, from where it began. One more digit than a value has is enough to see that
-- there are too many
abbrev pub IsHexUint : {S R T : Type 0} → (S → R → Type 0) → (S → Source T → ℕ → Type 0)
    → (T → ℕ) → ℕ → Meaning R T
IsHexUint reads is_slice code nibbles = VerifyMaps (λ slice value. IsSomeExactly (reads slice) value)
    (TakesWhile is_slice (λ token. is_ascii_hexdigit (code token)) 1 (Some (nibbles + 1)))

module _ {S R T : Type 0} (reads : S → R → Type 0) (is_slice : S → Source T → ℕ → Type 0) (stay : SlicesStay is_slice) (code : T → ℕ) (nibbles : ℕ) where
  -- `IsHexUint` keeps the laws of a parser
  pub IsParser-IsHexUint : IsParser (IsHexUint reads is_slice code nibbles)
  IsParser-IsHexUint =
      IsParser-VerifyMaps (λ slice value. IsSomeExactly (reads slice) value) _ (IsParser-TakesWhile is_slice stay _ 1 (Some (nibbles + 1)))
