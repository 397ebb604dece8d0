-- The numbers that bytes write.
use Rattle.std.specs.Prelude.{◌≡◌, ℕ, ◌+◌, ◌-◌, ◌*◌, ◌^◌, ℤ, pos, negsuc, cond, nat_le, Bool, List, [], ◌∷◌, length, take, drop}
use Rattle.std.proofs.Common.{ap, sym, ◌∙◌}
use Rattle.winnow_stream.specs.Source.{Source, width}
use Rattle.winnow_stream.specs.Front.{front}
use Rattle.winnow_stream.specs.Location.{location_behind}
use Rattle.winnow_stream.specs.Longer.{SlicesStay, front-longer}
use Rattle.winnow_match.specs.Bytes.{bytes_of}
use Rattle.winnow_parser.specs.Outcome.{Ahead, Meaning}
use Rattle.winnow_parser.specs.Laws.{IsParser}
use Rattle.winnow_parser.specs.Meanings.{Maps}
use Rattle.winnow_parser.specs.Parts.{IsParser-Maps}
use Rattle.winnow_token.specs.Take.{Takes, IsParser-Takes}
use Rattle.winnow_binary.specs.declared.endianness.Endianness.{Endianness}
use Rattle.winnow_binary.specs.declared.endianness.Endianness.TheVariants.{Big, Little, Native}
use Rattle.winnow_binary.specs.declared.endianness.Width.{Width}
use Rattle.winnow_binary.specs.declared.endianness.Width.TheVariants.{One, Two, Four, Eight}

-- the number that bytes write, the most significant first
abbrev pub most_first : List ℕ → ℕ
most_first [] = 0
most_first (x ∷ xs) = x * 256 ^ length xs + most_first xs

-- the number that bytes write, the least significant first
abbrev pub least_first : List ℕ → ℕ
least_first [] = 0
least_first (x ∷ xs) = x + 256 * least_first xs

-- the number that bytes write in this order; that of the machine has the least significant first
abbrev pub number_in : Endianness → List ℕ → ℕ
number_in Big xs = most_first xs
number_in Little xs = least_first xs
number_in Native xs = least_first xs

-- the number of which the first bytes write x, and `count` more bytes write y
abbrev pub joined : Endianness → ℕ → ℕ → ℕ → ℕ
joined Big count x y = x * 256 ^ count + y
joined Little count x y = x + 256 ^ count * y
joined Native count x y = x + 256 ^ count * y

-- the value of which n is the two's complement in three bytes: n itself below 2^23, and n - 2^24
-- from there on
abbrev pub signed_three : ℕ → ℤ
signed_three n = cond (nat_le 8388608 n) (negsuc (16777215 - n)) (pos n)

-- the number of bytes of this width
abbrev pub bytes_in : Width → ℕ
bytes_in One = 1
bytes_in Two = 2
bytes_in Four = 4
bytes_in Eight = 8

-- the place after k tokens
abbrev pub after_tokens : {T : Type 0} → ℕ → Ahead T → Ahead T
after_tokens k a = record { location = location_behind a.location (width (take k a.tokens)); tokens = drop k a.tokens }

-- the bytes are those of the front of width n
abbrev pub AreFrontBytes : List ℕ → Source ℕ → ℕ → Type 0
AreFrontBytes bytes r n = bytes ≡ bytes_of (front r n)

-- the value of the number that the next `count` bytes write; where fewer remain, the parser needs
-- the missing ones if more may follow, and backtracks, from where it began, if nothing may
abbrev pub FixedNumeral : {N : Type 0} → Bool → ℕ → (ℕ → N) → Endianness → Meaning N ℕ
FixedNumeral counts_shortage count of order =
    Maps (λ bytes n. n ≡ of (number_in order bytes)) (Takes counts_shortage AreFrontBytes count)

-- ---- The laws

-- the bytes of a front stay the same when more input follows
pub SlicesStay-bytes : SlicesStay AreFrontBytes
SlicesStay-bytes bytes r more n offset e = e ∙ ap bytes_of (sym (front-longer r more n offset))

module _ {N : Type 0} (counts_shortage : Bool) (count : ℕ) (of : ℕ → N) (order : Endianness) where
  -- `FixedNumeral` keeps the laws of a parser
  pub IsParser-FixedNumeral : IsParser (FixedNumeral counts_shortage count of order)
  IsParser-FixedNumeral = IsParser-Maps (λ bytes n. n ≡ of (number_in order bytes)) _
      (IsParser-Takes counts_shortage AreFrontBytes SlicesStay-bytes count)
