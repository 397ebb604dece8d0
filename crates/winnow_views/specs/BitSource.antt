-- The bits of a source of bytes, from a place in its first byte on.
use Rattle.std.specs.Prelude.{◌≡◌, ℕ, ◌+◌, ◌-◌, ◌/◌, ◌%◌, ◌^◌, ◌<◌, ◌==◌, Bool, List, [], ◌∷◌, ◌++◌, drop, IsTrue, ⊤}
use Rattle.winnow_stream.specs.Source.{Source, units, width}
use Rattle.winnow_stream.specs.Front.{is_offset, front}

-- each width is 1
abbrev pub HasUnits : {T : Type 0} → Source T → Type 0
HasUnits [] = ⊤
HasUnits (x ∷ xs) = (x.1 ≡ 1) × HasUnits xs

-- bit j of the byte b
abbrev pub bit_of : ℕ → ℕ → Bool
bit_of b j = (b / 2 ^ j) % 2 == 1

-- the bits of a byte, the lowest first
abbrev pub byte_bits : ℕ → List Bool
byte_bits b = bit_of b 0 ∷ bit_of b 1 ∷ bit_of b 2 ∷ bit_of b 3 ∷ bit_of b 4 ∷ bit_of b 5 ∷ bit_of b 6 ∷ bit_of b 7 ∷ []

-- the bits of bytes, byte after byte
abbrev pub bits_of : Source ℕ → List Bool
bits_of [] = []
bits_of (x ∷ xs) = byte_bits x.0 ++ bits_of xs

-- the bits of bytes from a place on, as tokens of width 1
abbrev pub bits_from : Source ℕ → ℕ → Source Bool
bits_from bytes place = units (drop place (bits_of bytes))

-- the bits of these bytes from this place on may be streamed: each byte has width 1, the place is
-- in the first byte and is 0 if there is none, and the number of bits is a `usize`
pub record IsBitSource (bytes : Source ℕ) (place : ℕ) : Type 0 where
  pub units : HasUnits bytes
  pub below : place < 8
  pub at_end : bytes ≡ [] → place ≡ 0
  pub fits : width (bits_from bytes place) < 2 ^ 64

-- the place at which a list of bits begins in its first byte: the number below 8 that, with the
-- number of bits, makes whole bytes
abbrev pub bit_place : Source Bool → ℕ
bit_place r = (8 - width r % 8) % 8

module _ {S : Type 0} (is_slice : S → Source ℕ → ℕ → Type 0) where
  -- s is the slice of n bits from a place in these bytes: the slice of the whole bytes, the place
  -- in the first of them at which the bits begin, and the number of bits that are also taken of the
  -- next byte
  abbrev pub IsBitSliceAt : S × ℕ × ℕ → Source ℕ → ℕ → ℕ → Type 0
  IsBitSliceAt s bytes place n = is_slice s.0 bytes ((n + place) / 8) × (s.1 ≡ place) × (s.2 ≡ (n + place) % 8)

  -- s is the slice of width n of a list of bits: some bytes have at least n bits from the place of
  -- s on, the first n of these are the front of the list, and s is their slice of these bytes
  abbrev pub IsBitSlice : S × ℕ × ℕ → Source Bool → ℕ → Type 0
  IsBitSlice s r n = (bytes : Source ℕ) × IsBitSource bytes s.1 × IsTrue (is_offset (bits_from bytes s.1) n)
      × (front r n ≡ front (bits_from bytes s.1) n) × IsBitSliceAt s bytes s.1 n

  -- s is the slice of width n of a list of bits, taken at the place at which the list begins: the
  -- list is all that some bytes have from the place of s on, and s is their slice
  abbrev pub IsBitSliceFrom : S × ℕ × ℕ → Source Bool → ℕ → Type 0
  IsBitSliceFrom s r n = (bytes : Source ℕ) × IsBitSource bytes s.1 × (r ≡ bits_from bytes s.1) × IsBitSliceAt s bytes s.1 n
