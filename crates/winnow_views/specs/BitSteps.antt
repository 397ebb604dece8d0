-- The steps of `BitOffsets`, by the steps of the iterator of bytes.
use Rattle.std.specs.Prelude.{◌≡◌, ℕ, ◌+◌, ◌-◌, ◌*◌, ◌<◌, ◌≤◌, Bool, Option, Some, None}
use Rattle.winnow_views.specs.declared.bit_offsets.BitOffsets.{BitOffsets}
use Rattle.winnow_views.specs.BitSource.{bit_of}

module _ {J : Type 0} where
  -- the number of bits ahead, if this number of bytes is ahead
  abbrev pub bits_ahead : ℕ → BitOffsets J → ℕ
  bits_ahead bytes s = (8 - s.bit) + (8 * bytes - s.place)

  -- the iterator of bytes ended and no bit is left, or its next byte gave its first bit
  abbrev pub ReadsByte : BitOffsets J → Option (ℕ × ℕ) → Option (ℕ × Bool) → BitOffsets J → Type 0
  ReadsByte s None r t = (r ≡ None) × (t.bit ≡ 8)
  ReadsByte s (Some p) r t = (r ≡ Some (s.offset, bit_of p.1 s.place)) × (t.byte ≡ p.1) × (t.bit ≡ s.place + 1) × (t.place ≡ 0) × (t.offset ≡ s.offset + 1)

  -- a call gave the next bit of the current byte, or read the next byte
  abbrev pub BitStep : (J → Option (ℕ × ℕ) → J → Type 0) → BitOffsets J → Option (ℕ × Bool)
      → BitOffsets J → Type 0
  BitStep steps s r t =
      (s.bit < 8 → (r ≡ Some (s.offset, bit_of s.byte s.bit)) × (t.bytes ≡ s.bytes) × (t.byte ≡ s.byte) × (t.bit ≡ s.bit + 1) × (t.place ≡ s.place) × (t.offset ≡ s.offset + 1))
      × (8 ≤ s.bit → (x : Option (ℕ × ℕ)) × steps s.bytes x t.bytes × ReadsByte s x r t)
