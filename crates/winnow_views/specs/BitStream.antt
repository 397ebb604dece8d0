-- The meaning of a stream of bits, by the meaning of the stream of bytes inside.
use Rattle.std.specs.Prelude.{◌≡◌, ℕ, ◌*◌, ◌-◌, ◌+◌, Bool, Option, Some, None}
use Rattle.winnow_stream.specs.Source.{Source, width}
use Rattle.winnow_stream.specs.Checkpoint.{checkpoint_inner}
use Rattle.winnow_stream.specs.declared.checkpoint.Checkpoint.{Checkpoint}
use Rattle.winnow_views.specs.declared.bits.Bits.{Bits}
use Rattle.winnow_views.specs.declared.bits.BitPlace.{BitPlace}
use Rattle.winnow_views.specs.BitSource.{bits_from, IsBitSource}

-- the location of a place in a byte, in bits, by the location of the byte
abbrev pub location_in_bits : Option ℕ → ℕ → Option ℕ
location_in_bits None place = None
location_in_bits (Some bytes) place = Some (8 * bytes + place)

module _ {I : Type 0} where
  -- the stream of bytes, and the place in its first byte
  abbrev pub bits_inner : Bits I → I
  bits_inner s = s.input

  abbrev pub bits_place : Bits I → ℕ
  bits_place s = s.place

  -- the bits of the bytes that remain, from the place on
  abbrev pub bits_remaining : (I → Source ℕ) → Bits I → Source Bool
  bits_remaining remaining s = bits_from (remaining s.input) s.place

  -- the stream of bytes is valid, and its bits from the place on may be streamed
  abbrev pub IsValidBits : (I → Type 0) → (I → Source ℕ) → Bits I → Type 0
  IsValidBits valid remaining s = valid s.input × IsBitSource (remaining s.input) s.place

  -- the location in the whole input, in bits
  abbrev pub bits_location : (I → Option ℕ) → Bits I → Option ℕ
  bits_location place s = location_in_bits (place s.input) s.place

-- the same facts of a checkpoint, which also has the number of bits
module _ {C : Type 0} where
  abbrev pub bits_remained : (C → Source ℕ) → BitPlace C → Source Bool
  bits_remained remained c = bits_from (remained c.bytes) c.place

  abbrev pub IsValidPlace : (C → Type 0) → (C → Source ℕ) → BitPlace C → Type 0
  IsValidPlace valid remained c = valid c.bytes × IsBitSource (remained c.bytes) c.place × (c.count ≡ width (bits_remained remained c))

  abbrev pub bits_location_at : (C → Option ℕ) → BitPlace C → Option ℕ
  bits_location_at place c = location_in_bits (place c.bytes) c.place

  -- its number of bits is that of its bytes from its place on, which each valid checkpoint meets
  abbrev pub IsCounted : (C → ℕ) → BitPlace C → Type 0
  IsCounted rest_width c = c.count ≡ 8 * rest_width c.bytes - c.place

-- the two parts of a `Checkpoint`: the checkpoint of the bytes, and the place
module _ {I C : Type 0} where
  abbrev pub bytes_at : Checkpoint (BitPlace C) (Bits I) → C
  bytes_at c = (checkpoint_inner c).bytes

  abbrev pub place_at : Checkpoint (BitPlace C) (Bits I) → ℕ
  place_at c = (checkpoint_inner c).place
