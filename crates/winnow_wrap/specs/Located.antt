-- The parts of a stream that knows its location, and of its checkpoints. Contracts name these, and
-- never a field.
use Rattle.std.specs.Prelude.{◌≡◌, ℕ}
use Rattle.winnow_stream.specs.Checkpoint.{checkpoint_inner}
use Rattle.winnow_stream.specs.declared.checkpoint.Checkpoint.{Checkpoint}
use Rattle.winnow_stream.specs.declared.stream.Rest.{Ghosts}
use Rattle.winnow_wrap.specs.declared.located.LocatingSlice.{LocatingSlice}
use Rattle.winnow_wrap.specs.declared.located.Placed.{Placed}

module _ {I C : Type 0} {i : Ghosts I} {c : Ghosts C} where
  -- the stream inside
  abbrev pub locating_inner : LocatingSlice I C i c → I
  locating_inner s = s.input

  -- the start: the checkpoint of the stream inside at the place at which the stream was made
  abbrev pub located_start : LocatingSlice I C i c → C
  located_start s = s.start

  -- the location
  abbrev pub location_of : LocatingSlice I C i c → ℕ
  location_of s = s.location

  -- both the stream inside and the start may be used
  abbrev pub IsValidLocated : (I → Type 0) → (C → Type 0) → LocatingSlice I C i c → Type 0
  IsValidLocated valid valid_checkpoint s = valid (locating_inner s) × valid_checkpoint (located_start s)

  -- the start stays, and so does what no call changes inside
  abbrev pub KeepsLocated : (I → I → Type 0) → LocatingSlice I C i c → LocatingSlice I C i c
      → Type 0
  KeepsLocated keeps s t = (located_start s ≡ located_start t) × keeps (locating_inner s) (locating_inner t)

module _ {C : Type 0} {g : Ghosts C} where
  -- the checkpoint of the stream inside
  abbrev pub placed_inner : Placed C g → C
  placed_inner c = c.inner

  -- the location
  abbrev pub placed_location : Placed C g → ℕ
  placed_location c = c.location

-- the two parts of a `Checkpoint`
module _ {C S : Type 0} {g : Ghosts C} where
  abbrev pub inner_at : Checkpoint (Placed C g) S → C
  inner_at c = placed_inner (checkpoint_inner c)

  abbrev pub location_at : Checkpoint (Placed C g) S → ℕ
  location_at c = placed_location (checkpoint_inner c)
