-- What a handle owns.
use Rattle.std.specs.Prelude.{Option, Some, None, ⊤}
use base.Fml.{Fml, ftrue}
use base.Stored.{Coded}
use denote.RawPtr.{Ptr}
use Rattle.std.specs.Box.Ownership.{box_owns}
use Rattle.std.specs.Coded.{coded_option}
use Rattle.std.specs.Global.{Global}
use Rattle.std_heap.specs.contracts.GlobalAllocator.TheImpl.{ghosts}
use Rattle.woldbraid_readers.specs.contracts.kept.Kept.{the_row}

-- the reader in the box at the pointer, if there is one
abbrev pub handle_owns : Global → Ptr → Option the_row.Denot → Fml
handle_owns alloc at None = ftrue
handle_owns alloc at (Some kept) = box_owns (ghosts.dealloc_token alloc) the_row at kept

-- how the logic stores the reader: as that of its type
abbrev pub value_code : Coded (Option the_row.Denot)
value_code = coded_option the_row.coded

-- there is a reader
abbrev pub HasReader : Option the_row.Denot → Type 0
HasReader None = ⊥
HasReader (Some kept) = ⊤
