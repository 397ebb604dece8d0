-- What the handle of a writer owns.
use Rattle.std.specs.Prelude.{Option, Some, None, ⊤}
use base.Fml.{Fml, ftrue}
use base.Stored.{Coded}
use denote.RawPtr.{Ptr}
use Rattle.std.specs.Box.Ownership.{box_owns}
use Rattle.std.specs.Coded.{coded_option}
use Rattle.std.specs.Global.{Global}
use Rattle.std_heap.specs.contracts.GlobalAllocator.TheImpl.{ghosts}
use Rattle.woldbraid_writers.specs.contracts.writer.Writer.{the_row}

-- the writer in the box at the pointer, if there is one
abbrev pub handle_owns : Global → Ptr → Option the_row.Denot → Fml
handle_owns alloc at None = ftrue
handle_owns alloc at (Some writer) = box_owns (ghosts.dealloc_token alloc) the_row at writer

-- how the logic stores the writer: as that of its type
abbrev pub value_code : Coded (Option the_row.Denot)
value_code = coded_option the_row.coded

-- there is a writer
abbrev pub HasWriter : Option the_row.Denot → Type 0
HasWriter None = ⊥
HasWriter (Some writer) = ⊤
