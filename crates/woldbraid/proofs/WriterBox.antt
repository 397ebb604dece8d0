-- A loose box and the handle of a writer own what the box of the writer owns.
use mir.Syntax.{impl, tnil, dnil}
use mathlib.Core.List.{[]}
use mathlib.Core.Path.{◌≡◌, refl}
use denote.Signature.{Slot, plain}
use Rattle.std.specs.Prelude.{Option, Some, None}
use Rattle.std_alloc.proofs.BoxSteps.Form.{Bx}
use Rattle.std_heap.specs.contracts.Global as Heap
use Rattle.std_heap.specs.contracts.GlobalAllocator.TheImpl.{ghosts, dict}
use Rattle.std_heap.proofs.Global.TheLaws as heap
use Rattle.woldbraid_writers.specs.contracts.writer.Writer as Writer
use Rattle.woldbraid_writers.proofs.writer.Writer.TheLaws as writer
use Rattle.woldbraid.specs.WriterHandles.{HasWriter}
use Rattle.woldbraid.specs.contracts.loose.Loose as Loose
use Rattle.woldbraid.specs.contracts.writer_handle.WriterHandle as WriterHandle

-- the box of a writer
abbrev pub E : Bx
E = record { row = Writer.the_row; laws = writer.the_row_laws; al = record { row = Heap.the_row; laws = heap.the_row_laws; g = ghosts; d = dict; drops = impl [] tnil dnil } }

abbrev pub FromLoose : Slot 0
FromLoose = plain (λ _. Loose.the_row Writer.the_row Heap.the_row ghosts)

abbrev pub FromWriter : Slot 0
FromWriter = plain (λ _. WriterHandle.the_row)

-- the writer, where there is one
pub writer_in : (value : Option Writer.the_row.Denot) → HasWriter value
    → (writer : Writer.the_row.Denot) × (value ≡ Some writer)
writer_in None has = absurd has
writer_in (Some writer) has = (writer, refl)
