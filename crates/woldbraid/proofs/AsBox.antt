-- A loose box and a handle own what the box of the reader owns.
use mir.Syntax.{impl, tnil, dnil}
use mathlib.Core.List.{[]}
use mathlib.Core.Path.{◌≡◌, refl}
use denote.Signature.{Slot, plain}
use Rattle.std.specs.Prelude.{Option, Some, None}
use Rattle.std_alloc.proofs.BoxSteps.Form.{Bx}
use Rattle.std_heap.specs.contracts.Global as Heap
use Rattle.std_heap.specs.contracts.GlobalAllocator.TheImpl.{ghosts, dict}
use Rattle.std_heap.proofs.Global.TheLaws as heap
use Rattle.woldbraid_readers.specs.contracts.kept.Kept as Kept
use Rattle.woldbraid_readers.proofs.kept.Kept.TheLaws as kept
use Rattle.woldbraid.specs.Handles.{HasReader}
use Rattle.woldbraid.specs.contracts.loose.Loose as Loose
use Rattle.woldbraid.specs.contracts.handle.Handle as Handle

-- the box of a reader
abbrev pub E : Bx
E = record { row = Kept.the_row; laws = kept.the_row_laws; al = record { row = Heap.the_row; laws = heap.the_row_laws; g = ghosts; d = dict; drops = impl [] tnil dnil } }

abbrev pub FromLoose : Slot 0
FromLoose = plain (λ _. Loose.the_row Kept.the_row Heap.the_row ghosts)

abbrev pub FromHandle : Slot 0
FromHandle = plain (λ _. Handle.the_row)

-- the reader, where there is one
pub reader_in : (value : Option Kept.the_row.Denot) → HasReader value
    → (kept : Kept.the_row.Denot) × (value ≡ Some kept)
reader_in None has = absurd has
reader_in (Some kept) has = (kept, refl)
