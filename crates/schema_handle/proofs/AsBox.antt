-- A slot and its parts own what a box of what is held owns.
use mir.Syntax.{impl, tnil, dnil}
use mathlib.Core.List.{[]}
use denote.Builtin.{RawPtr}
use denote.Signature.{Slot, plain}
use Rattle.std_alloc.proofs.BoxSteps.Form.{Bx}
use Rattle.std_heap.specs.contracts.Global as Heap
use Rattle.std_heap.specs.contracts.GlobalAllocator.TheImpl.{ghosts, dict}
use Rattle.std_heap.proofs.Global.TheLaws as heap
use Rattle.schema_handle.specs.contracts.slot.Held as Held
use Rattle.schema_handle.proofs.slot.Held.TheLaws as text
use Rattle.schema_handle.specs.contracts.parts.Parts as Parts
use Rattle.schema_handle.specs.contracts.slot.Slot as S

abbrev pub E : Bx
E = record { row = Held.the_row; laws = text.the_row_laws; al = record { row = Heap.the_row; laws = heap.the_row_laws; g = ghosts; d = dict; drops = impl [] tnil dnil } }

abbrev pub FromParts : Slot 0
FromParts = plain (λ _. Parts.the_row Held.the_row Heap.the_row ghosts)

abbrev pub FromSlot : Slot 0
FromSlot = plain (λ _. S.the_row)

abbrev pub FromAlloc : Slot 0
FromAlloc = plain (λ _. Heap.the_row)

abbrev pub FromPtr : Slot 0
FromPtr = plain (λ _. RawPtr)
