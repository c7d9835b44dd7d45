-- What a slot owns: the block of what it holds where it is open, and else nothing.
use mathlib.Core.Bool.{Bool, true, false}
use base.Stored.{Coded}
use Rattle.std.specs.Coded.{coded_option}
use base.Fml.{Fml, ftrue, ffalse}
use denote.RawPtr.{Ptr}
use Rattle.std.specs.Prelude.{Option, Some, None}
use Rattle.std.specs.Box.Ownership.{box_owns}
use Rattle.std.specs.Global.{Global}
use Rattle.std_heap.specs.contracts.GlobalAllocator.TheImpl.{ghosts}
use Rattle.schema_handle.specs.contracts.slot.Held.{the_row}

abbrev pub slot_owns : Global → Bool → Ptr → Option the_row.Denot → Fml
slot_owns g true p (Some x) = box_owns (ghosts.dealloc_token g) the_row p x
slot_owns g true p None = ffalse
slot_owns g false p (Some x) = ffalse
slot_owns g false p None = ftrue

abbrev pub held_coded : Coded (Option the_row.Denot)
held_coded = coded_option the_row.coded
