-- A slot may go to another thread, since what it holds may.
use mathlib.Core.Bool.{Bool, true, false}
use base.Shift.{Keyless}
use mir.Raw.{raw}
use denote.Memory.{lone}
use denote.RawPtr.{Ptr}
use denote.Struct.Struct.{exits_of}
use denote.Struct.Owning.{shape, fields, to}
use denote.Param.Send.{IsSend, AllSend, owning_send, struct_send, sendable}
use Rattle.std.specs.Prelude.{Option, Some, None}
use Rattle.std.specs.Global.{Global}
use Rattle.std.proofs.Crossing as heap
use Rattle.std_alloc.proofs.SendSync.{quiet, lies}
use Rattle.std_heap.proofs.Global.TheSendSync as handle
use Rattle.schema_handle.specs.Slots.{slot_owns}
use Rattle.schema_handle.specs.contracts.slot.Held as Held
use Rattle.schema_handle.proofs.Crossing.{held_send}
use Rattle.schema_handle.specs.contracts.slot.Slot.{the_row, the_type}

keyless : (a : Global) (o : Bool) (p : Ptr) (m : Option Held.the_row.Denot) → Keyless (slot_owns a o p m)
keyless a true p (Some x) = (lies Held.the_row held_send p x, heap.frees.frees a (raw (lone Held.the_row.mir)) p)
keyless a true p None = tt
keyless a false p (Some x) = tt
keyless a false p None = tt

pub send : IsSend the_row
send =
    let all : AllSend (fields the_type) = (search sendable, (search sendable, (handle.the_field_send, tt))) in
    owning_send the_type all (λ d. keyless d.alloc d.is_open d.at d.value)
    (λ k. quiet (to the_type) (exits_of k (fields the_type)) ((struct_send (shape the_type) all).leaving k))
