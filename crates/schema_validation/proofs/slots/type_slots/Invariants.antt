use Rattle.std.proofs.Common.{◌<◌, length}
use Rattle.schema_validation.proofs.slots.type_slots.Given as goal

abbrev pub invariant-loop-place : goal.invariant-loop-place
invariant-loop-place g l =
    (goal.iterator-loop-place g).can_next l.place-iterator × (goal.iterator-loop-place g).is_finite l.place-iterator × (0 < length l.slots.items)
