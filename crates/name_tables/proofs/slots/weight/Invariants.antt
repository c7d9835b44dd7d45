use Rattle.std.proofs.Common.{◌≡◌, take}
use Rattle.name_tables.specs.Slots.{weight}
use Rattle.name_tables.proofs.slots.weight.Given as goal

abbrev pub invariant-loop-byte : goal.invariant-loop-byte
invariant-loop-byte l = l.sum ≡ weight (take l.byte-index l.bytes)
