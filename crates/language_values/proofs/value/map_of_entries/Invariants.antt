use Rattle.std.proofs.Common.{take}
use Rattle.language_values.specs.Values.{IsMapOf}
use Rattle.language_values.proofs.value.map_of_entries.Given as goal

abbrev pub invariant-loop-key : goal.invariant-loop-key
invariant-loop-key g l = IsMapOf l.map (take l.key-index l.entries)
