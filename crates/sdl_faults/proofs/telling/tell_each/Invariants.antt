use Rattle.std.proofs.Common.{◌≡◌, ◌++◌, map, take}
use Rattle.sdl_faults.specs.Told.{told_values}
use Rattle.sdl_faults.proofs.telling.tell_each.Given as goal

-- those so far were told
abbrev pub invariant-loop-fault : goal.invariant-loop-fault
invariant-loop-fault g l = told_values l.told.items ≡ told_values l.initial.told.items ++ map (g.F.Tell.telling l.document) (take l.fault-index l.faults)
