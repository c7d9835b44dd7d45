use Rattle.std.proofs.Common.{◌≡◌, ◌++◌, take}
use Rattle.language_types.specs.References.{list_copied}
use Rattle.sdl_own_faults.specs.Names.{written_names}
use Rattle.sdl_own_faults.proofs.names.add_names.Given as goal

-- those of what was seen
abbrev pub invariant-loop-name : goal.invariant-loop-name
invariant-loop-name l = list_copied l.names.items ≡ list_copied l.initial.names.items ++ written_names (take l.name-index l.written)
