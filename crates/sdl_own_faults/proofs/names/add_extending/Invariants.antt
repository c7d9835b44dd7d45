use Rattle.std.proofs.Common.{◌≡◌, ◌++◌, take}
use Rattle.std.specs.List.{flat_map}
use Rattle.language_types.specs.References.{list_copied}
use Rattle.sdl_own_faults.specs.Names.{names_in}
use Rattle.sdl_own_faults.specs.Parts.{definitions_of}
use Rattle.sdl_own_faults.proofs.names.add_extending.Given as goal

-- those of what was seen
abbrev pub invariant-loop-extension : goal.invariant-loop-extension
invariant-loop-extension l = list_copied l.names.items ≡ list_copied l.initial.names.items ++ flat_map (names_in l.defined) (definitions_of (take l.extension-index l.listing))
