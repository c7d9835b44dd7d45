use Rattle.std.proofs.Common.{◌≡◌, ◌++◌, take}
use Rattle.std.specs.List.{flat_map}
use Rattle.sdl_directive_circles.specs.Uses.{name_values, type_used}
use Rattle.sdl_directive_circles.proofs.uses.add_types.Given as goal

-- those of what was seen
abbrev pub invariant-loop-value : goal.invariant-loop-value
invariant-loop-value l = name_values l.uses.items ≡ name_values l.initial.uses.items ++ flat_map type_used (take l.value-index l.values)
