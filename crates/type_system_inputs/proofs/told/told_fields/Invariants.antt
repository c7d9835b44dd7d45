use Rattle.std.proofs.Common.{◌≡◌, map, take}
use Rattle.language_types.specs.References.{list_copied}
use Rattle.type_system_inputs.specs.Graph.{field_of}
use Rattle.type_system_inputs.specs.Told.{field_name}
use Rattle.type_system_inputs.proofs.told.told_fields.Given as goal

-- the links that were seen are told
abbrev pub invariant-loop-link : goal.invariant-loop-link
invariant-loop-link g l = map field_name l.fields.items ≡ map (field_of (list_copied l.types)) (take l.link-index l.links)
