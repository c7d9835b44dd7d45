use Rattle.std.proofs.Common.{◌-◌, drop, length}
use Rattle.std.proofs.lemmas.List.Elements.{All-drop, All-get_or, All-take}
use Rattle.language_types.specs.References.{list_copied}
use Rattle.type_system_inputs.specs.Graph.{IsFieldLink}
use Rattle.type_system_inputs.proofs.told.told_circle.Goals as goal

pub told_field-first-requires : goal.told_field-first-requires
told_field-first-requires g c = All-get_or (IsFieldLink (list_copied c.args.types.now)) c.args.links.now 0 _ c.requires.some c.requires.fields

pub told_fields-requires : goal.told_fields-requires
told_fields-requires g c =
    let links = c.args.links.now in
    All-take (IsFieldLink (list_copied c.args.types.now)) (length links - 1) (drop 1 links) (All-drop (IsFieldLink (list_copied c.args.types.now)) 1 links c.requires.fields)
