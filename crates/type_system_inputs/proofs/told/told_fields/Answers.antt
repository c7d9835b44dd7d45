use Rattle.std.proofs.lemmas.List.Elements.{All-get_or}
use Rattle.language_types.specs.References.{list_copied}
use Rattle.type_system_inputs.specs.Graph.{IsFieldLink}
use Rattle.type_system_inputs.proofs.told.told_fields.Goals as goal

pub told_field-requires : goal.told_field-requires
told_field-requires g c = All-get_or (IsFieldLink (list_copied c.args.types.now)) c.args.links.now c.loop-link.link-index _ c.loop-link-test.true c.requires
