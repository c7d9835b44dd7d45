use Rattle.std.proofs.lemmas.List.Elements.{All-same}
use Rattle.language_types.specs.References.{list_copied}
use Rattle.type_system_inputs.specs.Graph.{IsFieldCircle, IsFieldLink}
use Rattle.type_system_inputs.proofs.Items.{item_of}
use Rattle.type_system_inputs.proofs.told.told_circles.Goals as goal

pub told_circle-requires-clause-fields : goal.told_circle-requires-clause-fields
told_circle-requires-clause-fields g c =
    let ts = list_copied c.args.types.now in
    let item : IsFieldCircle ts c.circle-item.result = item_of (IsFieldCircle ts) c.args.circles.now c.loop-circle.circle-index c.circle-item.result _ c.loop-circle-test.true c.circle-item.is c.requires in
    All-same (IsFieldLink ts) c.as_slice.result.now c.circle-item.result.links.items c.as_slice.ensures.value item.fields
