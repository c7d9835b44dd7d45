use Rattle.std.proofs.Common.{◌∙◌}
use Rattle.type_system.proofs.RootNames.{root-named}
use Rattle.type_system.proofs.root_types.mutation_name.Goals as goal

pub returns : goal.returns
returns g c =
    c.name_if_found.ensures
    ∙ root-named c.args.schema.now c.args.schema.now.roots.mutation c.concrete_mutation_type.result c.concrete_mutation_type.ensures.root c.concrete_mutation_type.ensures.asked
