use Rattle.std.proofs.Common.{ap, ◌∙◌}
use Rattle.std.specs.Prelude.{[], unwrap_or}
use Rattle.type_system.proofs.RootNames.{found-named}
use Rattle.type_system.proofs.root_types.query_name.Goals as goal

pub returns : goal.returns
returns g c =
    c.type_name.ensures
    ∙ ap (λ n. unwrap_or n []) (found-named c.args.schema.now c.args.schema.now.roots.query c.concrete_query_type.result.now c.concrete_query_type.ensures.root)
