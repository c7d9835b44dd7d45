use Rattle.std.proofs.Common.{◌∙◌}
use Rattle.schema_validation.specs.Directives.{directive_name}
use Rattle.schema_validation.proofs.KeyedLemmas.{lookup-find}
use Rattle.schema.proofs.model.schemas.SchemaTypeOf.directive_by_name.Goals as goal

pub returns : goal.returns
returns g c = rw (← c.self.view_is) (c.get.ensures.value ∙ lookup-find directive_name c.args.name.now c.self.inside.directives.entries c.self.inside.directives_keyed)
