use Rattle.std.proofs.Common.{◌∙◌}
use Rattle.meta.specs.Kinds.{name_of_meta}
use Rattle.schema_validation.proofs.KeyedLemmas.{lookup-find}
use Rattle.schema.proofs.model.schemas.SchemaTypeOf.concrete_type_by_name.Goals as goal

pub returns-in-None : goal.returns-in-None
returns-in-None g c = rw (← c.self.view_is) (c.get.ensures.value ∙ lookup-find name_of_meta c.args.name.now c.self.inside.types.entries c.self.inside.keyed)
