use Rattle.schema.specs.Catalog.{type_in}
use Rattle.schema.proofs.ConcreteLemmas.{concrete-found}
use Rattle.schema.proofs.model.schemas.SchemaTypeOf.type_by_name.Goals as goal

pub returns-in-Some : goal.returns-in-Some
returns-in-Some g c = concrete-found c.in-Some.meta (type_in c.args.name.now c.args.self.now) c.in-Some.ensures
