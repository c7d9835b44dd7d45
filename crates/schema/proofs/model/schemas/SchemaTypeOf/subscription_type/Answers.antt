use Rattle.schema.specs.Catalog.{root_in}
use Rattle.schema.proofs.ConcreteLemmas.{concrete-found}
use Rattle.schema.proofs.model.schemas.SchemaTypeOf.subscription_type.Goals as goal

pub returns-in-Some-clause-root : goal.returns-in-Some-clause-root
returns-in-Some-clause-root g c = concrete-found c.in-Some.meta (root_in c.args.self.now.roots.subscription c.args.self.now) c.in-Some.ensures.root
