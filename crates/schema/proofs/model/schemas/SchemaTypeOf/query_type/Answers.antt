use Rattle.std.proofs.Common.{◌∙◌}
use Rattle.schema.proofs.ConcreteLemmas.{concrete_of-Concrete}
use Rattle.schema.proofs.model.schemas.SchemaTypeOf.query_type.Goals as goal

pub returns : goal.returns
returns g c = concrete_of-Concrete c.concrete_query_type.result ∙ c.concrete_query_type.ensures.root
