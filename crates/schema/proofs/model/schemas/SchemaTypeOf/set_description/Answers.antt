use Rattle.std.proofs.Common.{Some, ap}
use Rattle.schema.proofs.ChangeLemmas.{catalog-same}
use Rattle.schema.proofs.model.schemas.SchemaTypeOf.set_description.Goals as goal

pub returns-clause-ok : goal.returns-clause-ok
returns-clause-ok g c =
    catalog-same _ _ (ap (λ x. Some x) c.in_ok-kept.ensures.ok) (ap (λ k. k.types) c.self.view_is) (ap (λ k. k.roots) c.self.view_is) (ap (λ k. k.directives) c.self.view_is) (ap (λ k. k.dialect) c.self.view_is)
