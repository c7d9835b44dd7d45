use Rattle.std.proofs.Common.{ap, refl}
use Rattle.schema.proofs.ChangeLemmas.{catalog-same}
use Rattle.schema.proofs.model.schemas.SchemaTypeOf.set_dialect.Goals as goal

pub returns : goal.returns
returns g c =
    catalog-same _ _ (ap (λ k. k.description) c.self.view_is) (ap (λ k. k.types) c.self.view_is) (ap (λ k. k.roots) c.self.view_is) (ap (λ k. k.directives) c.self.view_is) refl
