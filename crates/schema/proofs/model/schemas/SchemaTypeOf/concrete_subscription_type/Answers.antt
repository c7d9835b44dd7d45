use Rattle.std.proofs.Common.{◌≡◌, Some, is_some, option_map, string_bytes, ap, sym, ◌∙◌}
use Rattle.schema.proofs.RootLemmas.{subscription-listed, root-is, root-found}
use Rattle.schema.proofs.model.schemas.SchemaTypeOf.concrete_subscription_type.Goals as goal

pub returns-in-Some-clause-root : goal.returns-in-Some-clause-root
returns-in-Some-clause-root g c =
    let n = string_bytes c.in-Some.name in
    let asked : c.args.self.now.roots.subscription ≡ Some n = sym (ap (λ k. k.roots.subscription) c.self.view_is) ∙ ap (option_map string_bytes) c.in-Some.is in
    root-is c.args.self.now n c.args.self.now.roots.subscription c.concrete_type_by_name.result c.as_str.result.now asked c.as_str.ensures.value c.concrete_type_by_name.ensures

pub returns-in-Some-clause-asked : goal.returns-in-Some-clause-asked
returns-in-Some-clause-asked g c =
    let n = string_bytes c.in-Some.name in
    let asked : c.args.self.now.roots.subscription ≡ Some n = sym (ap (λ k. k.roots.subscription) c.self.view_is) ∙ ap (option_map string_bytes) c.in-Some.is in
    (λ _. ap is_some asked, λ _. root-found c.args.self.now n c.concrete_type_by_name.result c.as_str.result.now c.as_str.ensures.value (subscription-listed c.args.self.now n asked) c.concrete_type_by_name.ensures)
