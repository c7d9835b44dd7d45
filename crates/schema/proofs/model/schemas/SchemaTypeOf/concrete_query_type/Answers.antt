use Rattle.std.proofs.Common.{◌≡◌, Some, None, true, option_copied, ap, sym, subst, ◌∙◌}
use Rattle.schema.specs.Catalog.{type_in}
use Rattle.meta.specs.Kinds.{name_of_meta, is_object_meta}
use Rattle.schema.proofs.AcceptedLemmas.{find-kind}
use Rattle.schema.proofs.model.schemas.SchemaTypeOf.concrete_query_type.Goals as goal

pub unreachable-requires : goal.unreachable-requires
unreachable-requires g c =
    let s = c.args.self.now in
    let same : c.as_str.result.now ≡ s.roots.query = c.as_str.ensures.value ∙ ap (λ k. k.roots.query) c.self.view_is in
    let none : type_in s.roots.query s ≡ None = sym (ap (λ n. type_in n s) same) ∙ sym c.concrete_type_by_name.ensures ∙ ap option_copied c.in-None.is in
    let found = find-kind name_of_meta is_object_meta s.roots.query s.types s.accepted.distinct s.accepted.query_object in
    let some : type_in s.roots.query s ≡ Some found.0 = found.1 in
    cc

pub returns-clause-root : goal.returns-clause-root
returns-clause-root g c =
    let s = c.args.self.now in
    let same : c.as_str.result.now ≡ s.roots.query = c.as_str.ensures.value ∙ ap (λ k. k.roots.query) c.self.view_is in
    c.in-Some.ensures ∙ ap (λ n. type_in n s) same

pub returns-clause-object : goal.returns-clause-object
returns-clause-object g c =
    let s = c.args.self.now in
    let same : c.as_str.result.now ≡ s.roots.query = c.as_str.ensures.value ∙ ap (λ k. k.roots.query) c.self.view_is in
    let root : Some c.in-Some.meta.now ≡ type_in s.roots.query s = c.in-Some.ensures ∙ ap (λ n. type_in n s) same in
    let found = find-kind name_of_meta is_object_meta s.roots.query s.types s.accepted.distinct s.accepted.query_object in
    let some : type_in s.roots.query s ≡ Some found.0 = found.1 in
    let one : found.0 ≡ c.in-Some.meta.now = cc in
    subst (λ x. is_object_meta x ≡ true) one found.2
