use Rattle.std.proofs.Common.{◌≡◌, true, map, ap, sym, subst, ◌∙◌}
use Rattle.std.specs.Prelude.{IsPermutation, IsSorted}
use Rattle.std.proofs.lemmas.Result.{IfOk-weaker}
use Rattle.meta.specs.Kinds.{name_of_meta}
use Rattle.schema_validation.specs.Named.{are_distinct}
use Rattle.schema.specs.Ordered.{type_cmp, metas_of}
use Rattle.schema.specs.Wrapped.{plain_meta, wrapped_of}
use Rattle.schema.proofs.DistinctLemmas.{distinct-permuted}
use Rattle.schema.proofs.OrderLemmas.{metas-plain, plain-metas}
use Rattle.schema.proofs.model.schemas.SchemaTypeOf.type_list.Goals as goal

pub returns-clause-plain : goal.returns-clause-plain
returns-clause-plain g c =
    IfOk-weaker c.plain_types.result (λ v. map wrapped_of v.items ≡ map (λ r. plain_meta r.now) c.as_slice.result.now) (λ v. map wrapped_of v.items ≡ map plain_meta (metas_of v.items))
    (λ v h. plain-metas v.items c.as_slice.result.now h) c.plain_types.ensures

pub returns-clause-permutation : goal.returns-clause-permutation
returns-clause-permutation g c =
    let rs = c.sort_types.new.metas.items in
    IfOk-weaker c.plain_types.result (λ v. map wrapped_of v.items ≡ map (λ r. plain_meta r.now) c.as_slice.result.now) (λ v. IsPermutation c.args.self.now.types (metas_of v.items))
    (λ v h. subst (IsPermutation c.args.self.now.types) (ap (map (λ r. r.now)) (sym c.as_slice.ensures.value) ∙ sym (metas-plain v.items c.as_slice.result.now h))
    (subst (λ ts. IsPermutation ts (map (λ r. r.now) rs)) c.in_ok-metas.ensures c.in_ok-sort_types.ensures.permutation)) c.plain_types.ensures

pub returns-clause-sorted : goal.returns-clause-sorted
returns-clause-sorted g c =
    IfOk-weaker c.plain_types.result (λ v. map wrapped_of v.items ≡ map (λ r. plain_meta r.now) c.as_slice.result.now) (λ v. IsSorted type_cmp (metas_of v.items))
    (λ v h. subst (IsSorted type_cmp) (ap (map (λ r. r.now)) (sym c.as_slice.ensures.value) ∙ sym (metas-plain v.items c.as_slice.result.now h)) c.in_ok-sort_types.ensures.sorted) c.plain_types.ensures

pub returns-clause-distinct : goal.returns-clause-distinct
returns-clause-distinct g c =
    let s = c.args.self.now in
    IfOk-weaker c.plain_types.result (λ v. IsPermutation s.types (metas_of v.items)) (λ v. are_distinct name_of_meta (metas_of v.items) ≡ true)
    (λ v h. distinct-permuted name_of_meta s.types (metas_of v.items) s.accepted.distinct h) (returns-clause-permutation g c)
