use Rattle.std.proofs.Common.{option_map, string_bytes, ◌∙◌}
use Rattle.std.proofs.lemmas.Result.{err_from_is_err_and}
use Rattle.indexmap.specs.IndexMap.{values}
use Rattle.schema_validation.specs.RootNames.{roots_asked}
use Rattle.schema_validation.proofs.DirectiveLemmas.{directives-distinct, directives-input, accepted-at}
use Rattle.schema.proofs.model.schemas.SchemaTypeOf.from_accepted.Goals as goal

pub invariant_of-result : goal.invariant_of-result
invariant_of-result g c =
    let query = string_bytes c.in_ok-query.query in
    let mutation = option_map string_bytes c.in_ok-mutation.mutation in
    let subscription = option_map string_bytes c.in_ok-subscription.subscription in
    let types = values c.in_ok-types.types in
    let accepted = accepted-at (roots_asked c.args.roots) c.args.types.items types query mutation subscription c.requires c.in_ok-query.ensures.ok c.in_ok-mutation.ensures.value c.in_ok-subscription.ensures.value c.in_ok-types.ensures.listed in (
      accepted,
      (
        directives-input (record { query = query; mutation = mutation; subscription = subscription }) types (values c.in_ok-directives.directives) accepted c.in_ok-directives.ensures.standard,
        (c.in_ok-types.ensures.keyed, (c.in_ok-directives.ensures.keyed, (directives-distinct (values c.in_ok-directives.directives) c.in_ok-directives.ensures.standard, (c.in_ok-slots.ensures.some, tt)))),
      ),
    )

pub returns-in_err-slots-clause-err : goal.returns-in_err-slots-clause-err
returns-in_err-slots-clause-err g c =
    let p = err_from_is_err_and c.from_residual-in_err-slots.result c.from_residual-in_err-slots.ensures.1 in
    rw p.1 (p.2 ∙ c.in_err-slots.ensures.err)
