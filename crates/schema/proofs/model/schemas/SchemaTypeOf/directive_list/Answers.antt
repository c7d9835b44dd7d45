use Rattle.std.proofs.Common.{map, subst}
use Rattle.std.specs.Prelude.{IsPermutation}
use Rattle.schema_validation.specs.Directives.{directive_name}
use Rattle.schema.proofs.DistinctLemmas.{distinct-permuted}
use Rattle.schema.proofs.model.schemas.SchemaTypeOf.directive_list.Goals as goal

pub returns-clause-distinct : goal.returns-clause-distinct
returns-clause-distinct g c =
    let s = c.args.self.now in
    let sorted = map (λ r. r.now) c.sort_directives.new.directives.items in
    distinct-permuted directive_name s.directives sorted s.directives_distinct
    (subst (λ ds. IsPermutation ds sorted) c.in_ok-directives.ensures c.in_ok-sort_directives.ensures.permutation)
