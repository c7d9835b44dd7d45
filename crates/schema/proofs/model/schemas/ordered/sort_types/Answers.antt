use Rattle.std.proofs.Common.{rules}
use Rattle.std.proofs.lemmas.List.Sorted.{IsPermutation-map}
use Rattle.schema.specs.Ordered.{type_cmp}
use Rattle.schema.proofs.OrderLemmas.{sorted-refs, type_cmp-total}
use Rattle.schema.proofs.model.schemas.ordered.sort_types.Goals as goal

pub returns-clause-permutation : goal.returns-clause-permutation
returns-clause-permutation g c = IsPermutation-map (λ r. r.now) _ _ c.sort_by.ensures.permutation

pub returns-clause-sorted : goal.returns-clause-sorted
returns-clause-sorted g c =
    sorted-refs type_cmp type_cmp-total c.sort_by.new.self.items c.in_ok-sort_by.ensures.sorted (λ f a r f' h. search rules)
