use Rattle.std.proofs.Common.{rules}
use Rattle.std.proofs.lemmas.List.Sorted.{IsPermutation-map}
use Rattle.schema.specs.Ordered.{directive_cmp}
use Rattle.schema.proofs.OrderLemmas.{sorted-refs, directive_cmp-total}
use Rattle.schema.proofs.model.schemas.ordered.sort_directives.Goals as goal

pub returns-clause-permutation : goal.returns-clause-permutation
returns-clause-permutation g c = IsPermutation-map (λ r. r.now) _ _ c.sort_by.ensures.permutation

pub returns-clause-sorted : goal.returns-clause-sorted
returns-clause-sorted g c =
    sorted-refs directive_cmp directive_cmp-total c.sort_by.new.self.items c.in_ok-sort_by.ensures.sorted (λ f a r f' h. search rules)
