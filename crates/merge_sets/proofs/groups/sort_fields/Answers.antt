use Rattle.std.proofs.Common.{ap, ◌∙◌, rules}
use Rattle.std.proofs.lemmas.List.Sorted.{IsNonDecreasingBy-from_sort_by_key, answers_always}
use Rattle.merge_sets.specs.declared.node.Entry.{Entry}
use Rattle.merge_sets.specs.Names.{named}
use Rattle.merge_sets.proofs.Naming.{stays_grouped}
use Rattle.merge_sets.proofs.groups.sort_fields.Goals as goal

pub returns-clause-sorted : goal.returns-clause-sorted
returns-clause-sorted c = IsNonDecreasingBy-from_sort_by_key (λ (a : Entry). a.response) _ c.in_ok-sort_by_key.ensures.sorted (λ a r q k. search rules)

pub returns-clause-grouped : goal.returns-clause-grouped
returns-clause-grouped c =
    λ n. stays_grouped _ _ (c.sort_by_key.ensures.stable (λ (a : Entry). a.response) (answers_always _ _ _ (λ f a r g h. search rules))) n ∙ ap (named n) c.in_ok-by_name.ensures.items
