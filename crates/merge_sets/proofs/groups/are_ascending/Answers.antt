use Rattle.std.proofs.Common.{ltb, rules}
use Rattle.std.proofs.lemmas.List.Sorted.{answers_always}
use Rattle.merge_sets.specs.declared.node.Entry.{Entry}
use Rattle.merge_sets.proofs.Naming.{rising_own, rising_sorted}
use Rattle.merge_sets.proofs.groups.are_ascending.Goals as goal

pub returns-clause-sorted : goal.returns-clause-sorted
returns-clause-sorted c =
    rising_sorted _ _ (c.is_sorted_by.ensures.cases (λ (a b : Entry). ltb a.response b.response) (answers_always _ _ _ (λ f a r g h. search rules)))

pub returns-clause-once : goal.returns-clause-once
returns-clause-once c =
    rising_own _ _ (c.is_sorted_by.ensures.cases (λ (a b : Entry). ltb a.response b.response) (answers_always _ _ _ (λ f a r g h. search rules)))
