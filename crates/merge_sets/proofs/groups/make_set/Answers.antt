use Rattle.std.proofs.Common.{subst}
use Rattle.std.specs.Option.{option_map_or}
use Rattle.merge_sets.specs.Names.{AreListed, HaveOwnNames, HaveSameGroups}
use Rattle.merge_sets.proofs.groups.make_set.Goals as goal

pub invariant_of-result-2-clause-listed : goal.invariant_of-result-2-clause-listed
invariant_of-result-2-clause-listed c =
    subst (λ own. AreListed (option_map_or (λ v. v.items) c.in_ok-firsts.firsts own) own) c.as_slice-3.ensures.value c.in_ok-firsts.ensures.listed

pub invariant_of-result-2-clause-grouped : goal.invariant_of-result-2-clause-grouped
invariant_of-result-2-clause-grouped c = subst (HaveSameGroups c.in_ok-by_name.by_name.items) c.as_slice-2.ensures.value c.in_ok-by_name.ensures.grouped

pub invariant_of-result-2-clause-once : goal.invariant_of-result-2-clause-once
invariant_of-result-2-clause-once c =
    subst (λ own. HaveOwnNames (option_map_or (λ v. v.items) c.in_ok-firsts.firsts own)) c.as_slice-3.ensures.value c.in_ok-firsts.ensures.once
