use Rattle.std.proofs.Common.{length, take, drop, ◌-◌, ltb, leb, sym, subst, rules}
use Rattle.std.proofs.lemmas.List.{take_rest}
use Rattle.std.proofs.lemmas.List.Sorted.{IsPartitionPoint-from_clause, IsPartitionedBy-ltb, IsPartitionedBy-leb, IsNonDecreasingBy-drop}
use Rattle.merge_sets.specs.Names.{AreSorted}
use Rattle.merge_sets.specs.declared.node.Entry.{Entry}
use Rattle.merge_sets.proofs.Naming.{run_named}
use Rattle.merge_sets.proofs.groups.fields_named.Goals as goal

pub returns : goal.returns
returns c =
    let xs = c.args.fields.now in
    let n = c.args.name in
    let i = c.partition_point-start.result in
    let j = c.partition_point-end.result in
    let sorted : AreSorted (take (length xs - i) (drop i xs)) = subst AreSorted (sym (take_rest xs i)) (IsNonDecreasingBy-drop (λ (a : Entry). a.response) i xs c.requires) in
    run_named n i j xs
    (IsPartitionPoint-from_clause (λ (a : Entry). ltb a.response n) xs i c.partition_point-start.ensures.partitioned (IsPartitionedBy-ltb (λ (a : Entry). a.response) xs n c.requires) (λ a r q k. search rules))
    (IsPartitionPoint-from_clause (λ (a : Entry). leb a.response n) (take (length xs - i) (drop i xs)) j c.partition_point-end.ensures.partitioned
    (IsPartitionedBy-leb (λ (a : Entry). a.response) (take (length xs - i) (drop i xs)) n sorted) (λ a r q k. search rules))
