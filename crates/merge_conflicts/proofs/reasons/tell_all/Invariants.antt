use Rattle.std.proofs.Common.{map, reverse}
use Rattle.merge_field_pairs.specs.Entries.{plain}
use Rattle.merge_conflicts.specs.declared.account.Account.{Account}
use Rattle.merge_conflicts.specs.Tasks.{MeetsAll}
use Rattle.merge_conflicts.proofs.reasons.tell_all.Given as goal

-- who tells the tasks that are left has told them all
abbrev pub invariant-loop : goal.invariant-loop
invariant-loop g l =
    let fields = map plain l.fields in
    (end : Account) → MeetsAll g.S.PartialEq.eq l.schema fields (reverse l.tasks.items) l.account end → MeetsAll g.S.PartialEq.eq l.schema fields (reverse l.fn.tasks.items) l.fn.account end
