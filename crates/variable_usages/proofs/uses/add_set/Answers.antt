use Rattle.std.proofs.Common.{◌++◌, map, subst, ap, option_copied}
use Rattle.fragment_graph.specs.Preorder.{left, set_inside, ComesNext, Gives}
use Rattle.fragment_graph.proofs.PreorderLaws.{gathered_next, gathered_all, fewer_left}
use Rattle.variable_usages.specs.Uses.{selection_uses, use_of, used_in_all}
use Rattle.variable_usages.proofs.uses.add_set.Goals as goal

pub loop-selections-init : goal.loop-selections-init
loop-selections-init g c = ap (λ zs. map use_of c.args.found.now.items ++ used_in_all zs) c.new-selections.ensures

pub loop-selections-preserved : goal.loop-selections-preserved
loop-selections-preserved g c =
    let next : ComesNext c.loop-selections.selections c.next.new.self c.in-Some.selection.now =
    subst (λ o. Gives c.loop-selections.selections c.next.new.self (option_copied o)) c.in-Some.is c.in_ok-selection.ensures in
    gathered_next selection_uses c.in-Some.selection.now (set_inside c.in-Some.selection.now) next.others (left c.loop-selections.selections) (left c.next.new.self)
    (map use_of c.loop-selections.found.items) (map use_of c.add_own_uses.new.found.items) _ next.first next.after
    c.in_ok-add_own_uses.ensures c.loop-selections.invariant

pub loop-selections-smaller : goal.loop-selections-smaller
loop-selections-smaller g c =
    fewer_left c.loop-selections.selections c.next.new.self c.in-Some.selection.now
    (subst (λ o. Gives c.loop-selections.selections c.next.new.self (option_copied o)) c.in-Some.is c.in_ok-selection.ensures)

pub returns : goal.returns
returns g c =
    gathered_all selection_uses (left c.loop-selections.selections) (map use_of c.loop-selections.found.items) _
    (subst (λ o. Gives c.loop-selections.selections c.next.new.self (option_copied o)) c.in_default.is c.in_ok-selection.ensures) c.loop-selections.invariant
