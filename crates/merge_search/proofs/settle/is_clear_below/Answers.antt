use Rattle.std.proofs.Common.{subst}
use Rattle.merge_sets.specs.Clear.{AreLeaves}
use Rattle.merge_search.specs.Settle.{AgreeFlatly}
use Rattle.merge_sets.specs.World.{world, own_of}
use Rattle.merge_sets.proofs.Laws.{on_true_weaker}
use Rattle.merge_search.proofs.Settling.{flat_below}
use Rattle.merge_search.proofs.settle.is_clear_below.Goals as goal

pub returns-clause-clear : goal.returns-clause-clear
returns-clause-clear g c =
    let v = world g.J.Judge.judgement c.args.graph.now in
    let left = own_of v c.args.i in
    let right = own_of v c.args.j in
    let x = c.are_exclusive.result in
    let leaves = subst (λ zs. AreLeaves zs) c.own.ensures c.if-not-are_leaves.ensures in
    on_true_weaker c.in_ok-agree.agree
    (λ agree. flat_below v c.args.e c.args.a c.args.b c.args.i c.args.j c.requires.left c.requires.right c.if-not-is_small.ensures.alone c.if-not-is_small-2.ensures.alone leaves
    (subst (λ y. AgreeFlatly v y left right) c.are_exclusive.ensures
    (subst (λ zs. AgreeFlatly v x zs right) c.own-left.ensures (subst (λ zs. AgreeFlatly v x c.own-left.result.now zs) c.own-right.ensures agree))))
    c.in_ok-agree.ensures
