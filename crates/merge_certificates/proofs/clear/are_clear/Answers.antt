use Rattle.std.proofs.Common.{subst}
use Rattle.std.specs.Bool.{OnTrue}
use Rattle.merge_sets.specs.Judgement.{NoneConflict}
use Rattle.merge_sets.specs.World.{world}
use Rattle.merge_certificates.proofs.ClearLists.{lists_clear}
use Rattle.merge_sets.proofs.Laws.{on_true_weaker}
use Rattle.merge_certificates.proofs.clear.are_clear.Goals as goal

pub returns-clause-clear : goal.returns-clause-clear
returns-clause-clear g c =
    let v = world g.J.Judge.judgement c.args.graph.now in
    let left = c.args.left.now in
    let right = c.args.right.now in
    let none = subst (λ b. OnTrue b (NoneConflict v.judgement c.args.e left right)) c.if-not-branch.false c.in_ok-are_agreeing.ensures.agree in
    on_true_weaker c.in_ok-is_clear.is_clear (λ below. lists_clear v c.args.e left right none below) c.in_ok-is_clear.ensures.clear
