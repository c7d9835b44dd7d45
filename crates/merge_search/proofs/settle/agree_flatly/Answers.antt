use Rattle.std.proofs.Common.{get_or, subst}
use Rattle.std.specs.Bool.{OnTrue}
use Rattle.std.proofs.lemmas.List.{take_all}
use Rattle.std.proofs.lemmas.List.Elements.{All-more}
use Rattle.merge_sets.specs.declared.node.Entry.{Entry}
use Rattle.merge_search.specs.Settle.{AgreesWith, AgreeFlatly}
use Rattle.merge_sets.specs.World.{world}
use Rattle.merge_sets.proofs.OneName.{no_entry}
use Rattle.merge_search.proofs.settle.agree_flatly.Goals as goal

pub loop-c-preserved : goal.loop-c-preserved
loop-c-preserved g at =
    let v = world g.J.Judge.judgement at.args.graph.now in
    let left = at.args.left.now in
    let k = at.loop-c.c-index in
    All-more (λ (x : Entry). AgreesWith v at.args.e x at.args.right.now) left k no_entry at.loop-c-test.true at.loop-c.invariant
    (subst (λ b. OnTrue b (AgreesWith v at.args.e (get_or left k no_entry) at.args.right.now)) at.if-not-branch.false at.in_ok-agrees_with.ensures)

pub returns : goal.returns
returns g c =
    let v = world g.J.Judge.judgement c.args.graph.now in
    subst (λ zs. AgreeFlatly v c.args.e zs c.args.right.now) (take_all c.loop-c.c-index c.args.left.now c.loop-c-test.false) c.loop-c.invariant
