use Rattle.std.proofs.Common.{◌≡◌, false, subst, sym, ◌∙◌}
use Rattle.std.specs.List.{All}
use Rattle.std.proofs.lemmas.List.{take_all}
use Rattle.std.proofs.lemmas.List.Elements.{All-more}
use Rattle.merge_sets.proofs.kinds.is_clear_of.Goals as goal

pub loop-other-preserved : goal.loop-other-preserved
loop-other-preserved g c =
    let j = g.J.Judge.judgement c.args.graph.now.judge in
    All-more (λ o. j.conflict c.args.e c.args.field o ≡ false) c.args.others.now c.loop-other.other-index 0 c.loop-other-test.true c.loop-other.invariant
    (sym c.in_ok-are_in_conflict.ensures ∙ c.if-branch.false)

pub returns-clause-clear : goal.returns-clause-clear
returns-clause-clear g c =
    let j = g.J.Judge.judgement c.args.graph.now.judge in
    subst (λ zs. All (λ o. j.conflict c.args.e c.args.field o ≡ false) zs) (take_all c.loop-other.other-index c.args.others.now c.loop-other-test.false) c.loop-other.invariant
