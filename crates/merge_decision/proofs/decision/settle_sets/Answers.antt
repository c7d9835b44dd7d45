use Rattle.std.proofs.Common.{◌-◌, ◌∷◌, [], false, subst, arith}
use Rattle.std.specs.Bool.{OnTrue}
use Rattle.merge_sets.specs.World.{world}
use Rattle.merge_decision.specs.Decided.{Holds, IsWhole, Keeps}
use Rattle.merge_decision.proofs.Deciding.{held_next}
use Rattle.merge_decision.proofs.decision.settle_sets.Goals as goal

pub loop-s-preserved : goal.loop-s-preserved
loop-s-preserved g c =
    let w = world g.J.Judge.judgement c.args.graph.now in
    let old = c.loop-s.work in
    let new = c.settle_with.new.work in
    let s = c.loop-s.s - 1 in
    let told = c.in_ok-settle_with.ensures in
    let keeps = subst (λ b. OnTrue b (Keeps w old new)) c.if-not-branch.false told.keeps in
    let held = subst (λ b. OnTrue b (Holds w new.unions.items false (s ∷ []))) c.if-not-branch.false told.held in (
      subst (λ b. OnTrue b (IsWhole w new)) c.if-not-branch.false told.whole,
      held_next w old new s keeps (λ t from l. c.loop-s.invariant.1 t (omega (arith, from, c.loop-s-test.true)) l) held,
      omega (arith, told.spent, c.loop-s.invariant.2),
    )
