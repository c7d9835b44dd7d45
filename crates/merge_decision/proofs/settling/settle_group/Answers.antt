use Rattle.std.proofs.Common.{Bool, inl, refl, subst}
use Rattle.std.specs.Bool.{OnTrue}
use Rattle.merge_certificates.specs.Quiet.{IsFrom}
use Rattle.merge_sets.specs.Judgement.{NoneConflict}
use Rattle.merge_sets.specs.World.{world}
use Rattle.merge_decision.specs.declared.work.Work.{Work}
use Rattle.merge_decision.proofs.Deciding.{grows_by, settles_after}
use Rattle.merge_decision.proofs.settling.settle_group.Goals as goal

pub returns-then-not-branch-clause-grows : goal.returns-then-not-branch-clause-grows
returns-then-not-branch-clause-grows g c =
    grows_by (world g.J.Judge.judgement c.args.graph.now) c.args.work.now _ refl refl (λ t h. inl h) c.agree.ensures.spent

pub settle_agreeing-requires : goal.settle_agreeing-requires
settle_agreeing-requires g c =
    let j = g.J.Judge.judgement c.args.graph.now.judge in
    subst (λ b. OnTrue b ((e : Bool) → IsFrom c.args.x e → NoneConflict j e c.args.group.now c.args.group.now)) c.if-not-branch.false c.in_ok-agree.ensures.agree

pub returns : goal.returns
returns g c =
    let w = world g.J.Judge.judgement c.args.graph.now in
    let old = c.args.work.now in
    let mid : Work = record { unions = old.unions; done = old.done; held = old.held; places = old.places; budget = c.agree.new.budget } in
    let grown = grows_by w old mid refl refl (λ t h. inl h) c.agree.ensures.spent in
    let settled = settles_after w old mid c.settle_agreeing.new.work c.args.x c.args.group.now grown c.in_ok-settle_agreeing.ensures in
    record { grows = settled.grows; settles = settled }
