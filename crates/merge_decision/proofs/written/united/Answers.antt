use Rattle.std.proofs.Common.{ap, subst, sym}
use Rattle.merge_certificates.specs.Quiet.{HoldAll}
use Rattle.merge_sets.specs.World.{world}
use Rattle.merge_certificates.proofs.Merged.{written_holds}
use Rattle.std.proofs.lemmas.Result.{IfOk-weaker}
use Rattle.merge_decision.proofs.written.united.Goals as goal

pub returns : goal.returns
returns g c =
    let v = world g.J.Judge.judgement c.args.graph.now in
    let sets = c.args.sets.now in
    let held = written_holds v sets c.args.written.now c.in_ok-fields.fields.items c.requires c.in_ok-fields.ensures in
    IfOk-weaker c.make_set.result _ _ (λ set own. subst (λ zs. HoldAll v sets zs) (sym (ap (λ z. z.items) own)) held) c.make_set.ensures.own
