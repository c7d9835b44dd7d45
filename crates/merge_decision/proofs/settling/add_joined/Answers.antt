use Rattle.std.proofs.Common.{inl, refl}
use Rattle.merge_sets.specs.World.{world}
use Rattle.merge_decision.specs.declared.work.Work.{Work}
use Rattle.merge_decision.specs.Decided.{Settles}
use Rattle.merge_decision.proofs.Deciding.{grows_by, settled_many, settles_after}
use Rattle.merge_decision.proofs.settling.add_joined.Goals as goal

pub returns : goal.returns
returns g c =
    let w = world g.J.Judge.judgement c.args.graph.now in
    let old = c.args.work.now in
    let new = c.add_unions.new.work in
    let mid : Work = record { unions = old.unions; done = old.done; held = old.held; places = old.places; budget = c.take_held.new.budget } in
    let added = c.in_ok-add_unions.ensures w in
    let settles : Settles w c.args.x c.args.fields.now mid new = record {
      grows = added.grows;
      settled = λ sound. settled_many w new.unions.items c.unions_below.new.unions.items c.args.x c.args.fields.now c.requires c.in_ok-unions_below.ensures.joined (added.holds sound);
    } in
    settles_after w old mid new c.args.x c.args.fields.now (grows_by w old mid refl refl (λ t h. inl h) c.take_held.ensures) settles
