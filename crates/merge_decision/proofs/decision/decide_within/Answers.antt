use Rattle.merge_sets.specs.World.{world}
use Rattle.merge_decision.proofs.Deciding.{all_quiet, on_both, whole_done}
use Rattle.merge_decision.proofs.decision.decide_within.Goals as goal

pub returns-clause-merges : goal.returns-clause-merges
returns-clause-merges g c =
    let w = world g.J.Judge.judgement c.args.graph.now in
    let work = c.settle_sets.new.work in
    on_both c.in_ok-merges.merges (λ whole held. all_quiet w c.args.graph.now.falling work.unions.items (whole_done w work whole) held)
    c.in_ok-merges.ensures.whole c.in_ok-merges.ensures.held
