use Rattle.std.proofs.Common.{subst, ℕ, ◌∷◌, []}
use Rattle.merge_sets.proofs.Laws.{clash_some, same_some}
use Rattle.merge_sets.specs.World.{world}
use Rattle.merge_decision.specs.Decided.{Holds}
use Rattle.merge_decision.proofs.Deciding.{grows_same}
use Rattle.merge_decision.proofs.settling.add_below.Goals as goal

pub returns-in_ok-add_set-in-Some-clause-grows : goal.returns-in_ok-add_set-in-Some-clause-grows
returns-in_ok-add_set-in-Some-clause-grows g c = c.in_ok-add_set-in-Some.ensures.grows

pub returns-in_ok-add_set-in-Some-clause-holds : goal.returns-in_ok-add_set-in-Some-clause-holds
returns-in_ok-add_set-in-Some-clause-holds g c = λ sound s at.
    let w = world g.J.Judge.judgement c.args.graph.now in
    subst (λ (z : ℕ). Holds w c.add_set.new.work.unions.items c.args.x (z ∷ [])) (same_some c.in-Some.s s c.args.field.below c.in-Some.is at) (c.in_ok-add_set-in-Some.ensures.holds sound)

pub returns-in-None-clause-grows : goal.returns-in-None-clause-grows
returns-in-None-clause-grows g c = grows_same (world g.J.Judge.judgement c.args.graph.now) c.args.work.now

pub returns-in-None-clause-holds : goal.returns-in-None-clause-holds
returns-in-None-clause-holds g c = λ sound s at. absurd (clash_some s c.args.field.below at c.in-None.is)
