use Rattle.std.proofs.Common.{ℕ, subst}
use Rattle.merge_search.specs.declared.task.Task.TheVariants.{Own, Mark}
use Rattle.merge_sets.specs.World.{world}
use Rattle.merge_search.specs.Tasks.{Meets, MeetsOne}
use Rattle.merge_search.proofs.Costs.{costs_pushed}
use Rattle.merge_search.proofs.Searching.{one_pays}
use Rattle.merge_search.proofs.Leading.{leads_after, waits_pushed}
use Rattle.merge_search.proofs.Steps.{one_whole}
use Rattle.merge_search.proofs.fragments.begin_one.Goals as goal

pub returns-clause-turns : goal.returns-clause-turns
returns-clause-turns g c =
    let v = world g.J.Judge.judgement c.args.graph.now in
    let e = c.args.e in
    let i = c.args.i in
    let f = c.args.g in
    let s = c.args.search.now in
    leads_after v (Meets v (Own i c.set.result e 0)) (Meets v (Mark i c.len.result)) (MeetsOne v e i f) _ _ _ _ s s
    (λ u z own kept. one_whole v e i f s u z (subst (λ (k : ℕ). Meets v (Own i k e 0) s u) c.set.ensures own) kept)
    (waits_pushed v (Mark i c.len.result) _ _ c.in_ok-push.ensures.items) c.in_ok-next_own.ensures.turns

pub returns-clause-pays : goal.returns-clause-pays
returns-clause-pays g c =
    let v = world g.J.Judge.judgement c.args.graph.now in
    one_pays v c.args.graph.now.falling c.args.e c.args.i c.args.g c.set.result c.len.result _ _ _ _ _ c.set.ensures
    (costs_pushed v (Mark c.args.i c.len.result) _ _ c.in_ok-push.ensures.items) c.in_ok-next_own.ensures.pays
