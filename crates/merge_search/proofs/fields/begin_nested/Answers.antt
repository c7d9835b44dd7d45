use Rattle.std.proofs.Common.{◌≡◌, ℕ, arith, length, subst, rules}
use Rattle.merge_search.specs.declared.task.Task.TheVariants.{Close}
use Rattle.merge_sets.specs.World.{world}
use Rattle.merge_search.specs.Tasks.{Meets, MeetsBelow, MeetsNested, Closes}
use Rattle.merge_search.proofs.Costs.{costs_pushed}
use Rattle.merge_search.proofs.Leading.{leads_next, waits_pushed}
use Rattle.merge_search.proofs.Steps.{nested_closed}
use Rattle.merge_search.proofs.fields.begin_nested.Goals as goal

pub returns-clause-turns : goal.returns-clause-turns
returns-clause-turns g c =
    let v = world g.J.Judge.judgement c.args.graph.now in
    let a = c.args.a in
    let b = c.args.b in
    let s = c.args.search.now in
    let same : c.len.result ≡ length s.found.items = search rules in
    leads_next v (MeetsBelow v c.are_exclusive.result c.args.i c.args.j) (Meets v (Close a b c.len.result)) (MeetsNested v c.args.e a b c.args.i c.args.j) _ _ _ s s
    (λ t u d end. nested_closed v c.args.e a b c.args.i c.args.j s t u (subst (λ x. MeetsBelow v x c.args.i c.args.j s t) c.are_exclusive.ensures d) (subst (λ (n : ℕ). Closes a b n t u) same end))
    (waits_pushed v (Close a b c.len.result) _ _ c.in_ok-push.ensures.items) (c.in_ok-wait_below.ensures.waits s)

pub returns-clause-costs : goal.returns-clause-costs
returns-clause-costs g c =
    let v = world g.J.Judge.judgement c.args.graph.now in
    record { most = omega (arith, (costs_pushed v (Close c.args.a c.args.b c.len.result) _ _ c.in_ok-push.ensures.items).most, c.in_ok-wait_below.ensures.costs.most) }
