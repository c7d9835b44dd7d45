use Rattle.std.proofs.Common.{subst}
use Rattle.merge_search.specs.declared.task.Task.TheVariants.{Rows}
use Rattle.merge_certificates.specs.TwoSets.{rights_of}
use Rattle.merge_sets.specs.World.{world}
use Rattle.merge_search.specs.Tasks.{Meets, MeetsBoth}
use Rattle.merge_search.specs.Spending.{CostsMore, rows_cost}
use Rattle.merge_search.proofs.Costs.{costs_pushed}
use Rattle.merge_search.proofs.Leading.{leads_turn, waits_pushed}
use Rattle.merge_search.proofs.fields.wait_wide.Goals as goal

pub returns-clause-waits : goal.returns-clause-waits
returns-clause-waits g c now =
    let v = world g.J.Judge.judgement c.args.graph.now in
    let e = c.args.e in
    let rows = c.in_ok-rows.rows in
    let told = c.in_ok-rows.ensures in
    leads_turn v (Meets v (Rows rows e 0)) (MeetsBoth v e c.args.left.now c.args.right.now 0) _ _ now now now
    (λ t d. subst (λ ys. MeetsBoth v e c.args.left.now ys 0 now t) told.right (subst (λ xs. MeetsBoth v e xs (rights_of rows) 0 now t) told.left (d told.knows)))
    (waits_pushed v (Rows rows e 0) _ _ c.in_ok-push.ensures.items now)

pub returns-clause-costs : goal.returns-clause-costs
returns-clause-costs g c =
    let v = world g.J.Judge.judgement c.args.graph.now in
    let rows = c.in_ok-rows.rows in
    let told = c.in_ok-rows.ensures in
    let before = c.args.tasks.now.items in
    let after = c.push.new.self.items in
    subst (λ ys. CostsMore v (rows_cost v c.args.left.now ys) before after) told.right
    (subst (λ xs. CostsMore v (rows_cost v xs (rights_of rows)) before after) told.left (costs_pushed v (Rows rows c.args.e 0) before after c.in_ok-push.ensures.items))
