use Rattle.std.proofs.Common.{◌*◌, false, subst}
use Rattle.std.proofs.lemmas.Result.{on_ok_weaker}
use Rattle.merge_search.specs.Spending.{list_cost}
use Rattle.merge_search.specs.Weight.{field_weight, fields_weight}
use Rattle.merge_tops.proofs.Spends.{list_few, takes_spend}
use Rattle.std.specs.Bool.{OnTrue}
use Rattle.merge_sets.specs.World.{world}
use Rattle.merge_sets.specs.Kinds.{NeverFailsWith}
use Rattle.merge_certificates.proofs.ClearLists.{one_clear}
use Rattle.merge_search.proofs.Clearing.{rest_clear}
use Rattle.merge_sets.proofs.Harmless.{below_merges}
use Rattle.merge_search.proofs.Costs.{spends_none}
use Rattle.merge_tops.proofs.pairs.compare_unless.Goals as goal

pub returns-then-is_plain_below : goal.returns-then-is_plain_below
returns-then-is_plain_below g c =
    let v = world g.J.Judge.judgement c.args.graph.now in
    let a = c.args.a in
    let ys = c.args.rest.now in
    let never = subst (λ b. OnTrue b (NeverFailsWith v.judgement false a ys)) c.if-is_clear.true c.requires.clear in
    let d = rest_clear v false a ys c.args.search.now (one_clear v false a ys never (λ k x l. below_merges v c.if-is_plain_below.ensures)) in
    record { done = d.done; real = d.real; spends = spends_none v _ c.args.search.now }

pub returns-clause-spends : goal.returns-clause-spends
returns-clause-spends g c =
    let v = world g.J.Judge.judgement c.args.graph.now in
    on_ok_weaker c.compare_rest.result
    (takes_spend v (list_cost v c.args.a c.args.rest.now) (field_weight v c.args.a * fields_weight v c.args.rest.now) _ _ (list_few v c.args.a c.args.rest.now)) c.compare_rest.ensures.takes
