use Rattle.std.proofs.Common.{◌*◌, ◌≤◌, arith, false}
use Rattle.std.proofs.lemmas.Result.{on_ok_weaker}
use Rattle.merge_sets.specs.World.{world}
use Rattle.merge_search.proofs.Clearing.{others_done, others_told}
use Rattle.merge_search.proofs.Work.{did_map}
use Rattle.merge_search.specs.Spending.{list_cost, pair_cost}
use Rattle.merge_search.specs.Weight.{field_weight, fields_weight}
use Rattle.merge_tops.proofs.Spends.{list_few, takes_spend}
use Rattle.merge_tops.proofs.pairs.compare_others.Goals as goal

pub returns-clause-done : goal.returns-clause-done
returns-clause-done g c =
    let v = world g.J.Judge.judgement c.args.graph.now in
    let a = c.args.a in
    on_ok_weaker c.compare_rest.result (λ d. did_map v _ _ (λ M z. others_done v false a c.args.rest.now c.args.others.now c.requires.others M z) d) c.compare_rest.ensures.done

pub returns-clause-real : goal.returns-clause-real
returns-clause-real g c =
    let v = world g.J.Judge.judgement c.args.graph.now in
    let a = c.args.a in
    on_ok_weaker c.compare_rest.result (λ d. others_told v false a c.args.rest.now c.args.others.now c.requires.others d) c.compare_rest.ensures.real

pub returns-clause-spends : goal.returns-clause-spends
returns-clause-spends g c =
    let v = world g.J.Judge.judgement c.args.graph.now in
    let a = c.args.a in
    let rest = c.args.rest.now in
    let within : list_cost v a c.args.others.now ≤ list_cost v a rest = c.requires.once (pair_cost v a) in
    on_ok_weaker c.compare_rest.result (takes_spend v (list_cost v a c.args.others.now) (field_weight v a * fields_weight v rest) _ _ (omega (arith, within, list_few v a rest))) c.compare_rest.ensures.takes
