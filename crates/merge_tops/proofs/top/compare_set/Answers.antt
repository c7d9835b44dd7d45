use Rattle.std.proofs.Common.{false}
use Rattle.std.proofs.lemmas.Result.{on_ok_weaker}
use Rattle.merge_sets.specs.World.{world}
use Rattle.merge_search.proofs.Adding.{all_both, all_map}
use Rattle.merge_tops.proofs.Judging.{places_within}
use Rattle.merge_search.proofs.Work.{did_then, did_map}
use Rattle.merge_search.specs.Weight.{weight}
use Rattle.merge_tops.proofs.Spends.{set_spends}
use Rattle.merge_tops.proofs.top.compare_set.Goals as goal

pub returns : goal.returns
returns g c =
    let v = world g.J.Judge.judgement c.args.graph.now in
    record {
      done = on_ok_weaker c.compare_spreads.result (λ d. did_map v _ _ (λ M h. (h.0, h.1.0, h.1.1)) (did_then v _ _ c.in_ok-compare_within.ensures.done d)) c.compare_spreads.ensures.done;
      real = on_ok_weaker c.compare_spreads.result (λ d. all_both v false _ _ _ (all_map v false _ _ _ (places_within v c.args.s) c.in_ok-compare_within.ensures.real) d) c.compare_spreads.ensures.real;
      spends = on_ok_weaker c.compare_spreads.result (λ p. set_spends v (weight v c.args.s) _ _ _ c.in_ok-compare_within.ensures.spends p) c.compare_spreads.ensures.spends;
      counts = c.compare_spreads.ensures.counts;
    }
