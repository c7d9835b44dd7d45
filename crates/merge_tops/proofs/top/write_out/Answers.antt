use Rattle.std.proofs.Common.{sym, subst, false}
use Rattle.std.proofs.lemmas.Result.{on_ok_weaker}
use Rattle.merge_sets.specs.World.{world}
use Rattle.merge_sets.specs.Opening.{Opens}
use Rattle.merge_search.specs.Reports.{AddsAll}
use Rattle.merge_tops.specs.Tops.{AtSpreads}
use Rattle.merge_search.proofs.Adding.{all_from}
use Rattle.merge_tops.proofs.Judging.{own_written}
use Rattle.merge_tops.proofs.Opening.{opening_counted}
use Rattle.merge_search.proofs.Work.{did_map, did_kept}
use Rattle.merge_search.proofs.Costs.{on_ok_ok, spends_kept}
use Rattle.merge_search.proofs.Steps.{did_before}
use Rattle.merge_tops.proofs.top.write_out.Goals as goal

pub write_all-requires : goal.write_all-requires
write_all-requires g c =
    let v = world g.J.Judge.judgement c.args.graph.now in
    subst (λ zs. Opens v c.args.starts.now zs) (sym c.as_slice.ensures.value) c.in_ok-opening.ensures.opens

pub returns : goal.returns
returns g c =
    let v = world g.J.Judge.judgement c.args.graph.now in
    let opens : Opens v c.args.starts.now c.as_slice.result.now = subst (λ zs. Opens v c.args.starts.now zs) (sym c.as_slice.ensures.value) c.in_ok-opening.ensures.opens in
    record {
      done = on_ok_weaker c.put_opening.result
          (λ k. did_kept v _ k (did_map v _ _ (λ M h. own_written v M c.args.s c.args.starts.now c.as_slice.result.now opens h)
          (did_before v false _ c.in_ok-opening.ensures.keeps c.in_ok-write_all.ensures.done)))
          c.put_opening.ensures.keeps;
      real = on_ok_weaker c.put_opening.result
          (λ k. subst (λ zs. AddsAll v false (AtSpreads v c.args.s c.args.starts.now) (AtSpreads v c.args.s c.args.starts.now) c.args.search.now.found.items zs) (sym k.found)
          (all_from v false _ _ c.in_ok-opening.ensures.keeps.found c.in_ok-write_all.ensures.real))
          c.put_opening.ensures.keeps;
      spends = on_ok_ok c.put_opening.result
          (λ k stay. spends_kept v _ _ _ _ _ c.in_ok-opening.ensures.keeps c.in_ok-opening.ensures.stay c.in_ok-write_all.ensures.spends k stay)
          c.put_opening.ensures.keeps c.put_opening.ensures.counts;
      counts = on_ok_weaker c.put_opening.result (λ k. opening_counted v c.args.starts.now c.in_ok-opening.opening.order.items _ _ c.in_ok-opening.ensures.opens c.in_ok-opening.ensures.counts) c.put_opening.ensures.keeps;
    }
