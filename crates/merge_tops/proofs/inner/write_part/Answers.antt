use Rattle.std.proofs.Common.{◌*◌, ◌≤◌, sym, subst, arith, false}
use Rattle.std.specs.List.{All}
use Rattle.std.proofs.lemmas.Result.{on_ok_weaker}
use Rattle.merge_sets.specs.World.{world}
use Rattle.merge_sets.specs.Opening.{ReachedFrom}
use Rattle.merge_search.specs.Reports.{Adds}
use Rattle.merge_tops.specs.Inner.{AtParts}
use Rattle.merge_search.proofs.Adding.{adds_none, adds_from}
use Rattle.merge_search.proofs.Work.{did_none, did_kept}
use Rattle.std.specs.Prelude.{sum_by}
use Rattle.merge_search.specs.Spending.{fragments_weight}
use Rattle.merge_search.specs.Weight.{fields_weight, fragment_weight}
use Rattle.merge_search.proofs.Costs.{on_ok_ok, spends_kept}
use Rattle.merge_search.proofs.Steps.{did_before}
use Rattle.merge_tops.proofs.Opening.{opening_counted}
use Rattle.merge_tops.proofs.Spends.{fragments_cost, spends_more, times_left}
use Rattle.merge_tops.proofs.inner.write_part.Goals as goal

pub returns-then-is_empty-clause-done : goal.returns-then-is_empty-clause-done
returns-then-is_empty-clause-done g c = did_none (world g.J.Judge.judgement c.args.graph.now) _ c.args.search.now (λ M k. tt)

pub returns-then-is_empty-clause-real : goal.returns-then-is_empty-clause-real
returns-then-is_empty-clause-real g c = adds_none (world g.J.Judge.judgement c.args.graph.now) false (AtParts (world g.J.Judge.judgement c.args.graph.now) c.args.part.now.own.items c.args.starts.now) _

pub compare_opened-requires : goal.compare_opened-requires
compare_opened-requires g c =
    let v = world g.J.Judge.judgement c.args.graph.now in
    subst (λ zs. All (ReachedFrom v c.args.starts.now) zs) (sym c.as_slice.ensures.value) c.in_ok-opening.ensures.opens.reached

pub returns : goal.returns
returns g c =
    let v = world g.J.Judge.judgement c.args.graph.now in
    let m = fields_weight v c.args.part.now.own.items in
    let opens = c.in_ok-opening.ensures.opens in
    let most = subst (λ hs. m * sum_by (fragment_weight v) hs ≤ m * fragments_weight v) (sym c.as_slice.ensures.value)
    (omega (arith, times_left (fragment_weight v) m c.in_ok-opening.opening.order.items, fragments_cost v m c.in_ok-opening.opening.order.items opens.once opens.there)) in
    record {
      done = on_ok_weaker c.put_opening.result
          (λ k. did_kept v _ k (did_before v false _ c.in_ok-opening.ensures.keeps c.in_ok-compare_opened.ensures.done))
          c.put_opening.ensures.keeps;
      real = on_ok_weaker c.put_opening.result
          (λ k. subst (λ zs. Adds v false (AtParts v c.args.part.now.own.items c.args.starts.now) c.args.search.now.found.items zs) (sym k.found)
          (adds_from v false _ c.in_ok-opening.ensures.keeps.found c.in_ok-compare_opened.ensures.real))
          c.put_opening.ensures.keeps;
      spends = on_ok_ok c.put_opening.result
          (λ k stay. spends_kept v _ _ _ _ _ c.in_ok-opening.ensures.keeps c.in_ok-opening.ensures.stay
          (spends_more v (fields_weight v c.args.part.now.own.items * sum_by (fragment_weight v) c.as_slice.result.now) _ _ _ most c.in_ok-compare_opened.ensures.spends) k stay)
          c.put_opening.ensures.keeps c.put_opening.ensures.counts;
      counts = on_ok_weaker c.put_opening.result (λ k. opening_counted v c.args.starts.now c.in_ok-opening.opening.order.items _ _ c.in_ok-opening.ensures.opens c.in_ok-opening.ensures.counts) c.put_opening.ensures.keeps;
    }
