use Rattle.std.proofs.Common.{◌*◌, ℕ, get_or, refl, sym, subst, false}
use Rattle.std.proofs.lemmas.List.Elements.{All-get_or}
use Rattle.merge_sets.specs.World.{world, set_of}
use Rattle.merge_sets.specs.Opening.{ReachedFrom}
use Rattle.merge_search.specs.Work.{OwnPairs}
use Rattle.merge_search.specs.Reports.{AtOwn}
use Rattle.merge_search.proofs.Adding.{all_start, all_more, all_done, all_change}
use Rattle.merge_tops.proofs.Judging.{tell_written, row_written}
use Rattle.merge_search.proofs.Work.{did_start, did_map, did_more, did_all}
use Rattle.merge_search.specs.Spending.{Spends}
use Rattle.merge_search.specs.Weight.{fragment_weight, weight}
use Rattle.merge_tops.proofs.Spends.{fragments_cost, spends_list, spends_next, spends_start}
use Rattle.merge_tops.proofs.top.write_all.Goals as goal

pub loop-h-init : goal.loop-h-init
loop-h-init g c =
    let v = world g.J.Judge.judgement c.args.graph.now in
    (did_start v (λ h M. OwnPairs v M false c.args.s (set_of v h)) c.args.opening.now c.args.search.now, all_start v false _ (λ h. AtOwn v c.args.s (set_of v h)) c.args.opening.now 0 _, spends_start v (λ h. weight v c.args.s * fragment_weight v h) c.args.opening.now 0 c.args.search.now)

pub loop-h-preserved : goal.loop-h-preserved
loop-h-preserved g c =
    let v = world g.J.Judge.judgement c.args.graph.now in
    let h = get_or c.args.opening.now c.loop-h.h-index 0 in (
      did_more v (λ h M. OwnPairs v M false c.args.s (set_of v h)) c.args.opening.now c.loop-h.h-index 0 c.loop-h-test.true c.loop-h.invariant.0 (did_map v _ _ (λ M z. subst (λ (s : ℕ). OwnPairs v M false c.args.s s) c.set.ensures z) c.in_ok-compare_own.ensures.done),
      all_more v false _ _ (λ k. AtOwn v c.args.s (set_of v k)) c.args.opening.now c.loop-h.h-index 0
          (row_written v c.args.s h c.args.starts.now (All-get_or (ReachedFrom v c.args.starts.now) c.args.opening.now c.loop-h.h-index 0 c.loop-h-test.true c.requires.reached)) c.loop-h.invariant.1
          (all_change v false _ (AtOwn v c.args.s (set_of v h)) _ (AtOwn v c.args.s (set_of v h)) (λ r z. subst (λ (s : ℕ). AtOwn v c.args.s s r) c.set.ensures z) (λ r z. subst (λ (s : ℕ). AtOwn v c.args.s s r) (sym c.set.ensures) z) c.in_ok-compare_own.ensures.real),
      spends_next v (λ k. weight v c.args.s * fragment_weight v k) c.args.opening.now 0 c.loop-h.h-index _ _ _ c.loop-h-test.true c.loop-h.invariant.2
          (subst (λ (t : ℕ). Spends v (weight v c.args.s * weight v t) c.loop-h.search c.compare_own.new.search) c.set.ensures c.in_ok-compare_own.ensures.spends),
    )

pub returns : goal.returns
returns g c =
    let v = world g.J.Judge.judgement c.args.graph.now in
    record {
      done = did_all v (λ h M. OwnPairs v M false c.args.s (set_of v h)) c.args.opening.now c.args.opening.now c.loop-h.h-index c.loop-h-test.false refl c.loop-h.invariant.0;
      real = all_done v false _ _ (λ h. AtOwn v c.args.s (set_of v h)) c.args.opening.now c.loop-h.h-index 0 c.loop-h-test.false (tell_written v c.args.s c.args.starts.now c.args.opening.now c.requires) c.loop-h.invariant.1;
      spends = spends_list v (λ h. weight v c.args.s * fragment_weight v h) c.args.opening.now 0 c.loop-h.h-index _ _ _ c.loop-h-test.false
          (fragments_cost v (weight v c.args.s) c.args.opening.now c.requires.once c.requires.there) c.loop-h.invariant.2;
    }
