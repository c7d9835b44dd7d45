use Rattle.std.proofs.Common.{arith, subst, false}
use Rattle.std.specs.List.{Contains}
use Rattle.merge_sets.specs.World.{world}
use Rattle.merge_search.specs.Reports.{AtPlaces}
use Rattle.merge_search.proofs.Adding.{adds_none, adds_then}
use Rattle.merge_search.proofs.Work.{did_none, did_then, did_map}
use Rattle.merge_tops.specs.TopCosts.{inner_set_cost}
use Rattle.merge_tops.specs.TopCounts.{inner_list}
use Rattle.merge_tops.proofs.Opening.{opens_list, opens_next, opens_start}
use Rattle.merge_tops.proofs.Spends.{no_inner, spends_list, spends_next, spends_start}
use Rattle.merge_tops.proofs.inner.compare_each_inner.Goals as goal

pub loop-place-init : goal.loop-place-init
loop-place-init g c =
    let v = world g.J.Judge.judgement c.args.graph.now in
    (did_none v _ c.args.search.now (λ M k. tt), adds_none v false (AtPlaces v c.args.s) _, spends_start v (inner_set_cost v c.args.s) c.args.inner.now no_inner c.args.search.now, opens_start v (inner_list c.args.s) c.args.inner.now no_inner c.args.counts.now)

pub compare_next-requires : goal.compare_next-requires
compare_next-requires g c = record {
  listed = λ n there. subst (λ zs. Contains zs n) c.spreads.ensures (c.in_ok-listed.ensures.only n there);
  plain = c.requires;
}

pub loop-place-preserved : goal.loop-place-preserved
loop-place-preserved g c =
    let v = world g.J.Judge.judgement c.args.graph.now in (
      did_map v _ _ (λ M h. tt) (did_then v _ _ c.loop-place.invariant.0 c.in_ok-next.ensures.done),
      adds_then v false (AtPlaces v c.args.s) c.loop-place.invariant.1 c.in_ok-next.ensures.real,
      spends_next v (inner_set_cost v c.args.s) c.args.inner.now no_inner c.loop-place.place _ _ _ c.loop-place-test.true c.loop-place.invariant.2 c.in_ok-next.ensures.spends,
      opens_next v (inner_list c.args.s) c.args.inner.now no_inner c.loop-place.place _ _ _ c.loop-place-test.true c.loop-place.invariant.3 c.in_ok-next.ensures.counts,
    )

pub returns : goal.returns
returns g c = record {
  done = c.loop-place.invariant.0;
  real = c.loop-place.invariant.1;
  spends = spends_list (world g.J.Judge.judgement c.args.graph.now) (inner_set_cost (world g.J.Judge.judgement c.args.graph.now) c.args.s) c.args.inner.now no_inner c.loop-place.place _ _ _
      c.loop-place-test.false (omega arith) c.loop-place.invariant.2;
  counts = opens_list (world g.J.Judge.judgement c.args.graph.now) (inner_list c.args.s) c.args.inner.now no_inner c.loop-place.place _ _ _ c.loop-place-test.false (omega arith) c.loop-place.invariant.3;
}
