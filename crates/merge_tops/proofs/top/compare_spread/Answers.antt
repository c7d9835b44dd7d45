use Rattle.std.proofs.Common.{◌<◌, length, get_or, inl, inr, refl, false, sym, ◌∙◌}
use Rattle.std.proofs.lemmas.List.Elements.{All-get_or, Contains-get_or}
use Rattle.merge_sets.specs.World.{world}
use Rattle.merge_search.specs.Work.{Pair}
use Rattle.merge_tops.specs.Tops.{AtListed}
use Rattle.merge_search.proofs.Adding.{adds_none, adds_map, adds_then}
use Rattle.merge_search.proofs.Work.{did_full, did_none, did_start, did_map, did_more, did_all}
use Rattle.merge_search.proofs.Costs.{spends_none}
use Rattle.merge_tops.proofs.Spends.{spends_then}
use Rattle.merge_tops.proofs.top.compare_spread.Goals as goal

pub returns-then-is_plain : goal.returns-then-is_plain
returns-then-is_plain g c =
    let v = world g.J.Judge.judgement c.args.graph.now in
    record {
      done = did_none v _ c.args.search.now (λ M grown. inl (sym c.is_plain.ensures.marked ∙ c.if-is_plain.true));
      real = adds_none v false (AtListed v c.args.f c.args.list.now) c.args.search.now.found.items;
      spends = spends_none v 0 c.args.search.now;
    }

pub compare_pair-requires : goal.compare_pair-requires
compare_pair-requires g c =
    let v = world g.J.Judge.judgement c.args.graph.now in
    record { first = c.requires.first; second = All-get_or (λ k. k < length v.fragments) c.args.list.now c.loop-g.g-index 0 c.loop-g-test.true c.requires.list; plain = c.requires.plain }

pub loop-g-init : goal.loop-g-init
loop-g-init g c =
    let v = world g.J.Judge.judgement c.args.graph.now in
    (did_start v (λ k M. Pair M false c.args.f k) c.args.list.now c.args.search.now, adds_none v false _ _, spends_none v 0 c.args.search.now)

pub loop-g-preserved : goal.loop-g-preserved
loop-g-preserved g c =
    let v = world g.J.Judge.judgement c.args.graph.now in (
      did_more v (λ k M. Pair M false c.args.f k) c.args.list.now c.loop-g.g-index 0 c.loop-g-test.true c.loop-g.invariant.0 c.in_ok-compare_pair.ensures.done,
      adds_then v false _ c.loop-g.invariant.1 (adds_map v false _ _ (λ x z. (get_or c.args.list.now c.loop-g.g-index 0, Contains-get_or c.args.list.now c.loop-g.g-index 0 c.loop-g-test.true, z)) c.in_ok-compare_pair.ensures.real),
      spends_then v 0 0 _ _ _ c.loop-g.invariant.2 c.in_ok-compare_pair.ensures.spends,
    )

pub returns : goal.returns
returns g c =
    let v = world g.J.Judge.judgement c.args.graph.now in
    record {
      done = did_map v _ _ (λ M h. inr h) (did_all v (λ k M. Pair M false c.args.f k) c.args.list.now c.args.list.now c.loop-g.g-index c.loop-g-test.false refl c.loop-g.invariant.0);
      real = c.loop-g.invariant.1;
      spends = c.loop-g.invariant.2;
    }

pub returns-then-is_full : goal.returns-then-is_full
returns-then-is_full g c =
    let v = world g.J.Judge.judgement c.args.graph.now in
    let full = c.if-is_full.ensures in
    record { done = did_full v _ c.args.search.now full; real = adds_none v false _ _; spends = spends_none v 0 c.args.search.now }
