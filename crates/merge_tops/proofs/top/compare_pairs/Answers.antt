use Rattle.std.proofs.Common.{◌<◌, length, get_or, refl, sym, subst, false}
use Rattle.std.proofs.lemmas.List.Elements.{All-get_or, Contains-get_or}
use Rattle.std.proofs.lemmas.Result.{on_ok_weaker}
use Rattle.merge_sets.specs.World.{world}
use Rattle.merge_search.specs.Reports.{Adds}
use Rattle.merge_tops.specs.Tops.{AtTwo, SpreadDone}
use Rattle.merge_search.proofs.Adding.{adds_none, adds_map, adds_then}
use Rattle.merge_tops.proofs.Spreads.{spreads_done}
use Rattle.merge_search.proofs.Work.{did_start, did_then, did_map, did_more, did_all}
use Rattle.merge_search.proofs.Costs.{spends_none}
use Rattle.merge_tops.proofs.Spends.{spends_then}
use Rattle.merge_tops.proofs.top.compare_pairs.Goals as goal

pub compare_spread-requires : goal.compare_spread-requires
compare_spread-requires g c =
    let v = world g.J.Judge.judgement c.args.graph.now in
    record { first = All-get_or (λ k. k < length v.fragments) c.args.list.now c.loop-f.f-index 0 c.loop-f-test.true c.requires.list; list = c.requires.list; plain = c.requires.plain }

pub note_plain-requires : goal.note_plain-requires
note_plain-requires g c = record { list = c.requires.list; plain = c.requires.plain }

pub loop-f-init : goal.loop-f-init
loop-f-init g c =
    let v = world g.J.Judge.judgement c.args.graph.now in
    (did_start v (λ f M. SpreadDone v M c.args.plain.now c.args.list.now f) c.args.list.now c.args.search.now, adds_none v false _ _, spends_none v 0 c.args.search.now)

pub loop-f-preserved : goal.loop-f-preserved
loop-f-preserved g c =
    let v = world g.J.Judge.judgement c.args.graph.now in
    let list = c.args.list.now in (
      did_more v (λ f M. SpreadDone v M c.args.plain.now list f) list c.loop-f.f-index 0 c.loop-f-test.true c.loop-f.invariant.0 c.in_ok-compare_spread.ensures.done,
      adds_then v false _ c.loop-f.invariant.1 (adds_map v false _ _ (λ x z. (get_or list c.loop-f.f-index 0, Contains-get_or list c.loop-f.f-index 0 c.loop-f-test.true, z)) c.in_ok-compare_spread.ensures.real),
      spends_then v 0 0 _ _ _ c.loop-f.invariant.2 c.in_ok-compare_spread.ensures.spends,
    )

pub returns : goal.returns
returns g c =
    let v = world g.J.Judge.judgement c.args.graph.now in
    let list = c.args.list.now in
    record {
      done = on_ok_weaker c.note_plain.result (λ d. did_map v _ _ (λ M h. spreads_done v M c.args.plain.now list h.0 h.1)
          (did_then v _ _ (did_all v (λ f M. SpreadDone v M c.args.plain.now list f) list list c.loop-f.f-index c.loop-f-test.false refl c.loop-f.invariant.0) d)) c.note_plain.ensures.done;
      real = on_ok_weaker c.note_plain.result (λ e. subst (λ zs. Adds v false (AtTwo v list) c.args.search.now.found.items zs) (sym e) c.loop-f.invariant.1) c.note_plain.ensures.real;
      spends = on_ok_weaker c.note_plain.result (spends_then v 0 0 _ _ _ c.loop-f.invariant.2) c.note_plain.ensures.spends;
    }
