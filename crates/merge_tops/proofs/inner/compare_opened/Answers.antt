use Rattle.std.proofs.Common.{◌*◌, ℕ, arith, subst, get_or, false}
use Rattle.std.proofs.lemmas.List.Elements.{All-get_or}
use Rattle.merge_sets.specs.World.{world, own_of}
use Rattle.merge_sets.specs.Opening.{ReachedFrom}
use Rattle.merge_tops.specs.Inner.{AtPart, AtParts}
use Rattle.merge_search.proofs.Adding.{adds_none}
use Rattle.merge_tops.proofs.Again.{row_reached, adds_next}
use Rattle.merge_search.proofs.Work.{did_none, did_then, did_map}
use Rattle.merge_search.specs.Spending.{Spends}
use Rattle.merge_search.specs.Weight.{fields_weight, fragment_weight, weight}
use Rattle.merge_tops.proofs.Spends.{spends_list, spends_next, spends_start, times_left}
use Rattle.merge_tops.proofs.inner.compare_opened.Goals as goal

pub loop-h-init : goal.loop-h-init
loop-h-init g c =
    let v = world g.J.Judge.judgement c.args.graph.now in
    (did_none v _ c.args.search.now (λ M k. tt), adds_none v false (AtParts v c.args.part.now.own.items c.args.starts.now) _, spends_start v (λ h. fields_weight v c.args.part.now.own.items * fragment_weight v h) c.args.opening.now 0 c.args.search.now)

pub loop-h-preserved : goal.loop-h-preserved
loop-h-preserved g c =
    let v = world g.J.Judge.judgement c.args.graph.now in
    let h = get_or c.args.opening.now c.loop-h.h-index 0 in (
      did_map v _ _ (λ M k. tt) (did_then v _ _ c.loop-h.invariant.0 c.in_ok-compare_part.ensures.done),
      adds_next v (AtParts v c.args.part.now.own.items c.args.starts.now) (AtPart c.args.part.now.own.items (own_of v c.set.result))
          (row_reached v c.args.part.now.own.items c.args.starts.now h c.set.result (All-get_or (ReachedFrom v c.args.starts.now) c.args.opening.now c.loop-h.h-index 0 c.loop-h-test.true c.requires) c.set.ensures)
          c.loop-h.invariant.1 c.in_ok-compare_part.ensures.real,
      spends_next v (λ h. fields_weight v c.args.part.now.own.items * fragment_weight v h) c.args.opening.now 0 c.loop-h.h-index _ _ _ c.loop-h-test.true c.loop-h.invariant.2
          (subst (λ (t : ℕ). Spends v (fields_weight v c.args.part.now.own.items * weight v t) c.loop-h.search c.compare_part.new.search) c.set.ensures c.in_ok-compare_part.ensures.spends),
    )

pub returns : goal.returns
returns g c =
    let v = world g.J.Judge.judgement c.args.graph.now in
    record {
      done = c.loop-h.invariant.0;
      real = c.loop-h.invariant.1;
      spends = spends_list v (λ h. fields_weight v c.args.part.now.own.items * fragment_weight v h) c.args.opening.now 0 c.loop-h.h-index _ _ _ c.loop-h-test.false
          (omega (arith, times_left (fragment_weight v) (fields_weight v c.args.part.now.own.items) c.args.opening.now)) c.loop-h.invariant.2;
    }
