use Rattle.std.proofs.Common.{◌*◌, ◌∙◌, ◌≡◌, subst, sym, get_or, false}
use Rattle.merge_sets.specs.World.{world}
use Rattle.merge_search.specs.Reports.{AtPlaces}
use Rattle.merge_tops.specs.Tops.{AtBefore}
use Rattle.merge_search.proofs.Adding.{adds_none}
use Rattle.merge_tops.proofs.Again.{row_part, adds_next}
use Rattle.merge_sets.proofs.OneName.{no_entry}
use Rattle.merge_search.proofs.Work.{did_none, did_then, did_map}
use Rattle.merge_sets.specs.Names.{HaveOwnNames, named}
use Rattle.merge_search.specs.Spending.{Spends}
use Rattle.merge_search.specs.Weight.{fields_weight}
use Rattle.merge_search.proofs.OwnNames.{lists_within}
use Rattle.merge_tops.proofs.Spends.{spends_list, spends_next, spends_start}
use Rattle.merge_tops.proofs.inner.compare_own_part.Goals as goal

pub loop-first-init : goal.loop-first-init
loop-first-init g c =
    let v = world g.J.Judge.judgement c.args.graph.now in
    (did_none v _ c.args.search.now (λ M k. tt), adds_none v false (AtPlaces v c.args.s) _, spends_start v (λ f. fields_weight v (named f.response c.args.part.now.own.items) * fields_weight v (named f.response c.args.part.now.own.items)) c.first_fields-first-items.result.now no_entry c.args.search.now)

pub compare_each-requires : goal.compare_each-requires
compare_each-requires g c = c.requires.plain

pub loop-first-preserved : goal.loop-first-preserved
loop-first-preserved g c =
    let v = world g.J.Judge.judgement c.args.graph.now in
    let first = get_or c.first_fields-first-items.result.now c.loop-first.first-index no_entry in
    let named_is : c.fields_named.result.now ≡ named first.response c.args.part.now.own.items = c.fields_named.ensures ∙ c.sorted_fields.ensures.grouped first.response in (
      did_map v _ _ (λ M h. tt) (did_then v _ _ c.loop-first.invariant.0 c.in_ok-compare_each.ensures.done),
      adds_next v (AtPlaces v c.args.s) (AtBefore c.fields_named.result.now)
          (row_part v c.args.s first.response c.args.part.now.own.items c.sorted_fields.result.now c.fields_named.result.now c.requires.part c.sorted_fields.ensures.grouped c.fields_named.ensures)
          c.loop-first.invariant.1 c.in_ok-compare_each.ensures.real.adds,
      spends_next v (λ f. fields_weight v (named f.response c.args.part.now.own.items) * fields_weight v (named f.response c.args.part.now.own.items)) c.first_fields-first-items.result.now no_entry c.loop-first.first-index _ _ _ c.loop-first-test.true c.loop-first.invariant.2
          (subst (λ ys. Spends v (fields_weight v ys * fields_weight v ys) c.loop-first.search c.compare_each.new.search) named_is c.in_ok-compare_each.ensures.spends),
    )

pub returns : goal.returns
returns g c =
    let v = world g.J.Judge.judgement c.args.graph.now in
    record {
      done = c.loop-first.invariant.0;
      real = c.loop-first.invariant.1;
      spends = spends_list v (λ f. fields_weight v (named f.response c.args.part.now.own.items) * fields_weight v (named f.response c.args.part.now.own.items)) c.first_fields-first-items.result.now no_entry c.loop-first.first-index _ _ _ c.loop-first-test.false
          (lists_within v c.args.part.now.own.items c.args.part.now.own.items c.first_fields-first-items.result.now (subst HaveOwnNames (sym c.first_fields-first-items.ensures) c.args.part.now.once)) c.loop-first.invariant.2;
    }
