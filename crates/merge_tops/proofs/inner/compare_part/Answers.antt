use Rattle.std.proofs.Common.{◌*◌, ◌∙◌, ◌≡◌, ◌≤◌, ℕ, subst, sym, get_or, false}
use Rattle.merge_sets.specs.World.{world, own_of}
use Rattle.merge_search.specs.Reports.{AtLists}
use Rattle.merge_tops.specs.Inner.{AtPart}
use Rattle.merge_search.proofs.Adding.{adds_none}
use Rattle.merge_tops.proofs.Again.{row_groups, adds_next}
use Rattle.merge_sets.proofs.OneName.{no_entry}
use Rattle.merge_search.proofs.Work.{did_none, did_then, did_map}
use Rattle.std.specs.Prelude.{sum_by}
use Rattle.merge_sets.specs.Names.{HaveOwnNames, named}
use Rattle.merge_search.specs.Spending.{Spends}
use Rattle.merge_search.specs.Weight.{fields_weight}
use Rattle.merge_search.proofs.OwnNames.{lists_within}
use Rattle.merge_tops.proofs.Spends.{spends_list, spends_next, spends_start}
use Rattle.merge_search.proofs.Weights.{own_weight}
use Rattle.merge_tops.proofs.inner.compare_part.Goals as goal

pub loop-first-init : goal.loop-first-init
loop-first-init g c =
    let v = world g.J.Judge.judgement c.args.graph.now in
    (did_none v _ c.args.search.now (λ M k. tt), adds_none v false (AtPart c.args.part.now.own.items (own_of v c.args.j)) _, spends_start v (λ f. fields_weight v (named f.response c.args.part.now.own.items) * fields_weight v (named f.response (own_of v c.args.j))) c.first_fields-first-items.result.now no_entry c.args.search.now)

pub loop-first-preserved : goal.loop-first-preserved
loop-first-preserved g c =
    let v = world g.J.Judge.judgement c.args.graph.now in
    let first = get_or c.first_fields-first-items.result.now c.loop-first.first-index no_entry in
    let named_is : c.fields_named.result.now ≡ named first.response c.args.part.now.own.items = c.fields_named.ensures ∙ c.sorted_fields.ensures.grouped first.response in (
      did_map v _ _ (λ M h. tt) (did_then v _ _ c.loop-first.invariant.0 c.in_ok-compare_groups.ensures.done),
      adds_next v (AtPart c.args.part.now.own.items (own_of v c.args.j)) (AtLists c.fields_named.result.now c.group.result.now)
          (row_groups first.response c.args.part.now.own.items c.sorted_fields.result.now (own_of v c.args.j) c.fields_named.result.now c.group.result.now c.sorted_fields.ensures.grouped c.fields_named.ensures c.group.ensures)
          c.loop-first.invariant.1 c.in_ok-compare_groups.ensures.real,
      spends_next v (λ f. fields_weight v (named f.response c.args.part.now.own.items) * fields_weight v (named f.response (own_of v c.args.j))) c.first_fields-first-items.result.now no_entry c.loop-first.first-index _ _ _ c.loop-first-test.true c.loop-first.invariant.2
          (subst (λ ys. Spends v (fields_weight v (named first.response c.args.part.now.own.items) * fields_weight v ys) c.loop-first.search c.compare_groups.new.search) c.group.ensures (subst (λ xs. Spends v (fields_weight v xs * fields_weight v c.group.result.now) c.loop-first.search c.compare_groups.new.search) named_is c.in_ok-compare_groups.ensures.spends)),
    )

pub returns : goal.returns
returns g c =
    let v = world g.J.Judge.judgement c.args.graph.now in
    record {
      done = c.loop-first.invariant.0;
      real = c.loop-first.invariant.1;
      spends = spends_list v (λ f. fields_weight v (named f.response c.args.part.now.own.items) * fields_weight v (named f.response (own_of v c.args.j))) c.first_fields-first-items.result.now no_entry c.loop-first.first-index _ _ _ c.loop-first-test.false
          ((subst (λ (n : ℕ). sum_by (λ f. fields_weight v (named f.response c.args.part.now.own.items) * fields_weight v (named f.response (own_of v c.args.j))) c.first_fields-first-items.result.now ≤ fields_weight v c.args.part.now.own.items * n) (sym (own_weight v c.args.graph.now.falling c.args.j)) (lists_within v c.args.part.now.own.items (own_of v c.args.j) c.first_fields-first-items.result.now (subst HaveOwnNames (sym c.first_fields-first-items.ensures) c.args.part.now.once)))) c.loop-first.invariant.2;
    }
