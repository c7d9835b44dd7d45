use Rattle.std.proofs.Common.{◌*◌, get_or, refl, sym, subst, false}
use Rattle.merge_sets.specs.Names.{named}
use Rattle.merge_sets.specs.World.{world, own_of}
use Rattle.merge_search.specs.Work.{Done}
use Rattle.merge_tops.specs.Tops.{AllBefore, AtBefore}
use Rattle.merge_search.proofs.Adding.{all_start, all_more, all_done, all_change}
use Rattle.merge_tops.proofs.Order.{own_within, row_within, tell_within}
use Rattle.merge_search.proofs.Work.{did_start, did_map, did_more, did_all}
use Rattle.merge_sets.proofs.OneName.{no_entry}
use Rattle.merge_search.specs.Spending.{Spends, name_cost}
use Rattle.merge_search.specs.Weight.{fields_weight}
use Rattle.merge_search.proofs.OwnNames.{sets_within}
use Rattle.merge_tops.proofs.Spends.{spends_list, spends_next, spends_start}
use Rattle.merge_tops.proofs.top.compare_within.Goals as goal

pub loop-first-init : goal.loop-first-init
loop-first-init g c =
    let v = world g.J.Judge.judgement c.args.graph.now in
    (c.firsts-first-items.ensures.listed, did_start v (λ f M. AllBefore (Done v M false) (named f.response (own_of v c.args.s))) c.firsts-first-items.result.now c.args.search.now, all_start v false _ (λ f. AtBefore (named f.response (own_of v c.args.s))) c.firsts-first-items.result.now no_entry _, spends_start v (λ f. name_cost v c.args.s c.args.s f.response) c.firsts-first-items.result.now no_entry c.args.search.now)

pub loop-first-preserved : goal.loop-first-preserved
loop-first-preserved g c =
    let v = world g.J.Judge.judgement c.args.graph.now in (
      c.loop-first.invariant.0,
      did_more v (λ f M. AllBefore (Done v M false) (named f.response (own_of v c.args.s))) c.firsts-first-items.result.now c.loop-first.first-index no_entry c.loop-first-test.true c.loop-first.invariant.1 (did_map v _ _ (λ M z. subst (λ ys. AllBefore (Done v M false) ys) c.group.ensures z) c.in_ok-compare_each.ensures.done),
      all_more v false _ _ (λ f. AtBefore (named f.response (own_of v c.args.s))) c.firsts-first-items.result.now c.loop-first.first-index no_entry
          (λ r z. row_within v c.args.s (get_or c.firsts-first-items.result.now c.loop-first.first-index no_entry).response (named (get_or c.firsts-first-items.result.now c.loop-first.first-index no_entry).response (own_of v c.args.s)) refl r z)
          c.loop-first.invariant.2 (all_change v false _ (AtBefore (named (get_or c.firsts-first-items.result.now c.loop-first.first-index no_entry).response (own_of v c.args.s))) _ (AtBefore (named (get_or c.firsts-first-items.result.now c.loop-first.first-index no_entry).response (own_of v c.args.s))) (λ r z. subst (λ ys. AtBefore ys r) c.group.ensures z) (λ r z. subst (λ ys. AtBefore ys r) (sym c.group.ensures) z) c.in_ok-compare_each.ensures.real),
      spends_next v (λ f. name_cost v c.args.s c.args.s f.response) c.firsts-first-items.result.now no_entry c.loop-first.first-index _ _ _ c.loop-first-test.true c.loop-first.invariant.3
          (subst (λ ys. Spends v (fields_weight v ys * fields_weight v ys) c.loop-first.search c.compare_each.new.search) c.group.ensures c.in_ok-compare_each.ensures.spends),
    )

pub returns : goal.returns
returns g c =
    let v = world g.J.Judge.judgement c.args.graph.now in
    record {
      done = did_map v _ _ (λ M h. own_within v M c.args.s c.firsts-first-items.result.now c.loop-first.invariant.0 h) (did_all v (λ f M. AllBefore (Done v M false) (named f.response (own_of v c.args.s))) c.firsts-first-items.result.now c.firsts-first-items.result.now c.loop-first.first-index c.loop-first-test.false refl c.loop-first.invariant.1);
      real = all_done v false _ _ (λ f. AtBefore (named f.response (own_of v c.args.s))) c.firsts-first-items.result.now c.loop-first.first-index no_entry c.loop-first-test.false (tell_within v c.args.s c.firsts-first-items.result.now c.loop-first.invariant.0) c.loop-first.invariant.2;
      spends = spends_list v (λ f. name_cost v c.args.s c.args.s f.response) c.firsts-first-items.result.now no_entry c.loop-first.first-index _ _ _ c.loop-first-test.false
          (sets_within v c.args.graph.now.falling c.args.s c.args.s c.firsts-first-items.result.now c.firsts-first-items.ensures.once) c.loop-first.invariant.3;
    }
