use Rattle.std.proofs.Common.{◌≤◌, ◌-◌, ◌*◌, ◌^◌, ◌<◌, [], ℕ, ap, length, get_or, sym, subst, arith, false}
use Rattle.std.proofs.lemmas.List.Elements.{Contains-get_or}
use Rattle.merge_sets.specs.World.{HasRoom, world}
use Rattle.merge_search.specs.Counts.{all_spreads}
use Rattle.merge_search.specs.Reports.{AddsAll, AtSearched, Judged}
use Rattle.merge_tops.specs.Tops.{AtTop, Together}
use Rattle.merge_search.proofs.Adding.{Upto, all_start, all_more}
use Rattle.merge_tops.proofs.Counting.{at_most, at_least, small_square}
use Rattle.merge_tops.proofs.Judging.{begins_asked, next_tops, no_tops, judged_at, all_tops}
use Rattle.merge_search.proofs.Tallying.{no_tally}
use Rattle.merge_search.proofs.Work.{grows_same}
use Rattle.merge_tops.specs.TopCosts.{search_cost, set_cost}
use Rattle.merge_tops.specs.TopCounts.{most_openings, set_lists, top_lists}
use Rattle.merge_tops.proofs.Opening.{looked_linear, opened_by_lists, opened_linear, opens_list, opens_next, opens_start}
use Rattle.merge_tops.proofs.Spends.{all_compared, spends_list, spends_next, spends_start}
use Rattle.merge_tops.proofs.top.search_all.Goals as goal

pub loop-s-init : goal.loop-s-init
loop-s-init g c =
    let v = world g.J.Judge.judgement c.args.graph.now in
    let asked = c.in_ok-plain.ensures.counts.keeps in
    let s = c.ask_plain.new.search in
    let b = begins_asked 0 c.no_search-search.result s c.no_search-search.ensures asked in (
      c.order-s-items.ensures,
      no_tops v c.order-s-items.result.now s.judged s b,
      subst (λ ys. AddsAll v false (AtSearched v c.order-s-items.result.now) (Upto c.order-s-items.result.now 0 0 (λ s. AtTop v s)) [] ys) (sym b.found) (all_start v false _ (λ s. AtTop v s) c.order-s-items.result.now 0 []),
      no_tally v s.judged s b,
      spends_start v (set_cost v c.args.graph.now.inner.items) c.order-s-items.result.now 0 s,
      opens_start v (set_lists c.args.graph.now.inner.items) c.order-s-items.result.now 0 c.no_counts-counts.result,
    )

pub loop-s-preserved : goal.loop-s-preserved
loop-s-preserved g c =
    let v = world g.J.Judge.judgement c.args.graph.now in (
      c.loop-s.invariant.0,
      next_tops v c.order-s-items.result.now c.loop-s.s-index c.loop-s.invariant.1 c.in_ok-search_set.ensures.done,
      all_more v false _ _ (λ s. AtTop v s) c.order-s-items.result.now c.loop-s.s-index 0 (λ r z. (get_or c.order-s-items.result.now c.loop-s.s-index 0, Contains-get_or c.order-s-items.result.now c.loop-s.s-index 0 c.loop-s-test.true, z)) c.loop-s.invariant.2 c.in_ok-search_set.ensures.real,
      c.in_ok-search_set.ensures.done.keeps c.loop-s.invariant.3,
      spends_next v (set_cost v c.args.graph.now.inner.items) c.order-s-items.result.now 0 c.loop-s.s-index _ _ _ c.loop-s-test.true c.loop-s.invariant.4 c.in_ok-search_set.ensures.spends,
      opens_next v (set_lists c.args.graph.now.inner.items) c.order-s-items.result.now 0 c.loop-s.s-index _ _ _ c.loop-s-test.true c.loop-s.invariant.5 c.in_ok-search_set.ensures.counts,
    )

pub returns : goal.returns
returns g c =
    let v = world g.J.Judge.judgement c.args.graph.now in
    let s = c.loop-s.search in
    let m = c.add_counts.new.search in
    let inner = c.args.graph.now.inner.items in
    let order = c.order-s-items.result.now in
    let n : length v.fragments < 2 ^ 63 = omega (arith, c.args.graph.now.fragments.ok.0, c.args.graph.now.fragments.ok.1, c.args.graph.now.fragments.small) in
    let added = c.add_counts.ensures in
    let found = ap (λ f. f.items) added.found in
    let compared = added.compared in
    let lists = added.lists in
    let opened = added.opened in
    let looked = added.looked in
    let none = c.no_counts-counts.ensures in
    let tops = opens_list v (set_lists inner) order 0 c.loop-s.s-index (top_lists inner order) _ _ c.loop-s-test.false (omega arith) c.loop-s.invariant.5 in
    record {
      judged = subst (λ zs. Judged v c.args.graph.now.order.items zs) (sym found)
          (judged_at v s c.args.graph.now.order.items order c.loop-s.s-index c.loop-s.invariant.0 c.loop-s-test.false c.args.graph.now.falling c.args.graph.now.listed c.loop-s.invariant.1 c.loop-s.invariant.2);
      few = subst (λ (k : ℕ). k ≤ length v.fragments * (length v.fragments - 1)) (sym compared) (at_most v s c.loop-s.invariant.3);
      enough = λ room ps h. subst (λ (k : ℕ). length ps ≤ k) (sym compared)
          (at_least v s order (all_tops v s order c.loop-s.s-index c.loop-s-test.false (c.loop-s.invariant.1 s (grows_same s) (subst (λ zs. HasRoom v zs) found room)).1)
          c.loop-s.invariant.3 (small_square (length v.fragments) n) ps (subst (λ zs. Together v zs ps) (sym c.loop-s.invariant.0) h));
      opened = opened_by_lists v inner order _ _ s m none.lists none.opened none.looked tops c.loop-s.invariant.3 lists opened looked;
      linear = subst (λ zs. m.opened ≤ length v.fragments * most_openings v inner zs) c.loop-s.invariant.0
          (opened_linear v inner order _ _ s m none.lists none.opened none.looked tops c.loop-s.invariant.3 lists opened looked);
      looked = subst (λ zs. m.looked ≤ all_spreads v * most_openings v inner zs) c.loop-s.invariant.0
          (looked_linear v inner order _ _ s m none.lists none.opened none.looked tops c.loop-s.invariant.3 lists opened looked);
      compares = subst (λ zs. m.judged ≤ 8 * search_cost v inner zs) c.loop-s.invariant.0 (omega (
        arith,
        added.judged,
        all_compared v inner order c.no_search-search.result c.ask_plain.new.search s c.no_search-search.ensures.judged c.in_ok-plain.ensures.counts
            (spends_list v (set_cost v inner) order 0 c.loop-s.s-index _ _ _ c.loop-s-test.false (omega arith) c.loop-s.invariant.4),
      ));
    }
