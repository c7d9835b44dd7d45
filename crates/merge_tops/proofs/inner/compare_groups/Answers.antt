use Rattle.std.proofs.Common.{◌*◌, ◌+◌, ◌≤◌, List, arith, ℕ, get_or, length, sym, subst, false}
use Rattle.std.specs.List.{Contains}
use Rattle.std.proofs.lemmas.List.Elements.{Contains-get_or}
use Rattle.merge_sets.specs.World.{World, world}
use Rattle.merge_search.specs.Reports.{Adds, AtRest, AtLists}
use Rattle.merge_search.proofs.Adding.{adds_none}
use Rattle.merge_tops.proofs.Again.{adds_next}
use Rattle.merge_sets.proofs.OneName.{no_entry}
use Rattle.merge_search.proofs.Work.{did_none, did_then, did_map}
use Rattle.std.specs.Prelude.{sum_by}
use Rattle.merge_sets.specs.declared.finding.Finding.{Finding}
use Rattle.merge_sets.specs.declared.node.Entry.{Entry}
use Rattle.merge_search.specs.Spending.{list_cost}
use Rattle.merge_search.specs.Weight.{fields_weight}
use Rattle.merge_search.proofs.Costs.{lists_all}
use Rattle.merge_search.proofs.Steps.{did_before}
use Rattle.merge_tops.proofs.Spends.{asks_take, takes_list, takes_next, takes_spend, takes_start}
use Rattle.merge_tops.proofs.inner.compare_groups.Goals as goal

asks : (w : World) (left right : List Entry) → 2 * (length left * length right) ≤ 8 * (fields_weight w left * fields_weight w right)
asks w left right = omega (arith, lists_all w left right)

asks_all : (w : World) (left right : List Entry)
    → 2 * (length left * length right) + sum_by (λ a. list_cost w a right) left ≤ 8 * (fields_weight w left * fields_weight w right)
asks_all w left right = omega (arith, lists_all w left right)

same : (n : ℕ) → n ≤ n
same n = omega arith

pub loop-a-init : goal.loop-a-init
loop-a-init g c =
    let v = world g.J.Judge.judgement c.args.graph.now in
    let asked = c.in_ok-ask_groups.ensures.counts in
    let at : List Finding → Type 0 = λ zs. Adds v false (AtLists c.args.left.now c.args.right.now) zs c.ask_groups.new.search.found.items in (
      did_before v false _ asked.keeps (did_none v _ c.ask_groups.new.search (λ M k. tt)),
      subst at asked.keeps.found (adds_none v false (AtLists c.args.left.now c.args.right.now) _),
      takes_start v (λ a. list_cost v a c.args.right.now) c.args.left.now no_entry (2 * (length c.args.left.now * length c.args.right.now)) _ _ (asks_take v _ _ _ asked),
    )

pub loop-a-preserved : goal.loop-a-preserved
loop-a-preserved g c =
    let v = world g.J.Judge.judgement c.args.graph.now in
    let a = get_or c.args.left.now c.loop-a.a-index no_entry in (
      did_map v _ _ (λ M h. tt) (did_then v _ _ c.loop-a.invariant.0 c.in_ok-compare_rest.ensures.done),
      adds_next v (AtLists c.args.left.now c.args.right.now) (AtRest a c.args.right.now)
          (λ r z. (subst (λ x. Contains c.args.left.now x) (sym z.0) (Contains-get_or c.args.left.now c.loop-a.a-index no_entry c.loop-a-test.true), z.1))
          c.loop-a.invariant.1 c.in_ok-compare_rest.ensures.real.adds,
      takes_next v (λ a. list_cost v a c.args.right.now) c.args.left.now no_entry (2 * (length c.args.left.now * length c.args.right.now)) c.loop-a.a-index _ _ _ c.loop-a-test.true
          c.loop-a.invariant.2 c.in_ok-compare_rest.ensures.takes,
    )

pub returns : goal.returns
returns g c =
    let v = world g.J.Judge.judgement c.args.graph.now in
    let left = c.args.left.now in
    let right = c.args.right.now in
    let asked = 2 * (length left * length right) in
    let all = asked + sum_by (λ a. list_cost v a right) left in
    record {
      done = c.loop-a.invariant.0;
      real = c.loop-a.invariant.1;
      spends = takes_spend v all (fields_weight v left * fields_weight v right) _ _ (asks_all v left right)
          (takes_list v (λ a. list_cost v a right) left no_entry asked c.loop-a.a-index all _ _ c.loop-a-test.false (same all)
          c.loop-a.invariant.2);
    }

pub returns-then-branch : goal.returns-then-branch
returns-then-branch g c =
    let v = world g.J.Judge.judgement c.args.graph.now in
    let left = c.args.left.now in
    let right = c.args.right.now in
    let asked = c.in_ok-ask_groups.ensures.counts in
    record {
      done = did_before v false _ asked.keeps (did_none v _ c.ask_groups.new.search (λ M k. tt));
      real = subst (λ zs. Adds v false (AtLists left right) zs c.ask_groups.new.search.found.items) asked.keeps.found (adds_none v false (AtLists left right) _);
      spends = takes_spend v (2 * (length left * length right)) (fields_weight v left * fields_weight v right) _ _ (asks v left right)
          (asks_take v _ _ _ asked);
    }
