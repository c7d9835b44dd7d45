use Rattle.std.proofs.Common.{arith, refl, sym, subst, false}
use Rattle.std.specs.List.{Contains}
use Rattle.std.proofs.lemmas.List.Elements.{Contains-get_or}
use Rattle.merge_sets.specs.World.{world}
use Rattle.merge_search.specs.Work.{Done}
use Rattle.merge_search.specs.Reports.{AtFields}
use Rattle.merge_search.proofs.Adding.{all_full, all_start, all_more, all_done}
use Rattle.merge_search.proofs.Work.{did_full, did_start, did_more, did_all}
use Rattle.merge_sets.proofs.OneName.{no_entry}
use Rattle.merge_search.specs.Spending.{pair_cost}
use Rattle.merge_tops.proofs.Spends.{takes_list, takes_next, takes_none, takes_start}
use Rattle.merge_tops.proofs.pairs.compare_rest.Goals as goal

pub loop-b-init : goal.loop-b-init
loop-b-init g c =
    let v = world g.J.Judge.judgement c.args.graph.now in (
      did_start v (λ b M. Done v M false c.args.a b) c.args.rest.now c.args.search.now,
      all_start v false _ (λ b. AtFields c.args.a b) c.args.rest.now no_entry _,
      takes_start v (pair_cost v c.args.a) c.args.rest.now no_entry 0 _ _ (takes_none v 0 c.args.search.now),
    )

pub loop-b-preserved : goal.loop-b-preserved
loop-b-preserved g c =
    let v = world g.J.Judge.judgement c.args.graph.now in (
      did_more v (λ b M. Done v M false c.args.a b) c.args.rest.now c.loop-b.b-index no_entry c.loop-b-test.true c.loop-b.invariant.0 c.in_ok-compare_fields.ensures.done,
      all_more v false _ _ (λ b. AtFields c.args.a b) c.args.rest.now c.loop-b.b-index no_entry
          (λ r z. (z.0, subst (λ x. Contains c.args.rest.now x) (sym z.1) (Contains-get_or c.args.rest.now c.loop-b.b-index no_entry c.loop-b-test.true))) c.loop-b.invariant.1 c.in_ok-compare_fields.ensures.real,
      takes_next v (pair_cost v c.args.a) c.args.rest.now no_entry 0 c.loop-b.b-index _ _ _ c.loop-b-test.true c.loop-b.invariant.2 c.in_ok-compare_fields.ensures.takes,
    )

pub returns : goal.returns
returns g c =
    let v = world g.J.Judge.judgement c.args.graph.now in
    record {
      done = did_all v (λ b M. Done v M false c.args.a b) c.args.rest.now c.args.rest.now c.loop-b.b-index c.loop-b-test.false refl c.loop-b.invariant.0;
      real = all_done v false _ _ (λ b. AtFields c.args.a b) c.args.rest.now c.loop-b.b-index no_entry c.loop-b-test.false (λ r z. (r.right, z.1, (z.0, refl))) c.loop-b.invariant.1;
      takes = takes_list v (pair_cost v c.args.a) c.args.rest.now no_entry 0 c.loop-b.b-index _ _ _ c.loop-b-test.false (omega arith) c.loop-b.invariant.2;
    }

pub returns-then-is_full : goal.returns-then-is_full
returns-then-is_full g c =
    let v = world g.J.Judge.judgement c.args.graph.now in
    let full = c.if-is_full.ensures in
    record { done = did_full v _ c.args.search.now full; real = all_full v false _ _ _ full; takes = takes_none v _ c.args.search.now }
