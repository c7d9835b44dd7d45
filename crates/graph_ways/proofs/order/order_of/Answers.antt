use Rattle.std.proofs.Common.{arith, below_more}
use Rattle.graph_ways.specs.Leaving.{IsMet}
use Rattle.graph_ways.proofs.Judged.{judged}
use Rattle.graph_ways.proofs.order.order_of.Goals as goal

pub loop-root-preserved : goal.loop-root-preserved
loop-root-preserved c =
    let e = c.in_ok-visit.ensures in
    record {
      idle = e.idle;
      begun = below_more (λ v. IsMet c.visit.new.search.met.items v) c.loop-root.root
          (λ v lt. e.keeps v (c.loop-root.invariant.begun v lt)) e.begun;
    }

pub returns : goal.returns
returns c =
    let g = c.args.graph.now in
    let s = c.loop-root.search in
    let i = c.loop-root.invariant in
    let past = c.loop-root-test.false in
    judged g s.met.items s.order i.idle.sound (λ v lt. i.begun v (omega (arith, lt, past)))
