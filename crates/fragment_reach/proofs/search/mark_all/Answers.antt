use Rattle.std.proofs.Common.{List, take, subst, sym}
use Rattle.std.proofs.lemmas.List.{take_more}
use Rattle.fragment_graph.specs.declared.graph.Spread.{Spread}
use Rattle.fragment_reach.specs.Search.{Marks}
use Rattle.fragment_reach.proofs.Marking.{marks_then}
use Rattle.fragment_reach.proofs.search.mark_all.Goals as goal

pub loop-spread-preserved : goal.loop-spread-preserved
loop-spread-preserved c = (
  subst (λ (zs : List Spread). Marks zs c.args.order.now.items c.args.marks.now.items c.mark.new.order.items c.mark.new.marks.items)
      (sym (take_more c.args.spreads.now c.loop-spread.spread-index _ c.loop-spread-test.true))
      (marks_then (take c.loop-spread.spread-index c.args.spreads.now) _ c.args.order.now.items c.loop-spread.order.items c.mark.new.order.items
      c.args.marks.now.items c.loop-spread.marks.items c.mark.new.marks.items c.loop-spread.invariant.0 c.in_ok-mark.ensures.marks),
  c.in_ok-mark.ensures.well,
)
