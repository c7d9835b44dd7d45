use Rattle.std.proofs.Common.{refl}
use Rattle.graph_ways.proofs.Entries.{enters_next, enters_none}
use Rattle.graph_ways.proofs.entering.enter_from.Goals as goal

pub loop-edge-init : goal.loop-edge-init
loop-edge-init c = enters_none c.args.entering.now.items

pub loop-edge-preserved : goal.loop-edge-preserved
loop-edge-preserved c =
    enters_next c.args.from c.args.own.now c.loop-edge.edge-index _ _ c.args.entering.now.items c.loop-edge.entering.items
    c.enter.new.entering.items c.loop-edge-test.true refl c.loop-edge.invariant c.in_ok-enter.ensures
