use Rattle.std.proofs.Common.{◌≡◌, arith, length, ◌∙◌}
use Rattle.graph_ways.proofs.Entries.{entered_all, enters_node, enters_none, targets_inside}
use Rattle.graph_ways.proofs.entering.entering_of.Goals as goal

pub loop-node-init : goal.loop-node-init
loop-node-init c = enters_none c.in_ok-entering.entering.items

pub enter_from-requires : goal.enter_from-requires
enter_from-requires c =
    rw c.edges.ensures (targets_inside c.args.graph.now c.loop-node.node (length c.loop-node.entering.items)
    (c.loop-node.invariant.sized ∙ c.in_ok-entering.ensures.sized) c.requires)

pub loop-node-preserved : goal.loop-node-preserved
loop-node-preserved c =
    enters_node c.args.graph.now c.loop-node.node c.in_ok-entering.entering.items c.loop-node.entering.items c.enter_from.new.entering.items
    c.loop-node.invariant (rw c.edges.ensures at c.in_ok-enter_from.ensures)

pub returns : goal.returns
returns c =
    let g = c.args.graph.now in
    let all : c.loop-node.node ≡ length g = omega arith in
    entered_all g c.loop-node.node c.in_ok-entering.entering.items c.loop-node.entering.items all c.in_ok-entering.ensures
    c.loop-node.invariant
