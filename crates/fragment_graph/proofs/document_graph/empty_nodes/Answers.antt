use Rattle.std.proofs.Common.{◌+◌, ◌∷◌, [], ap, length, length-append, ◌∙◌}
use Rattle.fragment_graph.proofs.GraphGrowth.{none_at_all, empty_more, none_counted, counted_more}
use Rattle.fragment_graph.proofs.document_graph.empty_nodes.Goals as goal

pub loop-number-init : goal.loop-number-init
loop-number-init c = (ap length c.in_ok-nodes.ensures.items, λ k. none_at_all c.in_ok-nodes.nodes.items k c.in_ok-nodes.ensures.items, none_counted c.in_ok-nodes.nodes.items c.in_ok-nodes.ensures.items)

pub loop-number-preserved : goal.loop-number-preserved
loop-number-preserved c = (
  ap length c.in_ok-push.ensures.items ∙ length-append c.loop-number.nodes.items (record { spreads = c.new.result } ∷ []) ∙ ap (λ n. n + 1) c.loop-number.invariant.0,
  λ k. empty_more c.loop-number.nodes.items c.push.new.self.items (record { spreads = c.new.result }) k c.in_ok-push.ensures.items c.new.ensures.items c.loop-number.invariant.1,
  counted_more c.loop-number.nodes.items c.push.new.self.items (record { spreads = c.new.result }) c.in_ok-push.ensures.items c.new.ensures.items c.loop-number.invariant.2,
)
