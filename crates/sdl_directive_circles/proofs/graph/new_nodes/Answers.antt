use Rattle.sdl_directive_circles.proofs.Adding.{bare_more}
use Rattle.sdl_directive_circles.proofs.graph.new_nodes.Goals as goal

pub loop-preserved : goal.loop-preserved
loop-preserved c =
    bare_more c.loop.counter c.loop.nodes.items c.push.new.self.items _ c.in_ok-push.ensures.items c.new.ensures.items c.loop.invariant
