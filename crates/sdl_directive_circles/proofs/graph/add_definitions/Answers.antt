use Rattle.sdl_directive_circles.specs.Graph.{links_of}
use Rattle.sdl_directive_circles.proofs.Adding.{adds_next}
use Rattle.sdl_directive_circles.proofs.graph.add_definitions.Goals as goal

pub loop-definition-preserved : goal.loop-definition-preserved
loop-definition-preserved c =
    adds_next (links_of c.args.places.now) c.args.document.now c.loop-definition.definition-index c.definition-item.result _
    c.args.nodes.now.items c.loop-definition.nodes.items c.add_definition.new.nodes.items c.loop-definition-test.true
    c.definition-item.is c.loop-definition.invariant c.in_ok-add_definition.ensures
