use Rattle.std.proofs.Common.{List, subst, sym}
use Rattle.graph_ways.specs.Onward.{LeadBack}
use Rattle.type_system_circles.specs.declared.graph.Node.{Node}
use Rattle.type_system_circles.specs.Graph.{IsGraph}
use Rattle.sdl_directive_circles.specs.Circles.{circle_values}
use Rattle.sdl_directive_circles.proofs.Found.{circles_next}
use Rattle.sdl_directive_circles.proofs.Ways.{is_graph}
use Rattle.sdl_directive_circles.proofs.circles.circles_in.Goals as goal

pub ways_of-requires : goal.ways_of-requires
ways_of-requires c = subst IsGraph (sym c.as_slice.ensures.value) (is_graph c.args.document.now c.args.references.now c.requires)

pub add_circle-requires-clause-ways : goal.add_circle-requires-clause-ways
add_circle-requires-clause-ways c =
    subst (λ (g : List Node). LeadBack g c.in_ok-ways.ways) c.as_slice.ensures.value c.in_ok-ways.ensures.back

pub loop-definition-preserved : goal.loop-definition-preserved
loop-definition-preserved c =
    circles_next c.args.document.now c.args.document.now c.loop-definition.definition-index c.definition-item.result _
    (circle_values c.loop-definition.circles.items) (circle_values c.add_circle.new.circles.items)
    c.loop-definition-test.true c.definition-item.is c.loop-definition.invariant c.in_ok-add_circle.ensures
