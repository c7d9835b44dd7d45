use Rattle.std.proofs.Common.{◌≡◌, ◌<◌, arith, length}
use Rattle.sdl_directive_circles.proofs.Placing.{within}
use Rattle.sdl_directive_circles.proofs.Ways.{made}
use Rattle.sdl_directive_circles.proofs.graph.references_in.Goals as goal

pub add_definitions-requires : goal.add_definitions-requires
add_definitions-requires c = λ a v is.
    let inside : v < length c.args.document.now = within c.args.document.now c.in_ok-places.places c.in_ok-places.ensures a v is in
    let sized : length c.in_ok-nodes.nodes.items ≡ length c.args.document.now = c.in_ok-nodes.ensures.sized in
    omega (arith, inside, sized)

pub returns : goal.returns
returns c =
    made c.args.document.now (record { places = c.in_ok-places.places; nodes = c.add_definitions.new.nodes }) c.in_ok-nodes.nodes.items
    c.in_ok-places.ensures c.in_ok-nodes.ensures c.in_ok-add_definitions.ensures
