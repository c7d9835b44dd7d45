use Rattle.std.proofs.Common.{Some, refl, subst}
use Rattle.std.specs.List.{flat_map}
use Rattle.std.proofs.lemmas.List.{take_all}
use Rattle.sdl_directive_circles.specs.Graph.{AddsLinks, links_between, place_of}
use Rattle.sdl_directive_circles.specs.Uses.{name_value}
use Rattle.sdl_directive_circles.proofs.Adding.{adds_next}
use Rattle.sdl_directive_circles.proofs.graph.add_links.Goals as goal

pub loop-name-preserved : goal.loop-name-preserved
loop-name-preserved c =
    adds_next (λ u. links_between (Some c.args.from) (place_of c.args.places.now (name_value u))) c.args.uses.now c.loop-name.name-index _ _
    c.args.nodes.now.items c.loop-name.nodes.items c.add_link.new.nodes.items c.loop-name-test.true refl c.loop-name.invariant
    c.in_ok-add_link.ensures

pub returns : goal.returns
returns c =
    let uses = c.args.uses.now in
    subst (λ us. AddsLinks (flat_map (λ u. links_between (Some c.args.from) (place_of c.args.places.now (name_value u))) us)
    c.args.nodes.now.items c.loop-name.nodes.items)
    (take_all c.loop-name.name-index uses c.loop-name-test.false) c.loop-name.invariant
