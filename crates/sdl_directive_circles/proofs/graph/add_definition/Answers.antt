use Rattle.std.proofs.Common.{List, Some, ap, length, subst, sym, ◌∙◌}
use Rattle.std.specs.List.{flat_map}
use Rattle.std.specs.Prelude.{OnOk}
use Rattle.sdl_directives.proofs.Earlier.{flat_mapped}
use Rattle.sdl_directive_circles.specs.Graph.{AddsLinks, links_between, place_of}
use Rattle.type_system_circles.specs.declared.graph.Link.{Link}
use Rattle.sdl_directive_circles.specs.Uses.{Name, defined_name, name_value, name_values, uses_of}
use Rattle.sdl_directive_circles.proofs.Adding.{adds_none, inside, links_none}
use Rattle.sdl_directive_circles.proofs.graph.add_definition.Goals as goal

pub add_links-requires : goal.add_links-requires
add_links-requires c =
    inside c.args.places.now (length c.args.nodes.now.items) c.requires (defined_name c.args.definition.now) c.in-Some.from
    (sym c.place_by.ensures ∙ c.in-Some.is)

pub returns-in_ok-uses-in-Some : goal.returns-in_ok-uses-in-Some
returns-in_ok-uses-in-Some c =
    let places = c.args.places.now in
    let used = uses_of c.args.definition.now in
    let names = c.as_slice.result.now in
    let links : Name → List Link = λ u. links_between (Some c.in-Some.from) (place_of places u) in
    let all =
    flat_mapped links name_value names
    ∙ ap (flat_map links) (ap name_values c.as_slice.ensures.value ∙ c.in_ok-uses-in-Some.ensures)
    ∙ ap (λ o. flat_map (λ u. links_between o (place_of places u)) used) (sym c.in-Some.is ∙ c.place_by.ensures) in
    subst (λ ls. OnOk c.add_links.result (AddsLinks ls c.args.nodes.now.items c.add_links.new.nodes.items)) all c.add_links.ensures

pub returns-in-None : goal.returns-in-None
returns-in-None c =
    let places = c.args.places.now in
    let used = uses_of c.args.definition.now in
    let nodes = c.args.nodes.now.items in
    let none =
    ap (λ o. flat_map (λ u. links_between o (place_of places u)) used) (sym c.place_by.ensures ∙ c.in-None.is)
    ∙ links_none (place_of places) used in
    subst (λ ls. AddsLinks ls nodes nodes) (sym none) (adds_none nodes)
