use Rattle.std.proofs.Common.{List, Option, Vec, ap, refl, subst, sym, ◌∙◌}
use Rattle.std.specs.List.{flat_map}
use Rattle.std.specs.Prelude.{IfSome}
use Rattle.std.specs.declared.alloc.Global.{Global}
use Rattle.graph_ways.specs.Onward.{LeadBack}
use Rattle.graph_ways.specs.Ways.{HasNoWayBack, IsWayBack}
use Rattle.type_system_circles.specs.declared.graph.Link.{Link}
use Rattle.type_system_circles.specs.declared.graph.Node.{Node}
use Rattle.sdl_directive_circles.specs.Graph.{link_told}
use Rattle.sdl_directive_circles.proofs.Ways.{no_way, way_found}
use Rattle.sdl_directive_circles.proofs.circles.circle_from.Goals as goal

pub way_back-requires : goal.way_back-requires
way_back-requires c =
    subst (λ (g : List Node). LeadBack g c.args.ways.now) (sym c.as_slice.ensures.value) c.requires.ways

pub returns-in_ok-way-in-Some : goal.returns-in_ok-way-in-Some
returns-in_ok-way-in-Some c =
    let document = c.args.document.now in
    let root = c.args.root in
    let links = c.in-Some.links.items in
    let back = subst (λ (o : Option (Vec Link Global)). IfSome o (λ ls. IsWayBack c.as_slice.result.now root ls.items)) c.in-Some.is
    c.in_ok-links.ensures.real in
    let w = way_found document c.args.references.now c.requires.references c.args.defined.now root c.requires.place links
    (subst (λ g. IsWayBack g root links) c.as_slice.ensures.value back) in
    record {
      position = refl;
      name = refl;
      names = w.0;
      back = w.1;
      way = c.in_ok-way-in-Some.ensures ∙ ap (λ ls. flat_map (link_told document) ls) c.as_slice-in-Some.ensures.value ∙ w.2;
    }

pub returns-in-None : goal.returns-in-None
returns-in-None c =
    no_way c.args.document.now c.args.references.now c.requires.references c.args.defined.now c.args.root c.requires.place
    (subst (λ g. HasNoWayBack g c.args.root) c.as_slice.ensures.value (c.in_ok-links.ensures.none (c.in-None.is)))
