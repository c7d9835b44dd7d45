use Rattle.std.proofs.Common.{◌≡◌, List, ap, map, subst, sym, ◌∙◌}
use Rattle.std.specs.List.{All}
use Rattle.std.proofs.lemmas.List.Elements.{All-same, All-weaker}
use Rattle.language_types.specs.References.{list_copied}
use Rattle.meta.specs.Kinds.{input_fields_of}
use Rattle.type_system_circles.specs.declared.graph.Node.{Node}
use Rattle.type_system_circles.specs.Graph.{IsCircle}
use Rattle.type_system_inputs.specs.Graph.{HasPlaces, IsFieldCircle, edges_from}
use Rattle.type_system_inputs.proofs.Finds.{finds}
use Rattle.type_system_inputs.proofs.Naming.{circle_field, is_graph, told}
use Rattle.type_system_inputs.proofs.circles.input_circles.Goals as goal

pub circles_of-requires : goal.circles_of-requires
circles_of-requires g c =
    let ts = c.args.schema.now.types in
    let places = c.in_ok-places.places in
    let has : HasPlaces ts places = subst (λ us. HasPlaces us places) (ap list_copied c.as_slice.ensures.value ∙ c.in_ok-types.ensures) c.in_ok-places.ensures in
    let made : map (λ (n : Node). n.edges.items) c.as_slice-3.result.now ≡ map (λ t. edges_from places 0 (input_fields_of t)) ts =
    ap (λ (ns : List Node). map (λ (n : Node). n.edges.items) ns) c.as_slice-3.ensures.value ∙ c.in_ok-graph.ensures
    ∙ ap (λ us. map (λ t. edges_from places 0 (input_fields_of t)) us) (ap list_copied c.as_slice-2.ensures.value ∙ c.in_ok-types.ensures) in
    is_graph places ts c.as_slice-3.result.now has made

pub told_circles-requires : goal.told_circles-requires
told_circles-requires g c =
    let ts = c.args.schema.now.types in
    let places = c.in_ok-places.places in
    let graph = c.as_slice-3.result.now in
    let circles = c.in_ok-found.found.circles.items in
    let has : HasPlaces ts places = subst (λ us. HasPlaces us places) (ap list_copied c.as_slice.ensures.value ∙ c.in_ok-types.ensures) c.in_ok-places.ensures in
    let made : map (λ (n : Node). n.edges.items) graph ≡ map (λ t. edges_from places 0 (input_fields_of t)) ts =
    ap (λ (ns : List Node). map (λ (n : Node). n.edges.items) ns) c.as_slice-3.ensures.value ∙ c.in_ok-graph.ensures
    ∙ ap (λ us. map (λ t. edges_from places 0 (input_fields_of t)) us) (ap list_copied c.as_slice-2.ensures.value ∙ c.in_ok-types.ensures) in
    let all : All (IsFieldCircle ts) circles = All-weaker (λ z. IsCircle graph z.links.items) (IsFieldCircle ts) (circle_field places ts graph has made) circles c.in_ok-found.ensures.circles.real in
    subst (λ us. All (IsFieldCircle us) c.as_slice-5.result.now) (sym (ap list_copied c.as_slice-4.ensures.value ∙ c.in_ok-types.ensures))
    (All-same (IsFieldCircle ts) c.as_slice-5.result.now circles c.as_slice-5.ensures.value all)

pub returns : goal.returns
returns g c =
    let schema = c.args.schema.now in
    let ts = schema.types in
    let places = c.in_ok-places.places in
    let graph = c.as_slice-3.result.now in
    let circles = c.in_ok-found.found.circles.items in
    let has : HasPlaces ts places = subst (λ us. HasPlaces us places) (ap list_copied c.as_slice.ensures.value ∙ c.in_ok-types.ensures) c.in_ok-places.ensures in
    let made : map (λ (n : Node). n.edges.items) graph ≡ map (λ t. edges_from places 0 (input_fields_of t)) ts =
    ap (λ (ns : List Node). map (λ (n : Node). n.edges.items) ns) c.as_slice-3.ensures.value ∙ c.in_ok-graph.ensures
    ∙ ap (λ us. map (λ t. edges_from places 0 (input_fields_of t)) us) (ap list_copied c.as_slice-2.ensures.value ∙ c.in_ok-types.ensures) in
    finds schema (list_copied c.as_slice-4.result.now) circles c.as_slice-5.result.now c.told_circles.result
    (sym (ap list_copied c.as_slice-4.ensures.value ∙ c.in_ok-types.ensures)) (sym c.as_slice-5.ensures.value)
    (told places ts graph has made schema.accepted.named schema.accepted.distinct circles c.in_ok-found.ensures.circles)
    c.told_circles.ensures
