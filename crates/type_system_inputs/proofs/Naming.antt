-- The graph of a list of types is that of its input objects by their names.
use Rattle.std.proofs.Common.{◌≡◌, ℕ, ◌+◌, ◌<◌, ◌≤◌, List, [], length, map, refl, sym, subst, ap, arith, Option, None, Some, true, slice_get, string_bytes, ◌∙◌}
use Rattle.std.specs.List.{Contains}
use Rattle.std.specs.Option.{option_map_or}
use Rattle.std.proofs.lemmas.List.Elements.{All-weaker}
use Rattle.std.proofs.lemmas.Option.{slice_get_within}
use Rattle.fragment_graph.proofs.Lists.{contains_at, contains_get, none_some}
use Rattle.language_types.specs.Types.{TypeShape, non_null_named, shape}
use Rattle.meta.specs.declared.arguments.Argument.{Argument}
use Rattle.meta.specs.declared.kinds.MetaTypeOf.{MetaTypeOf}
use Rattle.meta.specs.Kinds.{input_fields_of, name_of_meta}
use Rattle.name_tables.specs.declared.map.NameMap.{NameMap}
use Rattle.name_tables.specs.Maps.{value_of}
use Rattle.schema_validation.specs.Named.{are_distinct, are_named}
use Rattle.type_system_circles.specs.declared.graph.Edge.{Edge}
use Rattle.type_system_circles.specs.declared.graph.Link.{Link}
use Rattle.type_system_circles.specs.declared.graph.Node.{Node}
use Rattle.type_system_circles.specs.declared.search.Circle.{Circle}
use Rattle.type_system_circles.specs.Graph.{FindsCircles, IsCircle, IsGraph, Stands, edges_of}
use Rattle.type_system_circles.specs.Named.{FindsNamedCircles}
use Rattle.type_system_circles.proofs.Named.{IsNamed, found, walk_stands}
use Rattle.type_system_inputs.specs.Graph.{HasPlaces, IsFieldCircle, IsFieldLink, IsInputAt, edges_from, field_of, input_field_at, name_at, required_place}
use Rattle.type_system_inputs.specs.Inputs.{FieldName, HasInputObject, HasRequiredField, IsNoLater, Requires}
use Rattle.type_system_inputs.proofs.Edges.{IsEdgeOf, as_many, edge_real, edge_whole, edges_at, required_modifiers}
use Rattle.type_system_inputs.proofs.Names.{named_at, no_later, one_place, place_named}

module _ {S C : Type 0} (places : NameMap ℕ) (ts : List (MetaTypeOf S C)) (graph : List Node) (has : HasPlaces ts places) (made : map (λ (n : Node). n.edges.items) graph ≡ map (λ t. edges_from places 0 (input_fields_of t)) ts) where
  -- what a link stands for: a type at its node, and a field of it
  pub record IsLinkOf (l : Link) : Type 0 where
    pub object : MetaTypeOf S C
    pub there : slice_get ts l.from ≡ Some object
    pub edge : IsEdgeOf places 0 (input_fields_of object) l.edge

  pub link_real : (l : Link) → Stands graph l → IsLinkOf l
  link_real l s = step (slice_get ts l.from) refl (subst (λ (es : List Edge). slice_get es s.0 ≡ Some l.edge) (edges_at places ts graph made l.from) s.1)
    where
      step : (o : Option (MetaTypeOf S C)) → slice_get ts l.from ≡ o → slice_get (option_map_or (λ (t : MetaTypeOf S C). edges_from places 0 (input_fields_of t)) o []) s.0 ≡ Some l.edge → IsLinkOf l
      step None is h = absurd (none_some l.edge h)
      step (Some t) is h = record { object = t; there = is; edge = edge_real places 0 (input_fields_of t) s.0 l.edge h }

  -- the index of its field
  field_there : (l : Link) (r : IsLinkOf l) → slice_get (input_fields_of r.object) l.edge.field ≡ Some r.edge.field
  field_there l r =
      let n : l.edge.field ≡ 0 + r.edge.index = r.edge.numbered in
      let same : r.edge.index ≡ l.edge.field = omega (arith, n) in
      subst (λ (i : ℕ). slice_get (input_fields_of r.object) i ≡ Some r.edge.field) same r.edge.there

  pub link_field : (l : Link) → Stands graph l → IsFieldLink ts l
  link_field l s = let r = link_real l s in (r.object, r.there, slice_get_within (input_fields_of r.object) l.edge.field r.edge.field (field_there l r))

  pub circle_field : (c : Circle) → IsCircle graph c.links.items → IsFieldCircle ts c
  circle_field c is = record {
    some = is.some;
    fields = All-weaker (Stands graph) (IsFieldLink ts) link_field c.links.items (walk_stands graph is.node is.node c.links.items is.walk);
  }

  -- what its field requires: the input object at its target
  target_at : (l : Link) (r : IsLinkOf l) → (shape r.edge.field.arg_type ≡ non_null_named (shape r.edge.field.arg_type).name) × IsInputAt ts (shape r.edge.field.arg_type).name l.edge.target
  target_at l r =
      let t : TypeShape = shape r.edge.field.arg_type in
      let h = required_modifiers t.modifiers (value_of places t.name) l.edge.target r.edge.place in
      (ap (λ ms. let u : TypeShape = record { name = t.name; modifiers = ms } in u) h.0, has.real t.name l.edge.target h.1)

  inside : IsGraph graph
  inside v k e h =
      let l : Link = record { from = v; edge = e } in
      let t = (target_at l (link_real l (k, h))).1 in
      let most : e.target < length ts = slice_get_within ts e.target t.object t.there in
      omega (arith, most, as_many places ts graph made)

  module _ (named : are_named name_of_meta ts ≡ true) (distinct : are_distinct name_of_meta ts ≡ true) where
    field_name : (l : Link) (r : IsLinkOf l) → string_bytes r.edge.field.name ≡ (field_of ts l).name
    field_name l r = sym (
        ap (λ o. option_map_or (λ (t : MetaTypeOf S C). input_field_at t l.edge.field) o []) r.there
        ∙ ap (λ o. option_map_or (λ (a : Argument S). string_bytes a.name) o []) (field_there l r))

    real : (l : Link) → Stands graph l → Requires ts (field_of ts l) (name_at ts l.edge.target)
    real l s =
        let r = link_real l s in
        let t = target_at l r in
        let n : List ℕ = (shape r.edge.field.arg_type).name in
        let is_target : name_at ts l.edge.target ≡ n = place_named ts named l.edge.target t.1.object n t.1.there t.1.named in
        record {
          field = record {
            object = r.object;
            listed = contains_at ts l.from r.object r.there;
            named = named_at ts named l.from r.object r.there;
            field = r.edge.field;
            own = contains_at (input_fields_of r.object) l.edge.field r.edge.field (field_there l r);
            field_named = field_name l r;
            required = t.0 ∙ ap non_null_named (sym is_target);
          };
          target = (t.1.object, contains_at ts l.edge.target t.1.object t.1.there, named_at ts named l.edge.target t.1.object t.1.there, t.1.input);
        }

    whole : (f : FieldName) (n : List ℕ) → Requires ts f n → (l : Link) × Stands graph l × (field_of ts l ≡ f) × (name_at ts l.edge.target ≡ n)
    whole f n q =
        let h : HasRequiredField ts f n = q.field in
        let from = contains_get ts h.object h.listed in
        let index = contains_get (input_fields_of h.object) h.field h.own in
        let goal : HasInputObject ts n = q.target in
        let at = contains_get ts goal.0 goal.1 in
        let w = has.whole n at.0 (record { object = goal.0; there = at.1; named = goal.2; input = goal.3 }) in
        let place : required_place places (shape h.field.arg_type) ≡ Some w.0 = ap (required_place places) h.required ∙ w.1 in
        let e : Edge = record { target = w.0; field = 0 + index.0 } in
        let edge : Contains (edges_from places 0 (input_fields_of h.object)) e = edge_whole places 0 (input_fields_of h.object) index.0 h.field w.0 index.1 place in
        let own : edges_of graph from.0 ≡ edges_from places 0 (input_fields_of h.object) =
        edges_at places ts graph made from.0 ∙ ap (λ o. option_map_or (λ (t : MetaTypeOf S C). edges_from places 0 (input_fields_of t)) o []) from.1 in
        let k = contains_get (edges_from places 0 (input_fields_of h.object)) e edge in
        let there : slice_get (edges_of graph from.0) k.0 ≡ Some e = ap (λ es. slice_get es k.0) own ∙ k.1 in
        let to = has.real n w.0 w.1 in
        let zero_index : 0 + index.0 ≡ index.0 = omega arith in
        let is_of : name_at ts from.0 ≡ f.of = place_named ts named from.0 h.object f.of from.1 h.named in
        let is_name : (field_of ts (record { from = from.0; edge = e })).name ≡ f.name =
        ap (λ o. option_map_or (λ (t : MetaTypeOf S C). input_field_at t (0 + index.0)) o []) from.1
        ∙ ap (λ (i : ℕ). input_field_at h.object i) zero_index
        ∙ ap (λ o. option_map_or (λ (a : Argument S). string_bytes a.name) o []) index.1
        ∙ h.field_named in (
          record { from = from.0; edge = e },
          (k.0, there),
          λ i. record { of = is_of i; name = is_name i },
          place_named ts named w.0 to.object n to.there to.named,
        )

    naming : IsNamed (λ (f : FieldName). f.of) (Requires ts) graph (name_at ts) (field_of ts)
    naming = record {
      inside = inside;
      one = λ v w inside_v inside_w same. one_place ts named distinct v w (within v inside_v) (within w inside_w) same;
      real = λ l s. (refl, real l s);
      whole = whole;
    }
      where
        within : (v : ℕ) → v < length graph → v < length ts
        within v h = omega (arith, h, as_many places ts graph made)

    order : (v w : ℕ) → v < length graph → w < length graph → v ≤ w → IsNoLater ts (name_at ts v) (name_at ts w)
    order v w inside_v inside_w le =
        no_later ts named distinct v w (omega (arith, inside_v, as_many places ts graph made)) (omega (arith, inside_w, as_many places ts graph made)) le

    -- what was found in it, by names
    pub told : (circles : List Circle) → FindsCircles graph circles → FindsNamedCircles (λ (f : FieldName). f.of) (Requires ts) (IsNoLater ts) (map (λ c. map (field_of ts) c.links.items) circles)
    told circles h = found (λ (f : FieldName). f.of) (Requires ts) graph (name_at ts) (field_of ts) naming (IsNoLater ts) order circles h

  pub is_graph : IsGraph graph
  is_graph = inside
