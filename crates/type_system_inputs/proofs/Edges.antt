-- The edges of the graph, and the fields that they stand for.
use Rattle.std.proofs.Common.{◌≡◌, ℕ, ◌+◌, List, [], ◌∷◌, ◌++◌, length, map, refl, sym, subst, ap, arith, Option, None, Some, zero, suc, slice_get, ◌∙◌}
use Rattle.std.specs.List.{Contains}
use Rattle.std.specs.Option.{option_map, option_map_or}
use Rattle.std.proofs.lemmas.List.{length-map}
use Rattle.std.proofs.lemmas.List.Elements.{Contains-append_left, Contains-append_right}
use Rattle.std.proofs.lemmas.Option.{slice_get-map}
use Rattle.fragment_graph.proofs.Lists.{none_some, one_contains, same_some}
use Rattle.language_types.specs.declared.types.TypeModifier.{TypeModifier}
use Rattle.language_types.specs.declared.types.TypeModifier.TheVariants as modifier
use Rattle.language_types.specs.Types.{shape}
use Rattle.meta.specs.declared.arguments.Argument.{Argument}
use Rattle.meta.specs.declared.kinds.MetaTypeOf.{MetaTypeOf}
use Rattle.meta.specs.Kinds.{input_fields_of}
use Rattle.name_tables.specs.declared.map.NameMap.{NameMap}
use Rattle.type_system_circles.specs.declared.graph.Edge.{Edge}
use Rattle.type_system_circles.specs.declared.graph.Node.{Node}
use Rattle.type_system_circles.specs.Graph.{edges_of}
use Rattle.type_system_inputs.specs.Graph.{edge_to, edges_from, if_required, required_place}

-- the edge to a node, of the field at an index
abbrev pub edge : ℕ → ℕ → Edge
edge v i = record { target = v; field = i }

-- what is required: the modifiers are a non-null alone
pub required_modifiers : {A : Type 0} (ms : List TypeModifier) (o : Option A) (x : A) → if_required ms o ≡ Some x → (ms ≡ modifier.NonNull ∷ []) × (o ≡ Some x)
required_modifiers [] o x h = absurd (none_some x h)
required_modifiers (modifier.NonNull ∷ []) o x h = (refl, h)
required_modifiers (modifier.NonNull ∷ (m ∷ ms)) o x h = absurd (none_some x h)
required_modifiers (modifier.List n ∷ ms) o x h = absurd (none_some x h)

-- and what is not
pub not_required : {A : Type 0} (ms : List TypeModifier) (o : Option A) → (ms ≡ modifier.NonNull ∷ [] → ⊥) → if_required ms o ≡ None
not_required [] o h = refl
not_required (modifier.NonNull ∷ []) o h = absurd (h refl)
not_required (modifier.NonNull ∷ (m ∷ ms)) o h = refl
not_required (modifier.List n ∷ ms) o h = refl

pub is_required : {A : Type 0} (ms : List TypeModifier) (o : Option A) → ms ≡ modifier.NonNull ∷ [] → if_required ms o ≡ o
is_required ms o h = ap (λ (xs : List TypeModifier). if_required xs o) h

module _ {S : Type 0} (places : NameMap ℕ) where
  -- an edge stands for a field that requires what is there
  pub record IsEdgeOf (i : ℕ) (fs : List (Argument S)) (e : Edge) : Type 0 where
    pub index : ℕ
    pub field : Argument S
    pub there : slice_get fs index ≡ Some field
    pub numbered : e.field ≡ i + index
    pub place : required_place places (shape field.arg_type) ≡ Some e.target

  later : (i : ℕ) (a : Argument S) (fs : List (Argument S)) (e : Edge) → IsEdgeOf (i + 1) fs e → IsEdgeOf i (a ∷ fs) e
  later i a fs e h = record {
    index = suc h.index;
    field = h.field;
    there = h.there;
    numbered = let n : e.field ≡ i + 1 + h.index = h.numbered in omega (arith, n);
    place = h.place;
  }

  pub edge_real : (i : ℕ) (fs : List (Argument S)) (k : ℕ) (e : Edge) → slice_get (edges_from places i fs) k ≡ Some e → IsEdgeOf i fs e
  edge_real i [] k e h = absurd (none_some e h)
  edge_real i (a ∷ fs) k e h = step (λ j g. later i a fs e (edge_real (i + 1) fs j e g)) (required_place places (shape a.arg_type)) refl k h
    where
      step : ((j : ℕ) → slice_get (edges_from places (i + 1) fs) j ≡ Some e → IsEdgeOf i (a ∷ fs) e)
          → (o : Option ℕ) → required_place places (shape a.arg_type) ≡ o → (j : ℕ) → slice_get (edge_to i o ++ edges_from places (i + 1) fs) j ≡ Some e → IsEdgeOf i (a ∷ fs) e
      step rest None is j g = rest j g
      step rest (Some v) is zero g =
          let same : edge v i ≡ e = same_some (edge v i) e g in
          record {
            index = 0;
            field = a;
            there = refl;
            numbered = let n : i ≡ e.field = ap (λ (x : Edge). x.field) same in omega (arith, n);
            place = is ∙ ap (λ (x : Edge). Some x.target) same;
          }
      step rest (Some v) is (suc j) g = rest j g

  pub edge_whole : (i : ℕ) (fs : List (Argument S)) (j : ℕ) (a : Argument S) (v : ℕ) → slice_get fs j ≡ Some a → required_place places (shape a.arg_type) ≡ Some v
      → Contains (edges_from places i fs) (edge v (i + j))
  edge_whole i [] j a v h p = absurd (none_some a h)
  edge_whole i (b ∷ fs) zero a v h p =
      let same : b ≡ a = same_some b a h in
      let here : required_place places (shape b.arg_type) ≡ Some v = ap (λ (x : Argument S). required_place places (shape x.arg_type)) same ∙ p in
      let index : i ≡ i + 0 = omega arith in
      subst (λ (o : Option ℕ). Contains (edge_to i o ++ edges_from places (i + 1) fs) (edge v (i + 0))) (sym here)
      (subst (λ (n : ℕ). Contains (edge v i ∷ edges_from places (i + 1) fs) (edge v n)) index
      (Contains-append_left (edge v i ∷ []) (edges_from places (i + 1) fs) (edge v i) (one_contains (edge v i))))
  edge_whole i (b ∷ fs) (suc j) a v h p =
      let rest : Contains (edges_from places (i + 1) fs) (edge v (i + 1 + j)) = edge_whole (i + 1) fs j a v h p in
      let index : i + 1 + j ≡ i + suc j = omega arith in
      Contains-append_right (edge_to i (required_place places (shape b.arg_type))) (edges_from places (i + 1) fs) (edge v (i + suc j))
      (subst (λ (n : ℕ). Contains (edges_from places (i + 1) fs) (edge v n)) index rest)

module _ {S C : Type 0} (places : NameMap ℕ) (ts : List (MetaTypeOf S C)) (graph : List Node) (made : map (λ (n : Node). n.edges.items) graph ≡ map (λ t. edges_from places 0 (input_fields_of t)) ts) where
  pub as_many : length graph ≡ length ts
  as_many = sym (length-map graph (λ (n : Node). n.edges.items)) ∙ ap (λ (es : List (List Edge)). length es) made ∙ length-map ts (λ (t : MetaTypeOf S C). edges_from places 0 (input_fields_of t))

  mapped : {A B : Type 0} (f : A → List B) (o : Option A) → option_map_or f o [] ≡ option_map_or (λ (xs : List B). xs) (option_map f o) []
  mapped f None = refl
  mapped f (Some x) = refl

  -- the edges of a node are those of the fields of its type
  pub edges_at : (v : ℕ) → edges_of graph v ≡ option_map_or (λ (t : MetaTypeOf S C). edges_from places 0 (input_fields_of t)) (slice_get ts v) []
  edges_at v =
      mapped (λ (n : Node). n.edges.items) (slice_get graph v)
      ∙ ap (λ o. option_map_or (λ (xs : List Edge). xs) o []) (sym (slice_get-map (λ (n : Node). n.edges.items) graph v))
      ∙ ap (λ es. option_map_or (λ (xs : List Edge). xs) (slice_get es v) []) made
      ∙ ap (λ o. option_map_or (λ (xs : List Edge). xs) o []) (slice_get-map (λ (t : MetaTypeOf S C). edges_from places 0 (input_fields_of t)) ts v)
      ∙ sym (mapped (λ (t : MetaTypeOf S C). edges_from places 0 (input_fields_of t)) (slice_get ts v))
