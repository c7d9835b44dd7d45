-- Each set that stands in the outline of a document is a set of the document, under the parent there.
use Rattle.std.proofs.Common.{◌≡◌, List, Option, Some, None, true, false, inl, inr, refl, ap, sym, ◌∙◌, subst}
use Rattle.std.specs.List.{Contains}
use Rattle.std.specs.declared.vec.Vec.{Vec}
use Rattle.std.specs.declared.alloc.Global.{Global}
use Rattle.std.proofs.lemmas.Bool.{true≢false}
use Rattle.language_values.specs.Each.{Each, EachIfThere}
use Rattle.language.proofs.Induction.{selection_induction}
use Rattle.language_values.proofs.Members.{In, Each-In}
use Rattle.language.specs.declared.tree.Definition.{Definition}
use Rattle.language.specs.declared.tree.Definition.TheVariants as definition
use Rattle.language.specs.declared.tree.Field.{Field}
use Rattle.language.specs.declared.tree.FragmentSpread.{FragmentSpread}
use Rattle.language.specs.declared.tree.InlineFragment.{InlineFragment}
use Rattle.language.specs.declared.tree.Selection.{Selection}
use Rattle.language.specs.declared.tree.Selection.TheVariants as selection
use Rattle.meta.specs.declared.kinds.MetaTypeOf.{MetaTypeOf}
use Rattle.schema.specs.Catalog.{Catalog}
use Rattle.merge_field_pairs.specs.OwnFields.{entry_under, type_below}
use Rattle.merge_set_table.specs.Inside.{IsInside, itself, below_field, of_inline}
use Rattle.merge_graph.specs.Definitions.{type_round, selections_of}
use Rattle.events.specs.Node.{Node, Placed}
use Rattle.events.specs.Occurrence.{Occurrence, is_document}
use Rattle.events.specs.Outline.{beside, each, outline_of_arguments, outline_of_directives, outline_of_variable_definitions, outline_of_selection, outline_of_set, outline_of_set_if_there, outline_of_definition}
use Rattle.events.specs.SchemaView.{field_arguments}
use Rattle.events.specs.Typing.{Typing, at_set, at_field, at_inline, at_operation, at_fragment}
use Rattle.events.proofs.SelectionOutlines
use Rattle.merge_walk_laws.proofs.Details.{is_detail, in_arguments, in_directives, in_variables}
use Rattle.merge_walk_laws.proofs.Finding.{whole}
use Rattle.merge_walk_laws.proofs.Meeting.{meets_definition, meets_field, meets_inline}
use Rattle.merge_walk_laws.proofs.Standing.{StandsIn, Holds, in_contains, holds_empty, holds_node, holds_beside, holds_each}

module _ {S C : Type 0} (schema : Catalog S C) where
  module _ (p : Option (MetaTypeOf S C)) (root : List (Selection S)) where
    -- the field is in a set inside the root
    abbrev InSome : Option (MetaTypeOf S C) → Placed (Field S) → Type 0
    InSome q f = (set : List (Selection S)) × IsInside schema p root q set × Contains set (selection.Field f)

    -- if the node is a set, it stands inside the root, and if it is a field, in such a set
    abbrev pub IsPlaced : Occurrence S C → Type 0
    IsPlaced o =
        ((set : List (Selection S)) → o.node ≡ Node.selection_set set → IsInside schema p root o.types.parent set)
        × ((f : Placed (Field S)) → o.node ≡ Node.field f → InSome o.types.parent f)

    detail : (n : Node S) (t : Typing S C) → is_detail n ≡ true → IsPlaced (record { node = n; types = t })
    detail n t e = (λ set same. absurd (true≢false (sym e ∙ ap is_detail same)), λ f same. absurd (true≢false (sym e ∙ ap is_detail same)))

    -- a set stands inside the root under what is round it, and so does what is in it
    abbrev Told : Selection S → Type 0
    Told s =
        (q : Option (MetaTypeOf S C)) (inner : List (Selection S)) (u : Typing S C) → IsInside schema p root q inner → In s inner → u.parent ≡ q → u.current ≡ q
        → Holds IsPlaced (outline_of_selection schema u s)

    set_told : (q : Option (MetaTypeOf S C)) (inner : List (Selection S)) (u : Typing S C) → IsInside schema p root q inner → u.current ≡ q → ((s : Selection S) → In s inner → Told s)
        → Holds IsPlaced (outline_of_set schema u inner)
    set_told q inner u inside e told =
        let selections = each (outline_of_selection schema (at_set u)) inner in
        let here : IsPlaced (record { node = Node.selection_set inner; types = at_set u }) =
        (λ set same. let is : inner ≡ set = cc in subst (λ z. IsInside schema p root u.current z) is (subst (λ r. IsInside schema p root r inner) (sym e) inside), λ f same. cc)
        in
        holds_node IsPlaced (Node.selection_set inner) (at_set u) selections here
        (holds_each IsPlaced (outline_of_selection schema (at_set u)) inner
        (λ s i. told s i q inner (at_set u) inside i e e))

    set_if_there_told : (f : Placed (Field S)) (q : Option (MetaTypeOf S C)) (inner : List (Selection S)) (v : Typing S C) → IsInside schema p root q inner → In (selection.Field f) inner → v.current ≡ type_below schema (entry_under q f)
        → (o : Option (Vec (Selection S) Global)) → f.item.selection_set ≡ o → EachIfThere Told o → Holds IsPlaced (outline_of_set_if_there schema v o)
    set_if_there_told f q inner v inside i e None same told = holds_empty IsPlaced
    set_if_there_told f q inner v inside i e (Some w) same told =
        set_told (type_below schema (entry_under q f)) w.items v (below_field f w inside (in_contains inner (selection.Field f) i) same) e (λ s j. Each-In Told w.items s told j)

    field_told : (f : Placed (Field S)) → EachIfThere Told f.item.selection_set → Told (selection.Field f)
    field_told f told q inner u inside i parent current =
        let v = at_field schema u f.item in
        let arguments = outline_of_arguments schema (field_arguments v.parent f.item.name.item.now) v f.item.arguments in
        let directives = outline_of_directives schema v f.item.directives in
        let set = outline_of_set_if_there schema v f.item.selection_set in
        let there : InSome u.parent f = (inner, subst (λ r. IsInside schema p root r inner) (sym parent) inside, in_contains inner (selection.Field f) i) in
        subst (Holds IsPlaced) (sym (SelectionOutlines.of_field schema u f))
        (holds_node IsPlaced (Node.field f) v (beside arguments (beside directives set)) (λ s same. cc, λ g same. let is : f ≡ g = cc in subst (InSome u.parent) is there)
        (holds_beside IsPlaced arguments (beside directives set) (in_arguments schema IsPlaced detail _ v f.item.arguments)
        (holds_beside IsPlaced directives set (in_directives schema IsPlaced detail v f.item.directives)
        (set_if_there_told f q inner v inside i (meets_field schema q u f parent) f.item.selection_set refl told))))

    spread_told : (s : Placed (FragmentSpread S)) → Told (selection.FragmentSpread s)
    spread_told s q inner u inside i parent current =
        subst (Holds IsPlaced) (sym (SelectionOutlines.of_spread schema u s))
        (holds_node IsPlaced (Node.fragment_spread s) u (outline_of_directives schema u s.item.directives) (λ set same. cc, λ f same. cc) (in_directives schema IsPlaced detail u s.item.directives))

    inline_told : (f : Placed (InlineFragment S)) → Each Told f.item.selection_set.items → Told (selection.InlineFragment f)
    inline_told f told q inner u inside i parent current =
        let v = at_inline schema u f.item in
        let directives = outline_of_directives schema v f.item.directives in
        let set = outline_of_set schema v f.item.selection_set.items in
        let e = meets_inline schema q u f.item.type_condition current in
        let inside_here = of_inline f inside (in_contains inner (selection.InlineFragment f) i) in
        subst (Holds IsPlaced) (sym (SelectionOutlines.of_inline schema u f))
        (holds_node IsPlaced (Node.inline_fragment f) v (beside directives set) (λ s same. cc, λ g same. cc)
        (holds_beside IsPlaced directives set (in_directives schema IsPlaced detail v f.item.directives)
        (set_told _ f.item.selection_set.items v inside_here e (λ s j. Each-In Told f.item.selection_set.items s told j))))

    selection_told : (s : Selection S) → Told s
    selection_told = selection_induction Told field_told spread_told inline_told

    root_told : (u : Typing S C) → u.current ≡ p → Holds IsPlaced (outline_of_set schema u root)
    root_told u e = set_told p root u itself e (λ s i. selection_told s)

  module _ (t : Typing S C) (document : List (Definition S)) where
    definition_told : (d : Definition S) → Holds (IsPlaced (type_round schema d) (selections_of d)) (outline_of_definition schema t d)
    definition_told (definition.Operation d) =
        let P = IsPlaced (type_round schema (definition.Operation d)) d.item.selection_set.items in
        let details = detail (type_round schema (definition.Operation d)) d.item.selection_set.items in
        let u = at_operation schema t d.item in
        let variables = outline_of_variable_definitions schema u d.item.variable_definitions in
        let directives = outline_of_directives schema u d.item.directives in
        let set = outline_of_set schema u d.item.selection_set.items in
        holds_node P (Node.operation_definition d) u (beside variables (beside directives set)) (λ s same. cc, λ g same. cc)
        (holds_beside P variables (beside directives set) (in_variables schema P details u d.item.variable_definitions)
        (holds_beside P directives set (in_directives schema P details u d.item.directives)
        (root_told _ d.item.selection_set.items u (meets_definition schema t (definition.Operation d)))))
    definition_told (definition.Fragment d) =
        let P = IsPlaced (type_round schema (definition.Fragment d)) d.item.selection_set.items in
        let details = detail (type_round schema (definition.Fragment d)) d.item.selection_set.items in
        let u = at_fragment schema t d.item in
        let directives = outline_of_directives schema u d.item.directives in
        let set = outline_of_set schema u d.item.selection_set.items in
        holds_node P (Node.fragment_definition d) u (beside directives set) (λ s same. cc, λ g same. cc)
        (holds_beside P directives set (in_directives schema P details u d.item.directives)
        (root_told _ d.item.selection_set.items u (meets_definition schema t (definition.Fragment d))))

    -- each set is one of the document, and each field stands in one
    abbrev pub IsOfDocument : Occurrence S C → Type 0
    IsOfDocument o = (d : Definition S) × Contains document d × IsPlaced (type_round schema d) (selections_of d) o

    pub parts_told : (o : Occurrence S C) → StandsIn (whole schema t document) o → is_document o.node ≡ false → IsOfDocument o
    parts_told o (inl e) part = absurd (true≢false (ap (λ z. is_document z.node) e ∙ part))
    parts_told o (inr (inl h)) part =
        holds_each IsOfDocument (outline_of_definition schema t) document
        (λ d i x k. (d, in_contains document d i, definition_told d x k)) o h
    parts_told o (inr (inr h)) part = elim h [ ]
