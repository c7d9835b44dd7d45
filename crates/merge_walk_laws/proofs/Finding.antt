-- Each set of a document stands in its outline.
use Rattle.std.proofs.Common.{◌≡◌, List, Option, Some, inl, inr, sym, subst}
use Rattle.std.specs.declared.vec.Vec.{Vec}
use Rattle.std.specs.declared.alloc.Global.{Global}
use Rattle.language_values.proofs.Members.{In}
use Rattle.language.specs.declared.tree.Definition.{Definition}
use Rattle.language.specs.declared.tree.Definition.TheVariants as definition
use Rattle.language.specs.declared.tree.Field.{Field}
use Rattle.language.specs.declared.tree.InlineFragment.{InlineFragment}
use Rattle.language.specs.declared.tree.Selection.{Selection}
use Rattle.language.specs.declared.tree.Selection.TheVariants as selection
use Rattle.meta.specs.declared.kinds.MetaTypeOf.{MetaTypeOf}
use Rattle.schema.specs.Catalog.{Catalog}
use Rattle.merge_set_table.specs.Inside.{IsInside, itself, below_field, of_inline}
use Rattle.merge_graph.specs.Definitions.{selections_of}
use Rattle.merge_graph.specs.SetsIn.{IsSetIn}
use Rattle.events.specs.Node.{Placed}
use Rattle.events.specs.Outline.{Outline, beside, outline_of_arguments, outline_of_directives, outline_of_variable_definitions, outline_of_selection, outline_of_set, outline_of_set_if_there, outline_of_field, outline_of_inline, outline_of_definition, outline_of_document}
use Rattle.events.specs.SchemaView.{field_arguments}
use Rattle.events.specs.Typing.{Typing, at_set, at_field, at_inline, at_operation, at_fragment}
use Rattle.events.proofs.SelectionOutlines.{of_field}
use Rattle.events.proofs.SelectionOutlines
use Rattle.merge_walk_laws.proofs.Meeting.{at_definition, meets_definition, meets_field, meets_inline}
use Rattle.merge_walk_laws.proofs.Standing.{StandsIn, Holds, contains_in, stands_right, stands_each}

module _ {S C : Type 0} (schema : Catalog S C) where
  module _ (whole : Outline S C) where
    -- all of the one stands in the other
    abbrev pub IsPart : Outline S C → Type 0
    IsPart a = Holds (StandsIn whole) a

    pub part_of_set : (u : Typing S C) (set : List (Selection S)) (s : Selection S) → In s set → IsPart (outline_of_set schema u set) → IsPart (outline_of_selection schema (at_set u) s)
    part_of_set u set s i h o k = h o (inr (inl (stands_each (outline_of_selection schema (at_set u)) set s o i k)))

    set_of_field : (u : Typing S C) (f : Placed (Field S)) (w : Vec (Selection S) Global) → f.item.selection_set ≡ Some w → IsPart (outline_of_field schema u f) → IsPart (outline_of_set schema (at_field schema u f.item) w.items)
    set_of_field u f w e h o k =
        let v = at_field schema u f.item in
        let directives = outline_of_directives schema v f.item.directives in
        let set = outline_of_set_if_there schema v f.item.selection_set in
        let there : StandsIn set o = subst (λ z. StandsIn (outline_of_set_if_there schema v z) o) (sym e) k in
        h o (inr (inl (stands_right (outline_of_arguments schema (field_arguments v.parent f.item.name.item.now) v f.item.arguments) (beside directives set) o (stands_right directives set o there))))

    set_of_inline : (u : Typing S C) (i : Placed (InlineFragment S)) → IsPart (outline_of_inline schema u i) → IsPart (outline_of_set schema (at_inline schema u i.item) i.item.selection_set.items)
    set_of_inline u i h o k =
        let v = at_inline schema u i.item in
        h o (inr (inl (stands_right (outline_of_directives schema v i.item.directives) (outline_of_set schema v i.item.selection_set.items) o k)))

    -- a set inside a part is a part, at the type round it
    module _ (p : Option (MetaTypeOf S C)) (set : List (Selection S)) (u : Typing S C) (part : IsPart (outline_of_set schema u set)) where
      abbrev Stands : Option (MetaTypeOf S C) → List (Selection S) → Type 0
      Stands q inner = (v : Typing S C) × IsPart (outline_of_set schema v inner) × (u.current ≡ p → v.current ≡ q)

      pub inside_stands : {q : Option (MetaTypeOf S C)} {inner : List (Selection S)} → IsInside schema p set q inner → Stands q inner
      inside_stands itself = (u, part, λ e. e)
      inside_stands (below_field {q = q} {inner = inner} f w inside c e) =
          let (v, h, meets) = inside_stands inside in
          let field_part = subst IsPart (of_field schema (at_set v) f) (part_of_set v inner (selection.Field f) (contains_in inner (selection.Field f) c) h) in
          (at_field schema (at_set v) f.item, set_of_field (at_set v) f w e field_part, λ same. meets_field schema q (at_set v) f (meets same))
      inside_stands (of_inline {q = q} {inner = inner} i inside c) =
          let (v, h, meets) = inside_stands inside in
          let inline_part = subst IsPart (SelectionOutlines.of_inline schema (at_set v) i) (part_of_set v inner (selection.InlineFragment i) (contains_in inner (selection.InlineFragment i) c) h) in
          (at_inline schema (at_set v) i.item, set_of_inline (at_set v) i inline_part, λ same. meets_inline schema q (at_set v) i.item.type_condition (meets same))

  module _ (t : Typing S C) (document : List (Definition S)) where
    abbrev pub whole : Outline S C
    whole = outline_of_document schema t document

    set_of_definition : (d : Definition S) → IsPart whole (outline_of_definition schema t d) → IsPart whole (outline_of_set schema (at_definition schema t d) (selections_of d))
    set_of_definition (definition.Operation d) h o k =
        let u = at_operation schema t d.item in
        let directives = outline_of_directives schema u d.item.directives in
        let set = outline_of_set schema u d.item.selection_set.items in
        h o (inr (inl (stands_right (outline_of_variable_definitions schema u d.item.variable_definitions) (beside directives set) o (stands_right directives set o k))))
    set_of_definition (definition.Fragment d) h o k =
        let u = at_fragment schema t d.item in
        h o (inr (inl (stands_right (outline_of_directives schema u d.item.directives) (outline_of_set schema u d.item.selection_set.items) o k)))

    -- so a set of the document is a part of its outline
    pub set_stands : (p : Option (MetaTypeOf S C)) (set : List (Selection S)) → IsSetIn schema document p set
        → (v : Typing S C) × IsPart whole (outline_of_set schema v set) × (v.current ≡ p)
    set_stands p set (d, c, inside) =
        let root = set_of_definition d (λ o k. inr (inl (stands_each (outline_of_definition schema t) document d o (contains_in document d c) k))) in
        let (v, h, meets) = inside_stands whole _ (selections_of d) (at_definition schema t d) root inside in (v, h, meets (meets_definition schema t d))
