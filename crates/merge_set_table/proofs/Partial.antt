-- Sets that are parts of others.
use Rattle.std.proofs.Common.{List, [], ◌∷◌, ◌++◌, Option, sym, subst, ◌∙◌, append-nil}
use Rattle.std.specs.List.{Contains}
use Rattle.std.proofs.lemmas.List.Elements.{Contains-append_left, Contains-append_right}
use Rattle.std.proofs.lemmas.Grind.{flat_map-append}
use Rattle.language.specs.declared.tree.Selection.{Selection}
use Rattle.language.specs.declared.tree.Selection.TheVariants as selection
use Rattle.language.specs.declared.tree.InlineFragment.{InlineFragment}
use Rattle.meta.specs.declared.kinds.MetaTypeOf.{MetaTypeOf}
use Rattle.schema.specs.Catalog.{Catalog}
use Rattle.merge_field_pairs.specs.Entries.{PlainEntry}
use Rattle.merge_field_pairs.specs.OwnFields.{Placed, Names, type_inside, own_fields, own_fields_of, own_spreads, own_spreads_of}
use Rattle.merge_field_pairs.proofs.OwnFieldLaws.{own_fields_of-Inline, own_spreads_of-Inline}
use Rattle.merge_set_table.specs.Parts.{IsPartOf}

module _ {S C : Type 0} (schema : Catalog S C) where
  pub part_itself : (p : Option (MetaTypeOf S C)) (set : List (Selection S)) → IsPartOf schema p set p set
  part_itself p set = record { fields = λ a c. c; names = λ name c. c }

  -- a part of some selections is a part of these with others
  pub part_first : (q p : Option (MetaTypeOf S C)) (inner xs ys : List (Selection S)) → IsPartOf schema q inner p xs → IsPartOf schema q inner p (xs ++ ys)
  part_first q p inner xs ys h = record {
    fields = λ a c. subst (λ (z : List (PlainEntry S C)). Contains z a) (sym (flat_map-append (own_fields_of schema p) xs ys)) (Contains-append_left (own_fields schema p xs) (own_fields schema p ys) a (h.fields a c));
    names = λ name c. subst (λ (z : Names). Contains z name) (sym (flat_map-append own_spreads_of xs ys)) (Contains-append_left (own_spreads xs) (own_spreads ys) name (h.names name c));
  }

  pub part_last : (q p : Option (MetaTypeOf S C)) (inner xs ys : List (Selection S)) → IsPartOf schema q inner p ys → IsPartOf schema q inner p (xs ++ ys)
  part_last q p inner xs ys h = record {
    fields = λ a c. subst (λ (z : List (PlainEntry S C)). Contains z a) (sym (flat_map-append (own_fields_of schema p) xs ys)) (Contains-append_right (own_fields schema p xs) (own_fields schema p ys) a (h.fields a c));
    names = λ name c. subst (λ (z : Names). Contains z name) (sym (flat_map-append own_spreads_of xs ys)) (Contains-append_right (own_spreads xs) (own_spreads ys) name (h.names name c));
  }

  -- an inline fragment has what its set has
  pub part_inline : (q p : Option (MetaTypeOf S C)) (inner : List (Selection S)) (i : Placed (InlineFragment S))
      → IsPartOf schema q inner (type_inside schema p i.item.type_condition) i.item.selection_set.items → IsPartOf schema q inner p (selection.InlineFragment i ∷ [])
  part_inline q p inner i h = record {
    fields = λ a c. subst (λ (z : List (PlainEntry S C)). Contains z a) (sym (append-nil (own_fields_of schema p (selection.InlineFragment i)) ∙ own_fields_of-Inline schema p i)) (h.fields a c);
    names = λ name c. subst (λ (z : Names). Contains z name) (sym (append-nil (own_spreads_of (selection.InlineFragment i)) ∙ own_spreads_of-Inline i)) (h.names name c);
  }
