-- The sets and fields that merge, and those that occur.
use Rattle.std.proofs.Common.{◌≡◌, List, [], Some, None, map, Bool, inl, refl, ap, sym, ◌∙◌, subst}
use Rattle.std.specs.List.{Contains, list_all}
use Rattle.std.proofs.lemmas.Bool.{and_parts, and_from}
use Rattle.language_values.proofs.Members.{list_all-In, list_all-from_In}
use Rattle.language_values.specs.ValuesEqual.{are_distinct, has_unique_keys}
use Rattle.language.specs.declared.tree.Selection.TheVariants as selection
use Rattle.merge_field_pairs.specs.SameArguments.{Given, given_name}
use Rattle.merge_field_pairs.specs.OwnFields.{entry_under}
use Rattle.merge_set_table.specs.Inside.{IsInside}
use Rattle.merge_graph.specs.Definitions.{type_round, selections_of}
use Rattle.schema.specs.Catalog.{Catalog}
use Rattle.language.specs.declared.tree.Definition.{Definition}
use Rattle.language.specs.declared.tree.Field.{Field}
use Rattle.language.specs.declared.tree.Selection.{Selection}
use Rattle.events.specs.Occurrence.{is_document}
use Rattle.events.specs.Outline.{outline_of_set, outline_of_field}
use Rattle.events.specs.Node.{Placed, field, selection_set, inline_fragment}
use Rattle.events.specs.Typing.{Typing, at_set, at_field, at_inline}
use Rattle.events.proofs.SelectionOutlines.{of_field, of_inline}
use Rattle.merge_walk_laws.specs.Laws.{FieldsOccur, SetsOccur, InlinesOccur, FieldsAreTidy, SetsAgree, FieldsAgree, TidyArguments}
use Rattle.merge_walk_laws.proofs.Finding.{IsPart, whole, part_of_set, set_stands}
use Rattle.merge_walk_laws.proofs.Placing.{parts_told}
use Rattle.merge_walk_laws.proofs.Standing.{contains_in, in_contains, stands_contains, contains_stands}

module _ {S C : Type 0} where
  pub sets_occur : SetsOccur S C
  sets_occur schema t document parent set is =
      let (u, part, meets) = set_stands schema t document parent set is in
      (record { node = selection_set set; types = at_set u }, stands_contains (whole schema t document) _ (part _ (inl refl)), refl)

  field_stands : (schema : Catalog S C) (t : Typing S C) (document : List (Definition S)) (u : Typing S C) (set : List (Selection S)) (f : Placed (Field S)) → Contains set (selection.Field f)
      → IsPart schema (whole schema t document) (outline_of_set schema u set) → IsPart schema (whole schema t document) (outline_of_field schema (at_set u) f)
  field_stands schema t document u set f c part =
      subst (IsPart schema (whole schema t document)) (of_field schema (at_set u) f)
      (part_of_set schema (whole schema t document) u set (selection.Field f) (contains_in set (selection.Field f) c) part)

  pub fields_occur : FieldsOccur S C
  fields_occur schema t document a (parent, set, is, c, e) =
      let (u, part, meets) = set_stands schema t document parent set is in
      let here = field_stands schema t document u set a.field c part in
      (record { node = field a.field; types = at_field schema (at_set u) a.field.item }, stands_contains (whole schema t document) _ (here _ (inl refl)), refl)

  pub fields_are_tidy : FieldsAreTidy S C
  fields_are_tidy schema t document tidy a is = tidy a.field (fields_occur schema t document a is)

  pub inlines_occur : InlinesOccur S C
  inlines_occur schema t document parent set is i c =
      let outline = whole schema t document in
      let (u, part, meets) = set_stands schema t document parent set is in
      let here = subst (IsPart schema outline) (of_inline schema (at_set u) i)
      (part_of_set schema outline u set (selection.InlineFragment i) (contains_in set (selection.InlineFragment i) c) part) in
      (record { node = inline_fragment i; types = at_inline schema (at_set u) i.item }, stands_contains outline _ (here _ (inl refl)), refl)

  pub sets_agree : SetsAgree S C
  sets_agree schema t document parent set =
      let outline = whole schema t document in (
        λ is. let (u, part, meets) = set_stands schema t document parent set is in
            (record { node = selection_set set; types = at_set u }, stands_contains outline _ (part _ (inl refl)), refl, meets),
        λ there. let (o, c, same, e) = there in
            let (d, has, placed) = parts_told schema t document o (contains_stands outline o c) (ap is_document same) in
            (d, has, subst (λ p. IsInside schema (type_round schema d) (selections_of d) p set) e (placed.0 set same)),
      )

  pub fields_agree : FieldsAgree S C
  fields_agree schema t document a =
      let outline = whole schema t document in (
        λ is. let (parent, set, inside, c, e) = is in
            let (u, part, meets) = set_stands schema t document parent set inside in
            let same : parent ≡ a.parent = sym (ap (λ z. z.parent) e) in
            let here = field_stands schema t document u set a.field c part in
            ((record { node = field a.field; types = at_field schema (at_set u) a.field.item }, stands_contains outline _ (here _ (inl refl)), refl, meets ∙ same), subst (λ p. a ≡ entry_under p a.field) same e),
        λ there. let (o, c, same, e) = there.0 in
            let (d, has, placed) = parts_told schema t document o (contains_stands outline o c) (ap is_document same) in
            let (set, inside, among) = placed.1 a.field same in
            (a.parent, set, (d, has, subst (λ p. IsInside schema (type_round schema d) (selections_of d) p set) e inside), among, there.1),
      )

pub tidy_arguments : {S : Type 0} → TidyArguments S
tidy_arguments None = (λ e. (refl, λ g c. absurd (contains_in [] g c)), λ h. refl)
tidy_arguments {S} (Some list) =
    let items = list.item.items.items in
    let unique : Given S → Bool = λ g. has_unique_keys g.1.item in (
      λ e. let (d, u) = and_parts (are_distinct (map given_name items)) (list_all unique items) e in (d, λ g c. list_all-In unique items g u (contains_in items g c)),
      λ h. and_from (are_distinct (map given_name items)) (list_all unique items) h.0 (list_all-from_In unique items (λ g i. h.1 g (in_contains items g i))),
    )
