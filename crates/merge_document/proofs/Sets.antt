-- Sets of a document, and their numbers in the graph of a search.
use Rattle.std.proofs.Common.{◌≡◌, ◌==◌, ℕ, List, [], length, Bool, true, Option, Some, slice_get, refl, sym, ap, subst, ◌∙◌, arith}
use Rattle.std.specs.List.{Contains}
use Rattle.std.proofs.lemmas.Bool.{eqb-true}
use Rattle.std.proofs.lemmas.Map.Views.{Contains-from_any}
use Rattle.language.specs.declared.tree.Selection.{Selection}
use Rattle.language.specs.declared.tree.Definition.{Definition}
use Rattle.meta.specs.declared.kinds.MetaTypeOf.{MetaTypeOf}
use Rattle.schema.specs.Catalog.{Catalog}
use Rattle.fragment_graph.specs.Numbers.{Defines}
use Rattle.fragment_graph.proofs.Lists.{same_item, contains_at, contains_get}
use Rattle.merge_field_pairs.specs.Entries.{PlainEntry}
use Rattle.merge_field_pairs.specs.OwnFields.{own_fields, own_spreads}
use Rattle.merge_sets.specs.World.{World, own_of, spreads_of, set_of}
use Rattle.merge_sets.specs.declared.node.Entry.{Entry}
use Rattle.merge_set_table.specs.declared.table.NumberedSet.{NumberedSet}
use Rattle.merge_set_table.specs.Names.{AreApart}
use Rattle.merge_set_table.specs.Once.{is_among}
use Rattle.merge_set_table.specs.Table.{Numbered, own_at, spreads_at}
use Rattle.merge_set_table.specs.Represents.{IsSetOf}
use Rattle.merge_set_table.proofs.Lists.{among_from_get}
use Rattle.merge_set_table.proofs.OwnParts.{represented_fields, represented_spreads}
use Rattle.merge_graph.specs.Definitions.{type_round, selections_of, IsLast}
use Rattle.merge_graph.specs.Building as building
use Rattle.merge_graph.specs.Judging.{judgement_by}
use Rattle.merge_document.specs.WrittenOut.{IsFragment}
use Rattle.merge_document.proofs.Fields.{IsEntryOf, field_got, number_got}

-- A search's world is that of a document's sets by number.
pub record IsWorldOf {S C : Type 0} (E : S → S → Bool) (schema : Catalog S C) (document : List (Definition S)) (numbers : List ℕ → Option ℕ) (m : Numbered S C) (w : World) : Type 0 where
  pub judges : w.judgement ≡ judgement_by E schema m.fields
  pub many : length w.sets ≡ length m.sets
  pub own : (s : ℕ) → own_of w s ≡ own_at m.sets s
  pub spreads : (s : ℕ) → spreads_of w s ≡ spreads_at m.sets s
  pub apart : AreApart m.responses
  pub defined : (name : List ℕ) → Defines document name → (f : ℕ) × (numbers name ≡ Some f)
  pub single : (name other : List ℕ) (f : ℕ) → numbers name ≡ Some f → numbers other ≡ Some f → name ≡ other
  pub fragments : (name : List ℕ) (f : ℕ) → numbers name ≡ Some f → building.IsFragment schema document numbers m w.fragments name f

among_contains : (xs : List ℕ) (x : ℕ) → is_among xs x ≡ true → Contains xs x
among_contains xs x h = Contains-from_any {eq = λ x y. y == x} (λ x y h. sym (eqb-true y x h)) x xs h

contains_among : (xs : List ℕ) (x : ℕ) → Contains xs x → is_among xs x ≡ true
contains_among xs x c = let g = contains_get xs x c in among_from_get xs g.0 x g.1

module _ {S : Type 0} where
  -- a name has one last definition
  last_one : (document : List (Definition S)) (name : List ℕ) (p q : ℕ) (a : IsLast document name p) (b : IsLast document name q) → a.is ≡ b.is
  last_one document name p q a b =
      let l = a.last q b.is b.stands b.named in let r = b.last p a.is a.stands a.named in
      let same : p ≡ q = omega (arith, l, r) in
      same_item a.is b.is (slice_get document q) (subst (λ (k : ℕ). slice_get document k ≡ Some a.is) same a.stands) b.stands

  last_defines : (document : List (Definition S)) (name : List ℕ) (p : ℕ) → IsLast document name p → Defines document name
  last_defines document name p a = (a.is, contains_at document p a.is a.stands, a.named)

module _ {S C : Type 0} (E : S → S → Bool) (schema : Catalog S C) (document : List (Definition S)) (numbers : List ℕ → Option ℕ) (m : Numbered S C) (w : World) (is : IsWorldOf E schema document numbers m w) where
  abbrev pub IsSet : ℕ → Option (MetaTypeOf S C) → List (Selection S) → Type 0
  IsSet s p set = IsSetOf schema numbers m s p set

  own_row : {s : ℕ} {p : Option (MetaTypeOf S C)} {set : List (Selection S)} (at : IsSet s p set) → own_of w s ≡ at.row.own.items
  own_row {s} at = is.own s ∙ ap (λ (o : Option NumberedSet). Rattle.std.specs.Option.option_map_or (λ n. n.own.items) o []) at.stored

  spreads_row : {s : ℕ} {p : Option (MetaTypeOf S C)} {set : List (Selection S)} (at : IsSet s p set) → spreads_of w s ≡ at.row.spreads.items
  spreads_row {s} at = is.spreads s ∙ ap (λ (o : Option NumberedSet). Rattle.std.specs.Option.option_map_or (λ n. n.spreads.items) o []) at.stored

  -- own fields, place by place
  pub own_out : {s : ℕ} (k : ℕ) {p : Option (MetaTypeOf S C)} {set : List (Selection S)} {a : Entry} → IsSet s p set → slice_get (own_of w s) k ≡ Some a
      → (x : PlainEntry S C) × (slice_get (own_fields schema p set) k ≡ Some x) × IsEntryOf schema numbers m x a
  own_out {s} k {a = a} at h =
      field_got schema numbers m (represented_fields schema numbers m at.represents) k a (ap (λ (z : List Entry). slice_get z k) (sym (own_row at)) ∙ h)

  pub own_in : {s : ℕ} (k : ℕ) {p : Option (MetaTypeOf S C)} {set : List (Selection S)} {x : PlainEntry S C} → IsSet s p set → slice_get (own_fields schema p set) k ≡ Some x
      → (a : Entry) × (slice_get (own_of w s) k ≡ Some a) × IsEntryOf schema numbers m x a
  own_in {s} k {x = x} at h =
      let o = number_got schema numbers m (represented_fields schema numbers m at.represents) k x h in
      (o.0, ap (λ (z : List Entry). slice_get z k) (own_row at) ∙ o.1, o.2)

  pub member_out : {s : ℕ} {p : Option (MetaTypeOf S C)} {set : List (Selection S)} {a : Entry} → IsSet s p set → Contains (own_of w s) a
      → (x : PlainEntry S C) × Contains (own_fields schema p set) x × IsEntryOf schema numbers m x a
  member_out {s} {p} {set} {a} at c =
      let g = contains_get (own_of w s) a c in let o = own_out g.0 at g.1 in (o.0, contains_at (own_fields schema p set) g.0 o.0 o.1, o.2)

  pub member_in : {s : ℕ} {p : Option (MetaTypeOf S C)} {set : List (Selection S)} {x : PlainEntry S C} → IsSet s p set → Contains (own_fields schema p set) x
      → (a : Entry) × Contains (own_of w s) a × IsEntryOf schema numbers m x a
  member_in {s} {p} {set} {x} at c =
      let g = contains_get (own_fields schema p set) x c in let o = own_in g.0 at g.1 in (o.0, contains_at (own_of w s) g.0 o.0 o.1, o.2)

  -- spreads
  pub name_of : {s f : ℕ} {p : Option (MetaTypeOf S C)} {set : List (Selection S)} → IsSet s p set → Contains (spreads_of w s) f
      → (name : List ℕ) × Contains (own_spreads set) name × (numbers name ≡ Some f)
  name_of {s} {f} at c =
      (represented_spreads schema numbers m at.represents).none_other f
      (sym (at.once.same f) ∙ contains_among at.row.spreads.items f (subst (λ (z : List ℕ). Contains z f) (spreads_row at) c))

  pub number_of : {s f : ℕ} {p : Option (MetaTypeOf S C)} {set : List (Selection S)} {name : List ℕ} → IsSet s p set → Contains (own_spreads set) name → numbers name ≡ Some f
      → Contains (spreads_of w s) f
  number_of {s} {f} {name = name} at c h =
      subst (λ (z : List ℕ). Contains z f) (sym (spreads_row at))
      (among_contains at.row.spreads.items f (at.once.same f ∙ (represented_spreads schema numbers m at.represents).each name f c h))

  pub spread_once : {s k l f : ℕ} {p : Option (MetaTypeOf S C)} {set : List (Selection S)} → IsSet s p set → slice_get (spreads_of w s) k ≡ Some f → slice_get (spreads_of w s) l ≡ Some f → k ≡ l
  spread_once {s} {k} {l} {f} at h i =
      at.once.distinct k l f (ap (λ (z : List ℕ). slice_get z k) (sym (spreads_row at)) ∙ h) (ap (λ (z : List ℕ). slice_get z l) (sym (spreads_row at)) ∙ i)

  -- fragments
  pub fragment_out : {name : List ℕ} {f : ℕ} → numbers name ≡ Some f
      → (d : Definition S) × IsFragment schema document name d × IsSet (set_of w f) (type_round schema d) (selections_of d)
  fragment_out {name} {f} h =
      let i = is.fragments name f h in (
        i.last.is,
        record { place = i.place; last = i.last; same = refl },
        subst (λ (k : ℕ). IsSet k (type_round schema i.last.is) (selections_of i.last.is)) (sym (Rattle.std.proofs.lemmas.Option.get_or_from_slice_get w.fragments f i.set 0 i.stored)) i.is,
      )

  pub fragment_in : {name : List ℕ} {d : Definition S} → IsFragment schema document name d
      → (f : ℕ) × (numbers name ≡ Some f) × IsSet (set_of w f) (type_round schema d) (selections_of d)
  fragment_in {name} {d} i =
      let n = is.defined name (last_defines document name i.place i.last) in
      let o = fragment_out n.1 in
      let same : o.0 ≡ d = sym (o.1).same ∙ last_one document name (o.1).place i.place (o.1).last i.last ∙ i.same in
      (n.0, n.1, subst (λ (z : Definition S). IsSet (set_of w n.0) (type_round schema z) (selections_of z)) same o.2)
