-- Tasks that, once they are done, have done what was to be done.
use Rattle.std.proofs.Common.{◌≡◌, ◌&&◌, ℕ, List, [], ◌∷◌, ◌++◌, reverse, Option, Some, None, not, true, false, option_copied, refl, sym, ap, subst, ◌∙◌}
use Rattle.std.specs.Option.{is_some}
use denote.Ref.{Bor}
use Rattle.std.specs.declared.vec.Vec.{Vec}
use Rattle.std.specs.declared.alloc.Global.{Global}
use Rattle.std.proofs.lemmas.List.{reverse-append}
use Rattle.language.specs.declared.tree.Selection.{Selection}
use Rattle.language.specs.declared.tree.Selection.TheVariants as selection
use Rattle.language.specs.declared.tree.Field.{Field}
use Rattle.language.specs.declared.tree.FragmentSpread.{FragmentSpread}
use Rattle.language.specs.declared.tree.InlineFragment.{InlineFragment}
use Rattle.meta.specs.declared.kinds.MetaTypeOf.{MetaTypeOf}
use Rattle.schema.specs.Catalog.{Catalog}
use Rattle.merge_field_pairs.specs.Entries.{PlainEntry, plain}
use Rattle.merge_field_pairs.specs.OwnFields.{Placed, entry_under, type_inside, type_below}
use Rattle.merge_set_table.specs.declared.table.NumberedSet.{NumberedSet}
use Rattle.merge_set_table.specs.declared.table.Table.{Table}
use Rattle.merge_set_table.specs.declared.tasks.Role.{Role}
use Rattle.merge_set_table.specs.declared.tasks.Role.TheVariants.{Searched, Compared}
use Rattle.merge_set_table.specs.declared.tasks.Members.{Members}
use Rattle.merge_set_table.specs.declared.tasks.BegunField.{BegunField}
use Rattle.merge_set_table.specs.declared.tasks.BegunInline.{BegunInline}
use Rattle.merge_set_table.specs.declared.tasks.Task.{Task}
use Rattle.merge_set_table.specs.declared.tasks.Task.TheVariants as task
use Rattle.merge_set_table.specs.Inside.{type_entered}
use Rattle.merge_set_table.specs.Adding.{IsEmptySet, AddsSpread, BeginsPart, EndsPart, PushesField, OpensSet, Adds, AddsFor}
use Rattle.merge_set_table.specs.Tasks.{IsPlaced, StoresAt, EndsField, EndsInline, AddsAs, Meets, MeetsAll, Becomes}
use Rattle.merge_set_table.proofs.Building.{adds_none, adds_then, adds_leaf, adds_field, adds_spread, adds_inline, adds_lost, for_none, for_then, for_leaf, for_field, for_spread, for_inline}
use Rattle.merge_set_table.proofs.Closing.{adds_set, adds_set_for}
use Rattle.merge_set_table.proofs.Entering.{same_type, type_around, unknown_condition}

pub pushed : {X : Type 0} (xs ys : List X) (x : X) → ys ≡ xs ++ x ∷ [] → reverse ys ≡ x ∷ reverse xs
pushed xs ys x e = ap reverse e ∙ reverse-append xs (x ∷ [])

pub pushed_first : {X : Type 0} (xs ys : List X) (x : X) → ys ≡ xs ++ x ∷ [] → xs ≡ [] → ys ≡ x ∷ []
pushed_first xs ys x e none = e ∙ ap (λ zs. zs ++ x ∷ []) none

pub three_pushed : {X : Type 0} (xs ys zs us : List X) (x y z : X) → ys ≡ xs ++ x ∷ [] → zs ≡ ys ++ y ∷ [] → us ≡ zs ++ z ∷ [] → reverse us ≡ z ∷ y ∷ x ∷ reverse xs
three_pushed xs ys zs us x y z e h k = pushed zs us z k ∙ ap (λ vs. z ∷ vs) (pushed ys zs y h ∙ ap (λ vs. y ∷ vs) (pushed xs ys x e))

pub two_pushed : {X : Type 0} (xs ys zs : List X) (x y : X) → ys ≡ xs ++ x ∷ [] → zs ≡ ys ++ y ∷ [] → reverse zs ≡ y ∷ x ∷ reverse xs
two_pushed xs ys zs x y e h = pushed ys zs y h ∙ ap (λ us. y ∷ us) (pushed xs ys x e)

module _ {S C : Type 0} (schema : Catalog S C) (numbers : List ℕ → Option ℕ) where
  -- What is added at once, by its role.
  as_none : (r : Role) (p : Option (MetaTypeOf S C)) (part : NumberedSet) (t : Table S C) → AddsAs schema numbers r p [] part part t t
  as_none Searched p part t = adds_none schema numbers p part t
  as_none Compared p part t = for_none schema numbers p part t

  as_then : (r : Role) (p : Option (MetaTypeOf S C)) (xs ys : List (Selection S)) (a b c : NumberedSet) (s t u : Table S C)
      → AddsAs schema numbers r p xs a b s t → AddsAs schema numbers r p ys b c t u → AddsAs schema numbers r p (xs ++ ys) a c s u
  as_then Searched p xs ys a b c s t u d e = adds_then schema numbers p xs ys a b c s t u d e
  as_then Compared p xs ys a b c s t u d e = for_then schema numbers p xs ys a b c s t u d e

  pub as_leaf : (r : Role) (p : Option (MetaTypeOf S C)) (f : Placed (Field S)) (o : PlainEntry S C) (a b : NumberedSet) (s t : Table S C)
      → o ≡ entry_under p f → f.item.selection_set ≡ None → PushesField o None a b s t → AddsAs schema numbers r p (selection.Field f ∷ []) a b s t
  as_leaf Searched p f o a b s t is none h = adds_leaf schema numbers p f o a b s t is none h
  as_leaf Compared p f o a b s t is none h = for_leaf schema numbers p f o a b s t is none h

  pub as_spread : (r : Role) (p : Option (MetaTypeOf S C)) (f : Placed (FragmentSpread S)) (number : Option ℕ) (a b : NumberedSet) (t : Table S C)
      → number ≡ numbers f.item.name.item.now → AddsSpread number a b → AddsAs schema numbers r p (selection.FragmentSpread f ∷ []) a b t t
  as_spread Searched p f number a b t is h = adds_spread schema numbers p f number a b t is h
  as_spread Compared p f number a b t is h = for_spread schema numbers p f number a b t is h

  -- a field whose set was filled and stored
  as_field : (r : Role) (place : Option ℕ) (p q : Option (MetaTypeOf S C)) (f : Placed (Field S)) (w : Vec (Selection S) Global) (o : PlainEntry S C)
      (set' : List (Selection S)) (n : ℕ) (empty part a b : NumberedSet) (s t u v z : Table S C)
      → o ≡ entry_under p f → f.item.selection_set ≡ Some w → q ≡ type_below schema o → set' ≡ w.items
      → IsPlaced r place s t → IsEmptySet empty → AddsAs schema numbers r q set' empty part t u → StoresAt place part n u v → PushesField o (Some n) a b v z
      → AddsAs schema numbers r p (selection.Field f ∷ []) a b s z
  as_field Searched (Some place) p q f w o set' n empty part a b s t u v z is some type all opened none added stored h =
      adds_field schema numbers p q f w o set' n a b s v z is some type all (adds_set schema numbers q set' place n empty part s t u v opened none added stored) h
  as_field Searched None p q f w o set' n empty part a b s t u v z is some type all opened none added stored h = absurd opened
  as_field Compared (Some place) p q f w o set' n empty part a b s t u v z is some type all opened none added stored h = absurd opened
  as_field Compared None p q f w o set' n empty part a b s t u v z is some type all same none added stored h =
      for_field schema numbers p q f w o set' n a b s v z is some type all
      (adds_set_for schema numbers q set' n empty part s u v none (subst (λ x. AddsFor schema numbers q set' empty part x u) same added) stored) h

  -- What is done at once.
  pub at_once : (ts : List (Task S C)) (b : NumberedSet) (v : Table S C) (Does : NumberedSet → Table S C → Type 0) → Does b v → Becomes schema numbers ts b v ts Does
  at_once ts b v Does did part' t' rest = (b, v, did, rest)

  -- Members of which none is left, or of which one was added and the others wait.
  pub members_end : (r : Role) (p : Option (MetaTypeOf S C)) (set : List (Selection S)) (ts : List (Task S C)) (a : NumberedSet) (t : Table S C) → set ≡ []
      → Becomes schema numbers ts a t ts (λ b v. AddsAs schema numbers r p set a b t v)
  members_end r p set ts a t none part' t' rest = (a, t, subst (λ xs. AddsAs schema numbers r p xs a a t t) (sym none) (as_none r p a t), rest)

  pub members_next : (m : Members S C) (set : List (Selection S)) (x : Selection S) (us ts others : List (Task S C)) (a b : NumberedSet) (s t : Table S C)
      → set ≡ x ∷ m.set.now → others ≡ task.Members m ∷ ts
      → Becomes schema numbers us b t others (λ c v. AddsAs schema numbers m.role (option_copied m.parent) (x ∷ []) a c s v)
      → Becomes schema numbers us b t ts (λ c v. AddsAs schema numbers m.role (option_copied m.parent) set a c s v)
  members_next m set x us ts others a b s t is waits one part' t' meets =
      let h = one part' t' meets in
      let all : MeetsAll schema numbers (task.Members m ∷ ts) h.0 part' h.1 t' = subst (λ xs. MeetsAll schema numbers xs h.0 part' h.1 t') waits h.3 in (
        all.0,
        all.1,
        subst (λ xs. AddsAs schema numbers m.role (option_copied m.parent) xs a all.0 s all.1) (sym is)
            (as_then m.role (option_copied m.parent) (x ∷ []) m.set.now a h.0 all.0 s h.1 all.1 h.2 all.2),
        all.3,
      )

  pub becomes_as : (r : Role) (p : Option (MetaTypeOf S C)) (x y : Selection S) (us ts : List (Task S C)) (a b : NumberedSet) (s t : Table S C) → x ≡ y
      → Becomes schema numbers us b t ts (λ c v. AddsAs schema numbers r p (y ∷ []) a c s v) → Becomes schema numbers us b t ts (λ c v. AddsAs schema numbers r p (x ∷ []) a c s v)
  becomes_as r p x y us ts a b s t is h = subst (λ z. Becomes schema numbers us b t ts (λ c v. AddsAs schema numbers r p (z ∷ []) a c s v)) (sym is) h

  -- A field whose set is begun.
  pub field_begun : (p : Option (MetaTypeOf S C)) (f : Placed (Field S)) (w : Vec (Selection S) Global) (begun : BegunField S C) (m : Members S C)
      (us ts : List (Task S C)) (a empty : NumberedSet) (s t : Table S C)
      → begun.outer ≡ a → plain begun.entry ≡ entry_under p f → f.item.selection_set ≡ Some w → option_copied m.parent ≡ type_below schema (plain begun.entry) → m.set.now ≡ w.items
      → IsPlaced m.role begun.place s t → IsEmptySet empty → us ≡ task.Members m ∷ task.Field begun ∷ ts
      → Becomes schema numbers us empty t ts (λ b v. AddsAs schema numbers m.role p (selection.Field f ∷ []) a b s v)
  field_begun p f w begun m us ts a empty s t outer is some type all placed none waits part' t' meets =
      let h : MeetsAll schema numbers (task.Members m ∷ task.Field begun ∷ ts) empty part' t t' = subst (λ xs. MeetsAll schema numbers xs empty part' t t') waits meets in
      let ends : EndsField begun h.0 h.3.0 h.1 h.3.1 = h.3.2 in (
        h.3.0,
        h.3.1,
        subst (λ x. AddsAs schema numbers m.role p (selection.Field f ∷ []) x h.3.0 s h.3.1) outer
            (as_field m.role begun.place p (option_copied m.parent) f w (plain begun.entry) m.set.now ends.number empty h.0 begun.outer h.3.0 s t h.1 ends.middle h.3.1
            is some type all placed none h.2 ends.stores ends.pushes),
        h.3.3,
      )

  -- An inline fragment whose fields are added as they stand.
  pub inline_opened : (p : Option (MetaTypeOf S C)) (i : Placed (InlineFragment S)) (m : Members S C) (us ts : List (Task S C)) (a : NumberedSet) (s : Table S C)
      → option_copied m.parent ≡ type_inside schema p i.item.type_condition → m.set.now ≡ i.item.selection_set.items → m.role ≡ Compared → us ≡ task.Members m ∷ ts
      → Becomes schema numbers us a s ts (λ b v. AddsFor schema numbers p (selection.InlineFragment i ∷ []) a b s v)
  inline_opened p i m us ts a s type all role waits part' t' meets =
      let h : MeetsAll schema numbers (task.Members m ∷ ts) a part' s t' = subst (λ xs. MeetsAll schema numbers xs a part' s t') waits meets in (
        h.0,
        h.1,
        for_inline schema numbers p (option_copied m.parent) i m.set.now a h.0 s h.1 type all
            (subst (λ r. AddsAs schema numbers r (option_copied m.parent) m.set.now a h.0 s h.1) role h.2),
        h.3,
      )

  -- An inline fragment whose set is begun.
  module _ (i : Placed (InlineFragment S)) (e p : Option (Bor (MetaTypeOf S C))) (type : option_copied e ≡ type_entered schema (option_copied p) i.item.type_condition) where
    -- as a part of the set round it
    pub part_begun : (m : Members S C) (place : ℕ) (us ts : List (Task S C)) (a b : NumberedSet) (s : Table S C)
        → (not (is_some e) && is_some p) ≡ false → m.role ≡ Searched → option_copied m.parent ≡ option_copied e → m.set.now ≡ i.item.selection_set.items
        → BeginsPart place a b → us ≡ task.Members m ∷ task.Part place ∷ ts
        → Becomes schema numbers us b s ts (λ c v. Adds schema numbers (option_copied p) (selection.InlineFragment i ∷ []) a c s v)
    part_begun m place us ts a b s kept role parent all same waits part' t' meets =
        let h : MeetsAll schema numbers (task.Members m ∷ task.Part place ∷ ts) b part' s t' = subst (λ xs. MeetsAll schema numbers xs b part' s t') waits meets in
        let ends : EndsPart place h.0 h.3.0 × (h.1 ≡ h.3.1) = h.3.2 in
        let inside : Adds schema numbers (option_copied e) m.set.now b h.0 s h.1 =
        subst (λ x. Adds schema numbers x m.set.now b h.0 s h.1) parent
        (subst (λ r. AddsAs schema numbers r (option_copied m.parent) m.set.now b h.0 s h.1) role h.2) in (
          h.3.0,
          h.3.1,
          subst (λ x. Adds schema numbers (option_copied p) (selection.InlineFragment i ∷ []) a h.3.0 s x) ends.1
              (adds_inline schema numbers (option_copied p) (option_copied e) i m.set.now type all place s h.1 a b h.0 h.3.0 same ends.0 (same_type schema e p i.item.type_condition type kept) inside),
          h.3.3,
        )

    -- as a set of its own, whose fields are added once more
    pub lost_begun : (m again : Members S C) (begun : BegunInline) (us ts : List (Task S C)) (a empty : NumberedSet) (s t : Table S C)
        → (not (is_some e) && is_some p) ≡ true → m.role ≡ Searched → option_copied m.parent ≡ option_copied e → m.set.now ≡ i.item.selection_set.items
        → again.role ≡ Compared → option_copied again.parent ≡ option_copied p → again.set.now ≡ i.item.selection_set.items
        → begun.outer ≡ a → OpensSet begun.place s t → IsEmptySet empty → us ≡ task.Members m ∷ task.Inline begun ∷ task.Members again ∷ ts
        → Becomes schema numbers us empty t ts (λ c v. Adds schema numbers (option_copied p) (selection.InlineFragment i ∷ []) a c s v)
    lost_begun m again begun us ts a empty s t lost role parent all role' parent' all' outer opened none waits part' t' meets =
        let h : MeetsAll schema numbers (task.Members m ∷ task.Inline begun ∷ task.Members again ∷ ts) empty part' t t' = subst (λ xs. MeetsAll schema numbers xs empty part' t t') waits meets in
        let ends : EndsInline begun h.0 h.3.0 h.1 h.3.1 = h.3.2 in
        let rest : MeetsAll schema numbers (task.Members again ∷ ts) h.3.0 part' h.3.1 t' = h.3.3 in
        let inside : Adds schema numbers (option_copied e) m.set.now empty h.0 t h.1 =
        subst (λ x. Adds schema numbers x m.set.now empty h.0 t h.1) parent
        (subst (λ r. AddsAs schema numbers r (option_copied m.parent) m.set.now empty h.0 t h.1) role h.2) in
        let more : AddsFor schema numbers (option_copied p) m.set.now a rest.0 h.3.1 rest.1 =
        subst (λ x. AddsFor schema numbers (option_copied p) m.set.now x rest.0 h.3.1 rest.1) (ends.outer ∙ outer)
        (subst (λ x. AddsFor schema numbers (option_copied p) x h.3.0 rest.0 h.3.1 rest.1) (all' ∙ sym all)
        (subst (λ x. AddsFor schema numbers x again.set.now h.3.0 rest.0 h.3.1 rest.1) parent'
        (subst (λ r. AddsAs schema numbers r (option_copied again.parent) again.set.now h.3.0 rest.0 h.3.1 rest.1) role' rest.2))) in (
          rest.0,
          rest.1,
          adds_lost schema numbers (option_copied p) (option_copied e) i m.set.now type all ends.number s h.3.1 a rest.0 rest.1
              (adds_set schema numbers (option_copied e) m.set.now begun.place ends.number empty h.0 s t h.1 h.3.1 opened none inside ends.stores)
              (type_around schema e p i.item.type_condition type lost) (unknown_condition schema e p i.item.type_condition type lost) more,
          rest.3,
        )

  -- Whoever does these tasks from here has added the selections.
  module _ (r : Role) (p : Option (MetaTypeOf S C)) (set : List (Selection S)) (a : NumberedSet) (s : Table S C) where
    abbrev pub Finishes : List (Task S C) → NumberedSet → Table S C → Type 0
    Finishes tasks part t = (part' : NumberedSet) (t' : Table S C) → MeetsAll schema numbers tasks part part' t t' → AddsAs schema numbers r p set a part' s t'

    pub finished : (tasks : List (Task S C)) (part : NumberedSet) (t : Table S C) → tasks ≡ [] → Finishes (reverse tasks) part t → AddsAs schema numbers r p set a part s t
    finished tasks part t none h = h part t (subst (λ xs. MeetsAll schema numbers (reverse xs) part part t t) (sym none) (refl, refl))

    pub nearer : (tasks rest new : List (Task S C)) (x : Task S C) (part b : NumberedSet) (t v : Table S C) → tasks ≡ rest ++ x ∷ [] → Finishes (reverse tasks) part t
        → Becomes schema numbers (reverse new) b v (reverse rest) (λ c u. Meets schema numbers x part c t u) → Finishes (reverse new) b v
    nearer tasks rest new x part b t v popped h step part' t' meets =
        let k = step part' t' meets in
        h part' t' (subst (λ xs. MeetsAll schema numbers xs part part' t t') (sym (pushed rest tasks x popped)) k)

  pub started : (m : Members S C) (tasks : List (Task S C)) (a : NumberedSet) (s : Table S C) → tasks ≡ task.Members m ∷ []
      → Finishes m.role (option_copied m.parent) m.set.now a s (reverse tasks) a s
  started m tasks a s is part' t' meets =
      let h : MeetsAll schema numbers (task.Members m ∷ []) a part' s t' = subst (λ xs. MeetsAll schema numbers (reverse xs) a part' s t') is meets in
      subst (λ x. AddsAs schema numbers m.role (option_copied m.parent) m.set.now a part' s x) h.3.1
      (subst (λ x. AddsAs schema numbers m.role (option_copied m.parent) m.set.now a x s h.1) h.3.0 h.2)
