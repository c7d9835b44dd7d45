-- The types of fragments, definition by definition.
use Rattle.std.proofs.Common.{◌≡◌, ℕ, ◌+◌, ◌<◌, get_or, List, [], ◌∷◌, ◌++◌, slice_set, option_and_then, subst, Option, Some, None, Bool, true, false, cond, take, length, refl, ap, sym, slice_get, ◌∙◌}
use mathlib.Core.Path.{fun_ext}
use denote.Ref.{Bor}
use Rattle.std.proofs.lemmas.List.{take_more}
use Rattle.std.proofs.lemmas.Slice.Eq.{bytes_eq-Decides}
use Rattle.std.specs.List.{All, Contains}
use Rattle.std.proofs.lemmas.List.Elements.{All-contains}
use Rattle.std.specs.Map.{update}
use Rattle.std.specs.Option.{option_copied}
use Rattle.std.specs.Str.{bytes_eq}
use Rattle.language.specs.declared.tree.Definition.{Definition}
use Rattle.language.specs.declared.tree.Definition.TheVariants as definition
use Rattle.fragment_graph.specs.declared.numbers.Numbers.{Numbers}
use Rattle.fragment_graph.specs.DocumentGraph.{IsNumbered}
use Rattle.fragment_graph.specs.Numbers.{number_of, NumberedDefinitions, WellNumbered}
use Rattle.fragment_graph.proofs.Lists.{contains_at, none_some, same_item, get_some, set_same, set_other}
use Rattle.fragment_graph.proofs.Numbering.{single}
use Rattle.rules_fragments.specs.Conditions.{kept_at}
use Rattle.meta.specs.declared.kinds.MetaTypeOf.{MetaTypeOf}
use Rattle.schema.specs.Catalog.{Catalog}
use Rattle.rules_fragments.specs.PossibleFragmentSpreads.{TypesByName, conditions_in, with_definition, with_type}

module _ {S C : Type 0} (schema : Catalog S C) where
  conditions-last : (types : TypesByName S C) (ds : List (Definition S)) (d : Definition S) → conditions_in schema types (ds ++ d ∷ []) ≡ with_definition schema (conditions_in schema types ds) d
  conditions-last types [] d = refl
  conditions-last types (e ∷ ds) d = conditions-last (with_definition schema types e) ds d

  pub conditions_more : (types p q : TypesByName S C) (ds : List (Definition S)) (i : ℕ) (d : Definition S) → i < length ds → d ≡ get_or ds i d → p ≡ conditions_in schema types (take i ds) → q ≡ with_definition schema p d → q ≡ conditions_in schema types (take (i + 1) ds)
  conditions_more types p q ds i d h e seen more =
      more
      ∙ ap (λ z. with_definition schema z d) seen
      ∙ sym (conditions-last types (take i ds) d)
      ∙ ap (λ z. conditions_in schema types (take i ds ++ z ∷ [])) e
      ∙ ap (conditions_in schema types) (sym (take_more ds i d h))

copied_by : {T : Type 0} (b : Bool) (x : Bor T) (o : Option (Bor T)) → option_copied (cond b (Some x) o) ≡ cond b (Some x.now) (option_copied o)
copied_by true x o = refl
copied_by false x o = refl

-- a name that was put in
pub inserted : {S C : Type 0} (p q : List ℕ → Option (Bor (MetaTypeOf S C))) (name : List ℕ) (t : Bor (MetaTypeOf S C)) → ((n : List ℕ) → q n ≡ update bytes_eq p name (Some t) n)
    → (λ n. option_copied (q n)) ≡ with_type (λ n. option_copied (p n)) name (Some t.now)
inserted p q name t u = fun_ext (λ n. ap option_copied (u n) ∙ copied_by (bytes_eq name n) t (p n))

clash : (b : Bool) → b ≡ false → b ≡ true → ⊥
clash b p q = cc

-- what is kept at the number of a name is kept for that name, and for no other
module _ {X : Type 0} (n : Numbers) (w : WellNumbered n) (f name : List ℕ) (k : ℕ) (x : X) (xs : List (Option X)) (at : number_of n f ≡ Some k) (low : k < length xs) where
  kept_by : (o : Option ℕ) → number_of n name ≡ o → (b : Bool) → bytes_eq f name ≡ b → kept_at (slice_set xs k (Some x)) o ≡ cond b (Some x) (kept_at xs o)
  kept_by None h true e = absurd (none_some k (sym h ∙ ap (number_of n) (sym ((bytes_eq-Decides f name).0 e)) ∙ at))
  kept_by None h false e = refl
  kept_by (Some j) h true e =
      let is : k ≡ j = same_item k j (number_of n name) (ap (number_of n) (sym ((bytes_eq-Decides f name).0 e)) ∙ at) h in
      let (was, stands) = get_some xs k low in
      subst (λ i. kept_at (slice_set xs k (Some x)) (Some i) ≡ Some x) is (ap (option_and_then (λ p. p)) (set_same xs k was (Some x) stands))
  kept_by (Some j) h false e =
      ap (option_and_then (λ p. p)) (set_other xs k j (Some x) (λ q. clash (bytes_eq f name) e ((bytes_eq-Decides f name).1 (single n w f name k at (h ∙ ap Some q)))))

  pub kept_now : kept_at (slice_set xs k (Some x)) (number_of n name) ≡ update bytes_eq (λ q. kept_at xs (number_of n q)) f (Some x) name
  kept_now = kept_by (number_of n name) refl (bytes_eq f name) refl

-- a definition of the document has a number, if it is a fragment's
module _ {S : Type 0} (document : List (Definition S)) (n : Numbers) (defined : List (Option ℕ)) (h : NumberedDefinitions document n defined) where
  pub has_number : (d : Definition S) → Contains document d → IsNumbered n d
  has_number (definition.Operation o) c = tt
  has_number (definition.Fragment f) c = (h.numbers.defined f.item.name.item.now).1 (definition.Fragment f, c, refl)

none_at : {X : Type 0} (xs : List (Option X)) → All (λ o. o ≡ None) xs → (k : ℕ) (r : Option (Option X)) → slice_get xs k ≡ r → option_and_then (λ o. o) r ≡ None
none_at xs a k None h = refl
none_at xs a k (Some o) h = All-contains (λ o. o ≡ None) xs o a (contains_at xs k o h)

-- where nothing is kept at any number, nothing is kept at one
pub none_kept : {X : Type 0} (xs : List (Option X)) → All (λ o. o ≡ None) xs → (o : Option ℕ) → kept_at xs o ≡ None
none_kept xs a None = refl
none_kept xs a (Some k) = none_at xs a k (slice_get xs k) refl
