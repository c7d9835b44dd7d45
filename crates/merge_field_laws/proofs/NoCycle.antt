-- Induction along the spreads of a document with no cycle of fragments.
use Rattle.std.proofs.Common.{◌≡◌, ℕ, zero, suc, ◌+◌, ◌≤◌, List, [], ◌∷◌, map, length, Bool, true, false, cond, Some, slice_get, refl, sym, subst, ◌⊎◌, inl, inr, arith}
use Rattle.std.specs.List.{list_any}
use Rattle.std.specs.Str.{bytes_eq}
use Rattle.std.proofs.lemmas.Bool.{and_from, or_cases, not_from_false, cases_Bool}
use Rattle.language_values.specs.ValuesEqual.{are_distinct}
use Rattle.language.specs.declared.tree.Definition.{Definition}
use Rattle.language.specs.declared.tree.Definition.TheVariants as definition
use Rattle.language_values.proofs.Members.{In, all_listed, list_any-from_key, bytes_eq-same}
use Rattle.fragment_graph.specs.Spreads.{PlacedSpread, placed_spreads_of_all, spreads_of_name, spreads_named}
use Rattle.fragment_graph.specs.DocumentCycles.{NameSpreads, NamePath, name_step, name_more, HasNoCycle}
use Rattle.fragment_graph.proofs.Lists.{same_some, none_some, contains_get}
use Rattle.fragment_graph.proofs.NamePaths.{flat_get}

pub at_in : {X : Type 0} (xs : List X) (k : ℕ) (x : X) → slice_get xs k ≡ Some x → In x xs
at_in [] k x h = absurd (none_some x h)
at_in (y ∷ ys) zero x h = inl (same_some y x h)
at_in (y ∷ ys) (suc k) x h = inr (at_in ys k x h)

module _ {S : Type 0} (document : List (Definition S)) where
  abbrev name_in : Definition S → List ℕ
  name_in (definition.Operation o) = []
  name_in (definition.Fragment f) = f.item.name.item.now

  abbrev names : List (List ℕ)
  names = map name_in document

  of_name : (b : Bool) (f g : List ℕ) (xs : List PlacedSpread) (k : ℕ) (s : PlacedSpread) → bytes_eq g f ≡ b → slice_get (cond b xs []) k ≡ Some s → f ≡ g
  of_name true f g xs k s e h = sym (bytes_eq-same g f e)
  of_name false f g xs k s e h = absurd (none_some s h)

  named : (f : List ℕ) (d : Definition S) (k : ℕ) (s : PlacedSpread) → slice_get (spreads_named f d) k ≡ Some s → f ≡ name_in d
  named f (definition.Operation o) k s h = absurd (none_some s h)
  named f (definition.Fragment x) k s h = of_name (bytes_eq x.item.name.item.now f) f x.item.name.item.now (placed_spreads_of_all x.item.selection_set.items) k s refl h

  -- what spreads something is a fragment of the document
  is_listed : (f g : List ℕ) → NameSpreads document f g → list_any (bytes_eq f) names ≡ true
  is_listed f g s =
      let k = contains_get (spreads_of_name document f) s.0 s.1 in
      let d = flat_get (spreads_named f) document k.0 s.0 k.1 in
      list_any-from_key name_in f document d.0 (at_in document d.1.0 d.0 d.1.1) (named f d.0 d.2.0 s.0 d.2.1)

  path_then : {f g h : List ℕ} → NamePath document f g → NameSpreads document g h → NamePath document f h
  path_then (name_step s) t = name_more s (name_step t)
  path_then (name_more s p) t = name_more s (path_then p t)

  -- different fragments of the document that all lead to this one
  record Leads (ks : List (List ℕ)) (f : List ℕ) : Type 0 where
    distinct : are_distinct ks ≡ true
    listed : (k : List ℕ) → list_any (bytes_eq k) ks ≡ true → list_any (bytes_eq k) names ≡ true
    path : (k : List ℕ) → list_any (bytes_eq k) ks ≡ true → NamePath document k f

  module _ (clean : HasNoCycle document) where
    one_more : (ks : List (List ℕ)) (f g : List ℕ) → Leads ks f → NameSpreads document f g → Leads (f ∷ ks) g
    one_more ks f g leads s = record {
      distinct = and_from _ _ (not_from_false (list_any (bytes_eq f) ks) (fresh (cases_Bool (list_any (bytes_eq f) ks)))) leads.distinct;
      listed = λ k h. elim (or_cases (bytes_eq k f) (list_any (bytes_eq k) ks) h) [
        | inl same ↦ subst (λ z. list_any (bytes_eq z) names ≡ true) (sym (bytes_eq-same k f same)) (is_listed f g s)
        | inr i ↦ leads.listed k i
      ];
      path = λ k h. elim (or_cases (bytes_eq k f) (list_any (bytes_eq k) ks) h) [
        | inl same ↦ subst (λ z. NamePath document z g) (sym (bytes_eq-same k f same)) (name_step s)
        | inr i ↦ path_then (leads.path k i) s
      ];
    }
      where
        fresh : (list_any (bytes_eq f) ks ≡ true) ⊎ (list_any (bytes_eq f) ks ≡ false) → list_any (bytes_eq f) ks ≡ false
        fresh (inl there) = absurd (clean f (leads.path f there))
        fresh (inr absent) = absent

    module _ (P : List ℕ → Type 0) (step : (f : List ℕ) → ((g : List ℕ) → NameSpreads document f g → P g) → P f) where
      from : (n : ℕ) (ks : List (List ℕ)) (f : List ℕ) → length names ≤ n + length ks → Leads ks f → P f
      from zero ks f l leads = step f (λ g s. absurd (clean f (leads.path f (all_listed ks names f leads.distinct (omega (arith, l)) leads.listed (is_listed f g s)))))
      from (suc n) ks f l leads = step f (λ g s. from n (f ∷ ks) g (omega (arith, l)) (one_more ks f g leads s))

      -- what holds of a name where it holds of each that it spreads holds of all
      pub spread_induction : (f : List ℕ) → P f
      spread_induction f = from (length names) [] f (omega arith) (record { distinct = refl; listed = λ k h. cc; path = λ k h. cc })
