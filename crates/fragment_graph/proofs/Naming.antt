-- Which names have numbers.
use Rattle.std.proofs.Common.{◌≡◌, ℕ, ◌≤◌, List, [], ◌∷◌, ◌++◌, length, refl, sym, subst, ap, arith, ◌∙◌, inl, inr, ◌⊎◌, Option, None, map, take, slice_get, suc}
use Rattle.std.specs.List.{Contains}
use Rattle.std.proofs.lemmas.List.Elements.{Contains-append_left, Contains-push}
use Rattle.std.proofs.lemmas.List.{map-append, take_all}
use Rattle.language.specs.declared.tree.Definition.{Definition}
use Rattle.language.specs.declared.tree.Definition.TheVariants as definition
use Rattle.fragment_graph.specs.declared.numbers.Numbers.{Numbers}
use Rattle.fragment_graph.specs.Numbers.{number_of, names_of, defined_index, defined_number, AddsDefinition, NumberedDefinitions, NumbersOf, Defines, IsNamed, HasNumber}
use Rattle.name_tables.specs.declared.map.NameMap.{NameMap}
use Rattle.fragment_graph.proofs.Lists.{none_some, get_snoc, contains_at, contains_get}
use Rattle.fragment_graph.proofs.Numbering.{adds_name, by_map, number_is, number_keep, number_split, number_there, well_more, AddsName}

same_each : {X Y : Type 0} (f g : X → Y) (xs : List X) → ((x : X) → Contains xs x → f x ≡ g x) → map f xs ≡ map g xs
same_each f g [] h = refl
same_each f g (x ∷ xs) h =
    ap (λ y. y ∷ map f xs) (h x (contains_at (x ∷ xs) 0 x refl))
    ∙ ap (λ ys. g x ∷ ys) (same_each f g xs (λ y c. let (k, at) = contains_get xs y c in h y (contains_at (x ∷ xs) (suc k) y at)))

module _ {S : Type 0} where
  defines_more : (xs : List (Definition S)) (d : Definition S) (name : List ℕ) → Defines xs name → Defines (xs ++ d ∷ []) name
  defines_more xs d name h = (h.0, Contains-append_left xs (d ∷ []) h.0 h.1, h.2)

  defines_split : (xs : List (Definition S)) (d : Definition S) (name : List ℕ) → Defines (xs ++ d ∷ []) name → Defines xs name ⊎ IsNamed name d
  defines_split xs d name h =
      let g = contains_get (xs ++ d ∷ []) h.0 h.1 in
      elim (get_snoc xs d g.0 h.0 g.1) [
        | inl front ↦ inl (h.0, contains_at xs g.0 h.0 front, h.2)
        | inr e ↦ inr (subst (λ (z : Definition S). IsNamed name z) (sym e.1) h.2)
      ]

  pub names_start : (n : Numbers) → ((name : List ℕ) → number_of n name ≡ None) → names_of n ≡ [] → NumbersOf {S = S} [] n
  names_start n h c = record {
    numbered = λ name k. (
      λ g. absurd (none_some k (sym (h name) ∙ g)),
      λ g. absurd (none_some name (ap (λ (xs : List (List ℕ)). slice_get xs k) (sym c) ∙ g)),
    );
    defined = λ name. (λ g. absurd (none_some g.0 (sym (h name) ∙ g.1)), λ d. let l = d.1.1 in absurd (omega (arith, l)));
  }

  -- a definition's name got a number, if it is a fragment's
  abbrev Numbered : Definition S → Numbers → Numbers → Type 0
  Numbered (definition.Operation o) old new = new ≡ old
  Numbered (definition.Fragment f) old new = AddsName old new f.item.name.item.now

  pub numbered_by : (d : Definition S) (n : Numbers) (old new : NameMap (Unit {0})) → AddsDefinition d old new → Numbered d (by_map n old) (by_map n new)
  numbered_by (definition.Operation o) n old new e = ap (by_map n) e
  numbered_by (definition.Fragment f) n old new a = adds_name (by_map n old) (by_map n new) f.item.name.item tt a

  pub index_is_number : (d : Definition S) (n : Numbers) (m : NameMap (Unit {0})) → defined_index m d ≡ defined_number (by_map n m) d
  index_is_number (definition.Operation o) n m = refl
  index_is_number (definition.Fragment f) n m = sym (number_is (by_map n m) f.item.name.item.now)

  pub names_more : (xs : List (Definition S)) (d : Definition S) (old new : Numbers) → Numbered d old new → NumbersOf xs old → NumbersOf (xs ++ d ∷ []) new
  names_more xs (definition.Operation o) old new e h =
      subst (λ (n : Numbers). NumbersOf (xs ++ definition.Operation o ∷ []) n) (sym e) record {
        numbered = h.numbered;
        defined = λ name. (
          λ g. defines_more xs (definition.Operation o) name ((h.defined name).0 g),
          λ g. elim (defines_split xs (definition.Operation o) name g) [ inl i ↦ (h.defined name).1 i | inr i ↦ absurd i ],
        );
      }
  names_more xs (definition.Fragment f) old new a h = record {
    numbered = well_more old new f.item.name.item.now a h.numbered;
    defined = λ name. (
      λ g. elim (number_split old new f.item.name.item.now a name g.0 g.1) [
        | inl p ↦ defines_more xs (definition.Fragment f) name ((h.defined name).0 (g.0, p))
        | inr p ↦ (definition.Fragment f, Contains-push xs (definition.Fragment f), p.1)
      ],
      λ g. elim (defines_split xs (definition.Fragment f) name g) [
        | inl i ↦ let k = (h.defined name).1 i in (k.0, number_keep old new f.item.name.item.now a name k.0 k.1)
        | inr e ↦ subst (λ (z : List ℕ). HasNumber new z) e (number_there old new f.item.name.item.now a (number_of old f.item.name.item.now) refl)
      ],
    );
  }

  -- a definition that has a number keeps it
  number_kept : (xs : List (Definition S)) (d e : Definition S) (old new : Numbers) → Numbered d old new → NumbersOf xs old → Contains xs e → defined_number new e ≡ defined_number old e
  number_kept xs (definition.Operation o) e old new a h c = ap (λ n. defined_number n e) a
  number_kept xs (definition.Fragment f) (definition.Operation p) old new a h c = refl
  number_kept xs (definition.Fragment f) (definition.Fragment p) old new a h c =
      let (k, is) = (h.defined p.item.name.item.now).1 (definition.Fragment p, c, refl) in
      number_keep old new f.item.name.item.now a p.item.name.item.now k is ∙ sym is

  pub definitions_more : (xs : List (Definition S)) (d : Definition S) (old new : Numbers) (before after : List (Option ℕ)) (number : Option ℕ)
      → Numbered d old new → number ≡ defined_number new d → after ≡ before ++ number ∷ []
      → NumberedDefinitions xs old before → NumberedDefinitions (xs ++ d ∷ []) new after
  definitions_more xs d old new before after number a is more h = record {
    numbers = names_more xs d old new a h.numbers;
    each =
        more ∙ ap (λ zs. zs ++ number ∷ []) (h.each ∙ same_each (defined_number old) (defined_number new) xs (λ e c. sym (number_kept xs d e old new a h.numbers c)))
        ∙ ap (λ o. map (defined_number new) xs ++ o ∷ []) is ∙ sym (map-append (defined_number new) xs (d ∷ []));
  }

  pub names_all : (xs : List (Definition S)) (k : ℕ) (n : Numbers) (defined : List (Option ℕ)) → length xs ≤ k → NumberedDefinitions (take k xs) n defined → NumberedDefinitions xs n defined
  names_all xs k n defined l h = subst (λ (zs : List (Definition S)). NumberedDefinitions zs n defined) (take_all k xs l) h
