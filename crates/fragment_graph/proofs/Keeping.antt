-- The names that are kept are those of a document.
use Rattle.std.proofs.Common.{◌≡◌, ℕ, List, [], ◌∷◌, ◌++◌, length, refl, sym, subst, ap, arith, ◌∙◌, zero, suc, inl, inr, ◌⊎◌, Bool, true, false, ◌||◌, Option, None, Some, map, slice_get}
use Rattle.std.specs.List.{Contains, flat_map}
use Rattle.std.proofs.lemmas.List.{length-map}
use Rattle.std.specs.Option.{is_some, unwrap_or}
use Rattle.std.specs.Str.{bytes_eq}
use Rattle.std.proofs.lemmas.Slice.Eq.{bytes_eq-Decides}
use Rattle.language.specs.declared.tree.Definition.{Definition}
use Rattle.language.specs.declared.tree.Definition.TheVariants as definition
use Rattle.fragment_graph.specs.declared.numbers.NumberedNames.{NumberedNames}
use Rattle.fragment_graph.specs.declared.numbers.Numbers.{Numbers}
use Rattle.fragment_graph.specs.Kept.{is_among, fragment_name, fragment_names, name_of_number, is_kept, IsCopy, IsNumberOf, AreNumbersOf}
use Rattle.fragment_graph.specs.Numbers.{number_of, defined_number, Defines, IsNamed, NumberedDefinitions, NumbersOf, WellNumbered}
use Rattle.fragment_graph.proofs.Lists.{none_some, contains_at, contains_get, same_some}

either : (b c : Bool) → (b || c) ≡ true → (b ≡ true) ⊎ (c ≡ true)
either true c h = inl refl
either false c h = inr h

second : (b c : Bool) → c ≡ true → (b || c) ≡ true
second true c h = refl
second false c h = h

not_true : (b : Bool) → (b ≡ true → ⊥) → false ≡ b
not_true true h = absurd (h refl)
not_true false h = refl

some_of : (o : Option ℕ) → is_some o ≡ true → (k : ℕ) × (o ≡ Some k)
some_of None e = absurd cc
some_of (Some k) e = (k, refl)

module _ {S : Type 0} where
  below_head : (d : Definition S) (ds : List (Definition S)) (name : List ℕ) → Defines ds name → Defines (d ∷ ds) name
  below_head d ds name h = let (k, at) = contains_get ds h.0 h.1 in (h.0, contains_at (d ∷ ds) (suc k) h.0 at, h.2)

  pub is_defined : (ds : List (Definition S)) (name : List ℕ) → is_among (fragment_names ds) name ≡ true → Defines ds name
  is_defined [] name h = absurd cc
  is_defined (definition.Operation o ∷ ds) name h = below_head (definition.Operation o) ds name (is_defined ds name h)
  is_defined (definition.Fragment f ∷ ds) name h = elim (either (bytes_eq f.item.name.item.now name) (is_among (fragment_names ds) name) h) [
    | inl e ↦ (definition.Fragment f, contains_at (definition.Fragment f ∷ ds) 0 (definition.Fragment f) refl, (bytes_eq-Decides f.item.name.item.now name).0 e)
    | inr r ↦ below_head (definition.Fragment f) ds name (is_defined ds name r)
  ]

  named_at : (ds : List (Definition S)) (f : Definition S) (name : List ℕ) (k : ℕ) → slice_get ds k ≡ Some f → IsNamed name f → is_among (fragment_names ds) name ≡ true
  named_at [] f name k at is = absurd (none_some f at)
  named_at (definition.Operation o ∷ ds) f name zero at is = absurd (subst (λ d. IsNamed name d) (sym (same_some (definition.Operation o) f at)) is)
  named_at (definition.Operation o ∷ ds) f name (suc k) at is = named_at ds f name k at is
  named_at (definition.Fragment g ∷ ds) f name zero at is =
      let e : g.item.name.item.now ≡ name = subst (λ d. IsNamed name d) (sym (same_some (definition.Fragment g) f at)) is in
      ap (λ b. b || is_among (fragment_names ds) name) ((bytes_eq-Decides g.item.name.item.now name).1 e)
  named_at (definition.Fragment g ∷ ds) f name (suc k) at is = second (bytes_eq g.item.name.item.now name) (is_among (fragment_names ds) name) (named_at ds f name k at is)

  pub defined_is : (ds : List (Definition S)) (name : List ℕ) → Defines ds name → is_among (fragment_names ds) name ≡ true
  defined_is ds name h = let (k, at) = contains_get ds h.0 h.1 in named_at ds h.0 name k at h.2

  exact_by : (ds : List (Definition S)) (n : Numbers) (name : List ℕ) (o : Option ℕ) → NumbersOf ds n → number_of n name ≡ o → is_some o ≡ is_among (fragment_names ds) name
  exact_by ds n name (Some k) h e = sym (defined_is ds name ((h.defined name).0 (k, e)))
  exact_by ds n name None h e = not_true (is_among (fragment_names ds) name) (λ t. let g = (h.defined name).1 (is_defined ds name t) in none_some g.0 (sym e ∙ g.1))

  -- a name has a number if and only if some fragment of the document has it
  pub exact : (ds : List (Definition S)) (n : Numbers) → NumbersOf ds n → (name : List ℕ) → is_some (number_of n name) ≡ is_among (fragment_names ds) name
  exact ds n h name = exact_by ds n name (number_of n name) h refl

  number_is : (n : Numbers) (o : Option ℕ) (d : Definition S) → WellNumbered n → IsNumberOf n o d → o ≡ defined_number n d
  number_is n None (definition.Operation p) w h = refl
  number_is n None (definition.Fragment f) w h = absurd h
  number_is n (Some k) (definition.Operation p) w h = absurd h
  number_is n (Some k) (definition.Fragment f) w h = sym ((w f.item.name.item.now k).1 h)

  name_is : (n : Numbers) (o : Option ℕ) (d : Definition S) → IsNumberOf n o d → name_of_number n o ≡ fragment_name d
  name_is n None (definition.Operation p) h = refl
  name_is n None (definition.Fragment f) h = absurd h
  name_is n (Some k) (definition.Operation p) h = absurd h
  name_is n (Some k) (definition.Fragment f) h = ap (λ o. unwrap_or o [] ∷ []) h

  module _ (n : Numbers) where
    abbrev Pairs : List (Option ℕ) → List (Definition S) → Type 0
    Pairs os ds = (i : ℕ) (o : Option ℕ) (d : Definition S) → slice_get os i ≡ Some o → slice_get ds i ≡ Some d → IsNumberOf n o d

    numbers_are : (os : List (Option ℕ)) (ds : List (Definition S)) → WellNumbered n → length os ≡ length ds → Pairs os ds → os ≡ map (defined_number n) ds
    numbers_are [] [] w l h = refl
    numbers_are [] (d ∷ ds) w l h = absurd (omega (arith, l))
    numbers_are (o ∷ os) [] w l h = absurd (omega (arith, l))
    numbers_are (o ∷ os) (d ∷ ds) w l h =
        ap (λ p. p ∷ os) (number_is n o d w (h 0 o d refl refl)) ∙ ap (λ ps. defined_number n d ∷ ps) (numbers_are os ds w (omega (arith, l)) (λ i. h (suc i)))

    names_are : (os : List (Option ℕ)) (ds : List (Definition S)) → length os ≡ length ds → Pairs os ds → flat_map (name_of_number n) os ≡ fragment_names ds
    names_are [] [] l h = refl
    names_are [] (d ∷ ds) l h = absurd (omega (arith, l))
    names_are (o ∷ os) [] l h = absurd (omega (arith, l))
    names_are (o ∷ os) (d ∷ ds) l h =
        ap (λ ns. ns ++ flat_map (name_of_number n) os) (name_is n o d (h 0 o d refl refl)) ∙ ap (λ ns. fragment_name d ++ ns) (names_are os ds (omega (arith, l)) (λ i. h (suc i)))

    at_definition : (ds : List (Definition S)) (d : Definition S) → NumbersOf ds n → Contains ds d → IsNumberOf n (defined_number n d) d
    at_definition ds (definition.Operation p) h c = tt
    at_definition ds (definition.Fragment f) h c =
        let (k, e) = (h.defined f.item.name.item.now).1 (definition.Fragment f, c, refl) in
        subst (λ o. IsNumberOf n o (definition.Fragment f)) (sym e) ((h.numbered f.item.name.item.now k).0 e)

    mapped : (ds : List (Definition S)) (i : ℕ) (o : Option ℕ) (d : Definition S) → slice_get (map (defined_number n) ds) i ≡ Some o → slice_get ds i ≡ Some d → o ≡ defined_number n d
    mapped [] i o d a b = absurd (none_some d b)
    mapped (e ∷ ds) zero o d a b = cc
    mapped (e ∷ ds) (suc i) o d a b = mapped ds i o d a b

    -- the names of a document's numbers are its own
    pub names_of_numbers : (ds : List (Definition S)) (os : List (Option ℕ)) → NumberedDefinitions ds n os → flat_map (name_of_number n) os ≡ fragment_names ds
    names_of_numbers ds os h =
        ap (flat_map (name_of_number n)) h.each
        ∙ names_are (map (defined_number n) ds) ds (length-map ds (defined_number n)) (λ i o d a b. subst (λ p. IsNumberOf n p d) (sym (mapped ds i o d a b)) (at_definition ds d h.numbers (contains_at ds i d b)))

  -- names that are a document's, definition by definition
  pub numbered : (ds : List (Definition S)) (n : Numbers) (os : List (Option ℕ)) → WellNumbered n → AreNumbersOf n os ds
      → ((name : List ℕ) → is_some (number_of n name) ≡ is_among (fragment_names ds) name) → NumberedDefinitions ds n os
  numbered ds n os w h x = record {
    numbers = record {
      numbered = w;
      defined = λ name. (
        λ g. is_defined ds name (sym (x name) ∙ ap is_some g.1),
        λ d. some_of (number_of n name) (x name ∙ defined_is ds name d),
      );
    };
    each = numbers_are n os ds w h.sized h.each;
  }

  pub numbered_copy : (ds : List (Definition S)) (names copy : NumberedNames) → WellNumbered names.numbers
      → ((name : List ℕ) → is_some (number_of names.numbers name) ≡ is_kept names name)
      → AreNumbersOf names.numbers names.defined.items ds → IsCopy names copy → NumberedDefinitions ds copy.numbers copy.defined.items
  numbered_copy ds names copy w x h c =
      let well : WellNumbered copy.numbers = λ name k. (
        λ g. ap (λ ns. slice_get ns k) c.same ∙ (w name k).0 (sym (c.numbers name) ∙ g),
        λ g. c.numbers name ∙ (w name k).1 (sym (ap (λ ns. slice_get ns k) c.same) ∙ g),
      ) in
      numbered ds copy.numbers copy.defined.items well
      (subst (λ os. AreNumbersOf copy.numbers os ds) (sym c.defined) (record {
        sized = h.sized;
        each = λ i o d a b. same_names o d (h.each i o d a b);
      }))
      (λ name. ap is_some (c.numbers name) ∙ x name ∙ ap (λ ns. is_among ns name) (names_are names.numbers names.defined.items ds h.sized h.each))
    where
      same_names : (o : Option ℕ) (d : Definition S) → IsNumberOf names.numbers o d → IsNumberOf copy.numbers o d
      same_names None (definition.Operation p) g = tt
      same_names None (definition.Fragment f) g = absurd g
      same_names (Some k) (definition.Operation p) g = absurd g
      same_names (Some k) (definition.Fragment f) g = ap (λ ns. slice_get ns k) c.same ∙ g
