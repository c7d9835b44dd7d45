-- The subtype relation and the test of the code; the relation is reflexive and transitive.
use Rattle.std.proofs.Common.{◌≡◌, ℕ, List, [], ◌∷◌, ◌++◌, Bool, true, Some, Option, reverse, refl, ap, subst, sym, ◌∙◌}
use Rattle.std.specs.Prelude.{◌↔◌}
use Rattle.std.proofs.lemmas.List.{reverse-append, reverse-reverse}
use Rattle.language_types.specs.declared.types.TypeModifier.{TypeModifier}
use Rattle.language_types.specs.declared.types.TypeModifier.TheVariants as m
use Rattle.language_types.specs.Types.{TypeShape, nullable_named, wrapped_by, list_of, outermost, IsNonNull}
use Rattle.meta.specs.declared.kinds.MetaTypeOf.{MetaTypeOf}
use Rattle.schema_validation.specs.Accepted.{Roots, IsAccepted}
use Rattle.schema.specs.Layers.{are_layers_below}
use Rattle.schema.specs.Subtype.{is_name_below, IsSubtype, equal, names, both_non_null, both_lists, non_null}
use Rattle.schema.proofs.NamesBelow.{names-same, names-trans}
use Rattle.schema.proofs.WrappedLemmas.{outermost-push}

-- a name with modifiers, outermost first
abbrev layered : List ℕ → List TypeModifier → TypeShape
layered n [] = nullable_named n
layered n (x ∷ xs) = wrapped_by x (layered n xs)

layered-reverse : (n : List ℕ) (xs : List TypeModifier) → layered n xs ≡ record { name = n; modifiers = reverse xs }
layered-reverse n [] = refl
layered-reverse n (x ∷ xs) = ap (wrapped_by x) (layered-reverse n xs) ∙ ap (λ ms. record { name = n; modifiers = ms }) (sym (reverse-append (x ∷ []) xs))

layered-same : (t : TypeShape) → layered t.name (reverse t.modifiers) ≡ t
layered-same t = layered-reverse t.name (reverse t.modifiers) ∙ ap (λ ms. record { name = t.name; modifiers = ms }) (reverse-reverse t.modifiers)

outermost-first : (ms ns : List TypeModifier) (x : TypeModifier) → x ∷ ns ≡ reverse ms → outermost ms ≡ Some x
outermost-first ms ns x e =
    let back : ms ≡ reverse ns ++ x ∷ [] = sym (reverse-reverse ms) ∙ ap reverse (sym e) ∙ reverse-append (x ∷ []) ns in
    ap outermost back ∙ outermost-push (reverse ns) x

list_nullable : (j : Option ℕ) (u : TypeShape) → ¬ (IsNonNull (list_of j u))
list_nullable j u e = let list : outermost (u.modifiers ++ m.List j ∷ []) ≡ Some (m.List j) = outermost-push u.modifiers (m.List j) in cc

name_nullable : (n : List ℕ) → ¬ (IsNonNull (nullable_named n))
name_nullable n e = cc

-- a non-null over a type that is not non-null
over_none : (b : Bool) (xs ns ms : List TypeModifier) → ns ≡ reverse ms → ¬ (outermost ms ≡ Some m.NonNull) → are_layers_below b xs ns ≡ true → are_layers_below b (m.NonNull ∷ xs) ns ≡ true
over_none b xs [] ms e none h = h
over_none b xs (m.NonNull ∷ ns) ms e none h = absurd (none (outermost-first ms ns m.NonNull e))
over_none b xs (m.List j ∷ ns) ms e none h = h

layers-refl : (b : Bool) → b ≡ true → (ms : List TypeModifier) → are_layers_below b ms ms ≡ true
layers-refl b h [] = h
layers-refl b h (m.NonNull ∷ ms) = layers-refl b h ms
layers-refl b h (m.List i ∷ ms) = layers-refl b h ms

module _ (p q r : Bool) (f : p ≡ true → q ≡ true → r ≡ true) where
  pub layers-trans : (xs ys zs : List TypeModifier) → are_layers_below p xs ys ≡ true → are_layers_below q ys zs ≡ true → are_layers_below r xs zs ≡ true
  layers-trans [] [] [] h e = f h e
  layers-trans [] [] (z ∷ zs) h e = cc
  layers-trans [] (y ∷ ys) zs h e = cc
  layers-trans (m.NonNull ∷ xs) [] [] h e = layers-trans xs [] [] h e
  layers-trans (m.NonNull ∷ xs) [] (z ∷ zs) h e = cc
  layers-trans (m.NonNull ∷ xs) (m.NonNull ∷ ys) [] h e = layers-trans xs ys [] h e
  layers-trans (m.NonNull ∷ xs) (m.NonNull ∷ ys) (m.NonNull ∷ zs) h e = layers-trans xs ys zs h e
  layers-trans (m.NonNull ∷ xs) (m.NonNull ∷ ys) (m.List j ∷ zs) h e = layers-trans xs ys (m.List j ∷ zs) h e
  layers-trans (m.NonNull ∷ xs) (m.List i ∷ ys) [] h e = cc
  layers-trans (m.NonNull ∷ xs) (m.List i ∷ ys) (m.NonNull ∷ zs) h e = cc
  layers-trans (m.NonNull ∷ xs) (m.List i ∷ ys) (m.List j ∷ zs) h e = layers-trans xs (m.List i ∷ ys) (m.List j ∷ zs) h e
  layers-trans (m.List i ∷ xs) [] zs h e = cc
  layers-trans (m.List i ∷ xs) (m.NonNull ∷ ys) zs h e = cc
  layers-trans (m.List i ∷ xs) (m.List j ∷ ys) [] h e = cc
  layers-trans (m.List i ∷ xs) (m.List j ∷ ys) (m.NonNull ∷ zs) h e = cc
  layers-trans (m.List i ∷ xs) (m.List j ∷ ys) (m.List l ∷ zs) h e = layers-trans xs ys zs h e

module _ {S C : Type 0} (ts : List (MetaTypeOf S C)) where
  -- the test, at two types
  abbrev pub passes : TypeShape → TypeShape → Bool
  passes t u = are_layers_below (is_name_below ts t.name u.name) (reverse t.modifiers) (reverse u.modifiers)

  below-layered : (a b : List ℕ) (xs ys : List TypeModifier) → are_layers_below (is_name_below ts a b) xs ys ≡ true → IsSubtype ts (layered a xs) (layered b ys)
  below-layered a b [] [] h = names a b h
  below-layered a b [] (y ∷ ys) h = cc
  below-layered a b (m.NonNull ∷ xs) [] h = non_null (layered a xs) (nullable_named b) (name_nullable b) (below-layered a b xs [] h)
  below-layered a b (m.NonNull ∷ xs) (m.NonNull ∷ ys) h = both_non_null (layered a xs) (layered b ys) (below-layered a b xs ys h)
  below-layered a b (m.NonNull ∷ xs) (m.List j ∷ ys) h = non_null (layered a xs) (list_of j (layered b ys)) (list_nullable j (layered b ys)) (below-layered a b xs (m.List j ∷ ys) h)
  below-layered a b (m.List i ∷ xs) [] h = cc
  below-layered a b (m.List i ∷ xs) (m.NonNull ∷ ys) h = cc
  below-layered a b (m.List i ∷ xs) (m.List j ∷ ys) h = both_lists i j (layered a xs) (layered b ys) (below-layered a b xs ys h)

  -- what passes is a subtype
  pub below-passed : (t u : TypeShape) → passes t u ≡ true → IsSubtype ts t u
  below-passed t u h =
      subst (IsSubtype ts t) (layered-same u) (subst (λ w. IsSubtype ts w (layered u.name (reverse u.modifiers))) (layered-same t) (below-layered t.name u.name (reverse t.modifiers) (reverse u.modifiers) h))

  -- a subtype passes
  pub passed-below : {t u : TypeShape} → IsSubtype ts t u → passes t u ≡ true
  passed-below (equal t) = layers-refl (is_name_below ts t.name t.name) (names-same ts t.name t.name refl) (reverse t.modifiers)
  passed-below (names a b h) = h
  passed-below (both_non_null t u r) =
      (λ i. are_layers_below (is_name_below ts t.name u.name) (reverse-append t.modifiers (m.NonNull ∷ []) i) (reverse-append u.modifiers (m.NonNull ∷ []) i)) ∙ passed-below r
  passed-below (both_lists j k t u r) =
      (λ i. are_layers_below (is_name_below ts t.name u.name) (reverse-append t.modifiers (m.List j ∷ []) i) (reverse-append u.modifiers (m.List k ∷ []) i)) ∙ passed-below r
  passed-below (non_null t u none r) =
      ap (λ l. are_layers_below (is_name_below ts t.name u.name) l (reverse u.modifiers)) (reverse-append t.modifiers (m.NonNull ∷ []))
      ∙ over_none (is_name_below ts t.name u.name) (reverse t.modifiers) (reverse u.modifiers) u.modifiers refl none (passed-below r)

  -- the test, at the names and the modifiers that the code reads
  pub passes-at : (t u : TypeShape) (r below : Bool) (a b : List ℕ) (ms ns : List TypeModifier) → a ≡ t.name → b ≡ u.name → ms ≡ t.modifiers → ns ≡ u.modifiers → below ≡ is_name_below ts a b → r ≡ are_layers_below below (reverse ms) (reverse ns) → r ≡ passes t u
  passes-at t u r below a b ms ns at-a at-b at-ms at-ns at-below h =
      h ∙ ap (λ w. are_layers_below w (reverse ms) (reverse ns)) (at-below ∙ (λ i. is_name_below ts (at-a i) (at-b i)))
      ∙ (λ i. are_layers_below (is_name_below ts t.name u.name) (reverse (at-ms i)) (reverse (at-ns i)))

  module _ (t u : TypeShape) (r : Bool) (e : r ≡ passes t u) where
    pub subtype-decides : (r ≡ true) ↔ IsSubtype ts t u
    subtype-decides = (λ h. below-passed t u (sym e ∙ h), λ h. e ∙ passed-below h)

    pub subtype-refl : t ≡ u → r ≡ true
    subtype-refl same = e ∙ passed-below (subst (IsSubtype ts t) same (equal t))

    pub subtype-trans : (roots : Roots) → IsAccepted roots ts → (w : TypeShape) → IsSubtype ts t w → IsSubtype ts w u → r ≡ true
    subtype-trans roots accepted w h k =
        e ∙ layers-trans (is_name_below ts t.name w.name) (is_name_below ts w.name u.name) (is_name_below ts t.name u.name) (names-trans roots ts accepted t.name w.name u.name)
        (reverse t.modifiers) (reverse w.modifiers) (reverse u.modifiers) (passed-below h) (passed-below k)
