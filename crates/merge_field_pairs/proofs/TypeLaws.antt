-- The conflict of types doesn't depend on their order, and no type is in conflict with itself.
use Rattle.std.proofs.Common.{◌≡◌, ℕ, List, [], ◌∷◌, reverse, Bool, true, false, not, ◌&&◌, ◌||◌, nat_eq, Option, Some, None, refl, ap, ◌∙◌, arith}
use Rattle.std.specs.Option.{option_eq}
use Rattle.std.specs.Str.{bytes_eq}
use Rattle.std.specs.Cmp.Lexicographic.{nat_list_eq_equiv}
use Rattle.std.proofs.lemmas.Bool.{and_right, not_from_true}
use Rattle.language_types.specs.Types.{TypeShape, shape}
use Rattle.language_types.specs.declared.types.TypeModifier.{TypeModifier}
use Rattle.language_types.specs.declared.types.TypeModifier.TheVariants as m
use Rattle.meta.specs.declared.fields.Field as metadata
use Rattle.schema.specs.Catalog.{Catalog}
use Rattle.merge_field_pairs.specs.TypeConflict.{do_layers_conflict, do_types_conflict, do_names_conflict, is_leaf_named}
use Rattle.merge_field_pairs.specs.DirectReason.{do_known_types_conflict}

pub nat_flip : (j k : ℕ) → nat_eq j k ≡ nat_eq k j
nat_flip j k = grind arith

size_flip : (j k : Option ℕ) → option_eq nat_eq j k ≡ option_eq nat_eq k j
size_flip None None = refl
size_flip None (Some k) = refl
size_flip (Some j) None = refl
size_flip (Some j) (Some k) = nat_flip j k

pub or_flip : (x y : Bool) → (x || y) ≡ (y || x)
or_flip true true = refl
or_flip true false = refl
or_flip false true = refl
or_flip false false = refl

layers_flip : (b c : Bool) (ms ns : List TypeModifier) → b ≡ c → do_layers_conflict b ms ns ≡ do_layers_conflict c ns ms
layers_flip b c [] [] e = e
layers_flip b c [] (m.NonNull ∷ ns) e = refl
layers_flip b c [] (m.List k ∷ ns) e = refl
layers_flip b c (m.NonNull ∷ ms) [] e = refl
layers_flip b c (m.List j ∷ ms) [] e = refl
layers_flip b c (m.NonNull ∷ ms) (m.NonNull ∷ ns) e = layers_flip b c ms ns e
layers_flip b c (m.NonNull ∷ ms) (m.List k ∷ ns) e = refl
layers_flip b c (m.List j ∷ ms) (m.NonNull ∷ ns) e = refl
layers_flip b c (m.List j ∷ ms) (m.List k ∷ ns) e =
    ap (λ s. s && do_layers_conflict b ms ns) (size_flip j k) ∙ ap (λ r. option_eq nat_eq k j && r) (layers_flip b c ms ns e)

layers_self : (b : Bool) (ms : List TypeModifier) → b ≡ false → do_layers_conflict b ms ms ≡ false
layers_self b [] e = e
layers_self b (m.NonNull ∷ ms) e = layers_self b ms e
layers_self b (m.List j ∷ ms) e = and_right (option_eq nat_eq j j) (do_layers_conflict b ms ms) (layers_self b ms e)

module _ {S C : Type 0} (schema : Catalog S C) where
  names_flip : (l r : List ℕ) → do_names_conflict schema l r ≡ do_names_conflict schema r l
  names_flip l r =
      ap (λ x. x && not (bytes_eq l r)) (or_flip (is_leaf_named schema l) (is_leaf_named schema r))
      ∙ ap (λ e. (is_leaf_named schema r || is_leaf_named schema l) && not e) (nat_list_eq_equiv.symm l r)

  names_self : (n : List ℕ) → do_names_conflict schema n n ≡ false
  names_self n = and_right (is_leaf_named schema n || is_leaf_named schema n) (not (bytes_eq n n)) (not_from_true (bytes_eq n n) (nat_list_eq_equiv.refl n))

  pub conflict_flip : (t u : TypeShape) → do_types_conflict schema t u ≡ do_types_conflict schema u t
  conflict_flip t u = layers_flip _ _ (reverse t.modifiers) (reverse u.modifiers) (names_flip t.name u.name)

  pub conflict_self : (t : TypeShape) → do_types_conflict schema t t ≡ false
  conflict_self t = layers_self _ (reverse t.modifiers) (names_self t.name)

  pub known_flip : (f g : Option (metadata.Field S)) → do_known_types_conflict schema f g ≡ do_known_types_conflict schema g f
  known_flip None None = refl
  known_flip None (Some g) = refl
  known_flip (Some f) None = refl
  known_flip (Some f) (Some g) = conflict_flip (shape f.field_type) (shape g.field_type)

  pub known_self : (f : Option (metadata.Field S)) → do_known_types_conflict schema f f ≡ false
  known_self None = refl
  known_self (Some f) = conflict_self (shape f.field_type)
