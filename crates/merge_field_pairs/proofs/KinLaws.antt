-- Two fields stand to each other as any other two of their kinds do.
use Rattle.std.proofs.Common.{◌≡◌, ℕ, List, Bool, true, false, ◌||◌, Option, Some, None, slice_get, option_and_then, refl, sym, ap, ◌∙◌}
use Rattle.std.specs.Cmp.{IsEquivalence}
use Rattle.std.specs.Str.{bytes_eq}
use Rattle.language_types.specs.Types.{TypeShape}
use Rattle.meta.specs.declared.fields.Field as metadata
use Rattle.schema.specs.Catalog.{Catalog}
use Rattle.merge_field_pairs.specs.Entries.{PlainEntry, exclusive_of, are_different, object_name}
use Rattle.merge_field_pairs.specs.SameArguments.{same_arguments}
use Rattle.merge_field_pairs.specs.TypeConflict.{do_types_conflict}
use Rattle.merge_field_pairs.specs.DirectReason.{reason_of, is_same_name, do_known_types_conflict, direct_of}
use Rattle.merge_field_pairs.specs.Numbered.{direct_between, direct_at}
use Rattle.merge_field_pairs.specs.Alike.{known_type}
use Rattle.merge_field_pairs.specs.Kinds.{IsKin, IsKinBetween, IsKinAt}
use Rattle.merge_field_pairs.proofs.ArgumentLaws.{both_directions, same_args_through}

same_reason : (x y n m r s t u : Bool) → x ≡ y → n ≡ m → r ≡ s → t ≡ u → reason_of x n r t ≡ reason_of y m s u
same_reason x y n m r s t u i j k l =
    ap (λ z. reason_of z n r t) i ∙ ap (λ z. reason_of y z r t) j ∙ ap (λ z. reason_of y m z t) k ∙ ap (λ z. reason_of y m s z) l

module _ {S C : Type 0} (E : S → S → Bool) (schema : Catalog S C) where
  -- of two types that may be unknown
  abbrev by_types : Option TypeShape → Option TypeShape → Bool
  by_types (Some t) (Some u) = do_types_conflict schema t u
  by_types (Some t) None = false
  by_types None (Some u) = false
  by_types None None = false

  -- of the metadata the type alone counts
  known_by_types : (f g : Option (metadata.Field S)) → do_known_types_conflict schema f g ≡ by_types (known_type f) (known_type g)
  known_by_types None None = refl
  known_by_types None (Some g) = refl
  known_by_types (Some f) None = refl
  known_by_types (Some f) (Some g) = refl

  abbrev same_given : PlainEntry S C → PlainEntry S C → Bool
  same_given a b = same_arguments E a.field.item.arguments b.field.item.arguments

  abbrev known_conflict : PlainEntry S C → PlainEntry S C → Bool
  known_conflict a b = do_known_types_conflict schema a.metadata b.metadata

  -- a is of the kind of f, and b of the kind of g
  module _ (laws : IsEquivalence E) (f g a b : PlainEntry S C) (p : IsKin E f a) (q : IsKin E g b) where
    exclusive : (e : Bool) → exclusive_of e a b ≡ exclusive_of e f g
    exclusive e =
        ap (λ n. e || are_different n (option_and_then object_name b.parent)) (sym p.parents)
        ∙ ap (λ n. e || are_different (option_and_then object_name f.parent) n) (sym q.parents)

    names : is_same_name a b ≡ is_same_name f g
    names =
        ap (λ n. bytes_eq n b.field.item.name.item.now) (sym p.alike.name)
        ∙ ap (bytes_eq f.field.item.name.item.now) (sym q.alike.name)

    given : same_given a b ≡ same_given f g
    given = both_directions (same_given a b) (same_given f g)
        (λ h. through f a g p.alike.forth (through a b g h q.alike.back))
        (λ h. through a f b p.alike.back (through f g b h q.alike.forth))
      where
        through : (x y z : PlainEntry S C) → same_given x y ≡ true → same_given y z ≡ true → same_given x z ≡ true
        through x y z = same_args_through E laws x.field.item.arguments y.field.item.arguments z.field.item.arguments

    types : known_conflict a b ≡ known_conflict f g
    types =
        known_by_types a.metadata b.metadata
        ∙ ap (λ t. by_types t (known_type b.metadata)) (sym p.alike.typed)
        ∙ ap (by_types (known_type f.metadata)) (sym q.alike.typed)
        ∙ sym (known_by_types f.metadata g.metadata)

    direct_of_kinds : (e : Bool) → direct_of E schema e a b ≡ direct_of E schema e f g
    direct_of_kinds e =
        same_reason (exclusive_of e a b) (exclusive_of e f g) (is_same_name a b) (is_same_name f g) (same_given a b) (same_given f g)
        (known_conflict a b) (known_conflict f g) (exclusive e) names given types

  between : IsEquivalence E → (e : Bool) (o p x y : Option (PlainEntry S C)) → IsKinBetween E o x → IsKinBetween E p y
      → direct_between E schema e x y ≡ direct_between E schema e o p
  between laws e (Some f) (Some g) (Some a) (Some b) k l = direct_of_kinds laws f g a b k l e
  between laws e (Some f) (Some g) (Some a) None k l = absurd l
  between laws e (Some f) (Some g) None y k l = absurd k
  between laws e (Some f) None (Some a) (Some b) k l = absurd l
  between laws e (Some f) None (Some a) None k l = absurd l
  between laws e (Some f) None None y k l = absurd k
  between laws e None p (Some a) y k l = absurd k
  between laws e None p None y k l = absurd k

  -- what stands between two fields stands between the two of whose kinds they are
  pub kin_at : IsEquivalence E → (fields : List (PlainEntry S C)) (e : Bool) (one other i j : ℕ)
      → IsKinAt E fields one i → IsKinAt E fields other j → direct_at E schema fields e i j ≡ direct_at E schema fields e one other
  kin_at laws fields e one other i j x y =
      between laws e (slice_get fields one) (slice_get fields other) (slice_get fields i) (slice_get fields j) x y
