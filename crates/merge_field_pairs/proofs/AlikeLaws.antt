-- Fields that are alike with one are in no conflict with each other.
use Rattle.std.proofs.Common.{◌≡◌, ℕ, List, Bool, true, false, Option, Some, None, slice_get, refl, sym, ap, ◌∙◌, subst}
use Rattle.std.specs.Cmp.{IsEquivalence}
use Rattle.std.specs.Cmp.Lexicographic.{nat_list_eq_equiv}
use Rattle.std.specs.Str.{bytes_eq}
use Rattle.language_types.specs.Types.{TypeShape, shape}
use Rattle.meta.specs.declared.fields.Field as metadata
use Rattle.schema.specs.Catalog.{Catalog}
use Rattle.merge_field_pairs.specs.Entries.{PlainEntry, exclusive_of}
use Rattle.merge_field_pairs.specs.SameArguments.{same_arguments}
use Rattle.merge_field_pairs.specs.TypeConflict.{do_types_conflict}
use Rattle.merge_field_pairs.specs.DirectReason.{reason_of, is_same_name, do_known_types_conflict, direct_of}
use Rattle.merge_field_pairs.specs.Numbered.{direct_between, direct_at}
use Rattle.merge_field_pairs.specs.Alike.{AreAlike, AreAlikeBetween, AreAlikeAt, known_type}
use Rattle.merge_field_pairs.proofs.ArgumentLaws.{same_args_through}
use Rattle.merge_field_pairs.proofs.DirectLaws.{reason_self}
use Rattle.merge_field_pairs.proofs.TypeLaws.{conflict_self}

module _ {S C : Type 0} (E : S → S → Bool) (schema : Catalog S C) where
  one_type : (t u : TypeShape) → t ≡ u → do_types_conflict schema t u ≡ false
  one_type t u same = subst (λ (v : TypeShape). do_types_conflict schema t v ≡ false) same (conflict_self schema t)

  known : (f g : Option (metadata.Field S)) → known_type f ≡ known_type g → do_known_types_conflict schema f g ≡ false
  known None None h = refl
  known None (Some g) h = cc
  known (Some f) None h = cc
  known (Some f) (Some g) h = one_type (shape f.field_type) (shape g.field_type) (some_same h)
    where
      some_same : {t u : TypeShape} → Some t ≡ Some u → t ≡ u
      some_same h = cc

  direct_alike_with : IsEquivalence E → (e : Bool) (f a b : PlainEntry S C) → AreAlike E f a → AreAlike E f b → direct_of E schema e a b ≡ None
  direct_alike_with laws e f a b p q =
      ap (λ n. reason_of (exclusive_of e a b) n (same_arguments E a.field.item.arguments b.field.item.arguments) (do_known_types_conflict schema a.metadata b.metadata)) names
      ∙ ap (λ r. reason_of (exclusive_of e a b) true r (do_known_types_conflict schema a.metadata b.metadata)) given
      ∙ ap (λ t. reason_of (exclusive_of e a b) true true t) (known a.metadata b.metadata (sym p.typed ∙ q.typed))
      ∙ reason_self (exclusive_of e a b)
    where
      names : is_same_name a b ≡ true
      names = subst (λ (n : List ℕ). bytes_eq a.field.item.name.item.now n ≡ true) (sym p.name ∙ q.name) (nat_list_eq_equiv.refl a.field.item.name.item.now)

      given : same_arguments E a.field.item.arguments b.field.item.arguments ≡ true
      given = same_args_through E laws a.field.item.arguments f.field.item.arguments b.field.item.arguments p.back q.forth

  between : IsEquivalence E → (e : Bool) (o p q : Option (PlainEntry S C)) → AreAlikeBetween E o p → AreAlikeBetween E o q → direct_between E schema e p q ≡ None
  between laws e (Some f) (Some a) (Some b) x y = direct_alike_with laws e f a b x y
  between laws e (Some f) (Some a) None x y = absurd y
  between laws e (Some f) None q x y = absurd x
  between laws e None (Some a) q x y = absurd x
  between laws e None None q x y = absurd x

  -- two that are both alike with a third are in no conflict
  pub alike_at : IsEquivalence E → (fields : List (PlainEntry S C)) (e : Bool) (i j k : ℕ) → AreAlikeAt E fields i j → AreAlikeAt E fields i k → direct_at E schema fields e j k ≡ None
  alike_at laws fields e i j k x y = between laws e (slice_get fields i) (slice_get fields j) (slice_get fields k) x y
