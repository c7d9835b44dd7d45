-- What stands between two fields by themselves, in both orders and under both flags.
use Rattle.std.proofs.Common.{◌≡◌, ℕ, List, Option, Some, None, Bool, true, false, not, ◌||◌, option_and_then, IsSome, refl, sym, ap, ◌∙◌, subst}
use Rattle.std.specs.Cmp.{IsEquivalence}
use Rattle.std.specs.Cmp.Lexicographic.{nat_list_eq_equiv}
use Rattle.std.specs.Str.{bytes_eq}
use Rattle.std.proofs.lemmas.Bool.{not_from_true}
use Rattle.meta.specs.declared.kinds.MetaTypeOf.{MetaTypeOf}
use Rattle.schema.specs.Catalog.{Catalog}
use Rattle.merge_field_pairs.specs.declared.entry.Entry.{Entry}
use Rattle.merge_field_pairs.specs.declared.direct.DirectReason.{DirectReason}
use Rattle.merge_field_pairs.specs.declared.direct.DirectReason.TheVariants as reason
use Rattle.meta.specs.declared.fields.Field as metadata
use Rattle.merge_field_pairs.specs.Entries.{PlainEntry, plain, IsTidy, exclusive_of, are_two_objects, are_different, object_name}
use Rattle.merge_field_pairs.specs.SameArguments.{same_arguments}
use Rattle.merge_field_pairs.specs.DirectReason.{reason_of, is_same_name, do_known_types_conflict, direct_of}
use Rattle.merge_field_pairs.proofs.TypeLaws.{known_flip, known_self}
use Rattle.merge_field_pairs.proofs.ArgumentLaws.{same_args_flip, same_args_self}

-- the one flag says no more than the other
pub data Le : Bool → Bool → Type 0 where
  least : {e : Bool} → Le false e
  even : {e : Bool} → Le e e

pub up : {e' e : Bool} → Le e' false → Le e' e
up least = least
up even = least

pub both : {a b c : Bool} → Le a b → Le b c → Le a c
both least k = least
both even k = k

pub up_to_true : (e : Bool) → Le e true
up_to_true true = even
up_to_true false = least

pub from_false : (e : Bool) → Le false e
from_false e = least

exclusive_or : (e' e z : Bool) → Le e' e → Le (e' || z) (e || z)
exclusive_or e' e z even = even
exclusive_or e' false z least = even
exclusive_or e' true true least = even
exclusive_or e' true false least = least

or_again : (e z : Bool) → ((e || z) || z) ≡ (e || z)
or_again true z = refl
or_again false true = refl
or_again false false = refl

or_none : (e z : Bool) → z ≡ false → (e || z) ≡ e
or_none true z h = refl
or_none false z h = h

-- without the flag a reason that is none leaves no conflict of types
reason_type : (n r t : Bool) → reason_of false n r t ≡ None → reason_of true n r t ≡ None
reason_type true true t h = h
reason_type true false t h = cc
reason_type false r t h = cc

reason_up : (x y n r t : Bool) → Le x y → reason_of x n r t ≡ None → reason_of y n r t ≡ None
reason_up x y n r t even h = h
reason_up x false n r t least h = h
reason_up x true n r t least h = reason_type n r t h

pub reason_self : (x : Bool) → reason_of x true true false ≡ None
reason_self true = refl
reason_self false = refl

types_reason : (x n r t : Bool) → reason_of x n r t ≡ Some reason.DifferentTypes → t ≡ true
types_reason x n r true h = refl
types_reason true n r false h = cc
types_reason false true true false h = cc
types_reason false true false false h = cc
types_reason false false r false h = cc

some_or_none : {X : Type 0} (o : Option X) → ((o ≡ None) → ⊥) → (x : X) × (o ≡ Some x)
some_or_none None h = absurd (h refl)
some_or_none (Some x) h = (x, refl)

different_flip : (m n : Option (List ℕ)) → are_different m n ≡ are_different n m
different_flip None None = refl
different_flip None (Some n) = refl
different_flip (Some m) None = refl
different_flip (Some m) (Some n) = ap not (nat_list_eq_equiv.symm m n)

different_self : (m : Option (List ℕ)) → are_different m m ≡ false
different_self None = refl
different_self (Some m) = not_from_true (bytes_eq m m) (nat_list_eq_equiv.refl m)

module _ {S C : Type 0} where
  two_flip : (p q : Option (MetaTypeOf S C)) → are_two_objects p q ≡ are_two_objects q p
  two_flip p q = different_flip (option_and_then object_name p) (option_and_then object_name q)

  two_self : (p : Option (MetaTypeOf S C)) → are_two_objects p p ≡ false
  two_self p = different_self (option_and_then object_name p)

  pub exclusive_up : (e' e : Bool) (a b : PlainEntry S C) → Le e' e → Le (exclusive_of e' a b) (exclusive_of e a b)
  exclusive_up e' e a b le = exclusive_or e' e (are_two_objects a.parent b.parent) le

  pub exclusive_flip : (e : Bool) (a b : PlainEntry S C) → exclusive_of e b a ≡ exclusive_of e a b
  exclusive_flip e a b = ap (λ z. e || z) (two_flip b.parent a.parent)

  -- a field is exclusive with itself by its surroundings alone
  pub exclusive_self : (e : Bool) (a : PlainEntry S C) → exclusive_of e a a ≡ e
  exclusive_self e a = or_none e (are_two_objects a.parent a.parent) (two_self a.parent)

  -- the answer as a flag says the same again
  pub exclusive_again : (e : Bool) (a b : PlainEntry S C) → exclusive_of (exclusive_of e a b) a b ≡ exclusive_of e a b
  exclusive_again e a b = or_again e (are_two_objects a.parent b.parent)

  module _ (E : S → S → Bool) (schema : Catalog S C) where
    abbrev same_given : PlainEntry S C → PlainEntry S C → Bool
    same_given a b = same_arguments E a.field.item.arguments b.field.item.arguments

    abbrev known_conflict : PlainEntry S C → PlainEntry S C → Bool
    known_conflict a b = do_known_types_conflict schema a.metadata b.metadata

    -- no conflict without the flag is none with it
    pub direct_up : (e' e : Bool) (a b : PlainEntry S C) → Le e' e → direct_of E schema e' a b ≡ None → direct_of E schema e a b ≡ None
    direct_up e' e a b le h = reason_up _ _ (is_same_name a b) (same_given a b) (known_conflict a b) (exclusive_up e' e a b le) h

    -- a conflict with the flag is one without it
    pub direct_down : (e' e : Bool) (a b : PlainEntry S C) (t : DirectReason) → Le e' e → direct_of E schema e a b ≡ Some t → (u : DirectReason) × (direct_of E schema e' a b ≡ Some u)
    direct_down e' e a b t le h = some_or_none (direct_of E schema e' a b) (λ none. clash t (direct_of E schema e a b) h (direct_up e' e a b le none))
      where
        clash : (t : DirectReason) (o : Option DirectReason) → o ≡ Some t → o ≡ None → ⊥
        clash t o p q = cc

    -- an option that is there, under the flag and without it
    pub direct_down_some : (e' e : Bool) (a b : PlainEntry S C) → Le e' e → IsSome (direct_of E schema e a b) → IsSome (direct_of E schema e' a b)
    direct_down_some e' e a b le there = fall (direct_of E schema e a b) (direct_of E schema e' a b) (direct_up e' e a b le) there
      where
        fall : (o p : Option DirectReason) → (p ≡ None → o ≡ None) → IsSome o → IsSome p
        fall o (Some x) h k = refl
        fall o None h k = subst (λ q. IsSome q) (h refl) k

    both_known : (f g : Option (metadata.Field S)) → do_known_types_conflict schema f g ≡ true → IsSome f × IsSome g
    both_known None None h = cc
    both_known None (Some g) h = cc
    both_known (Some f) None h = cc
    both_known (Some f) (Some g) h = (refl, refl)

    -- types are a reason where both are known alone
    pub types_known : (e : Bool) (a b : PlainEntry S C) → direct_of E schema e a b ≡ Some reason.DifferentTypes → IsSome a.metadata × IsSome b.metadata
    types_known e a b h = both_known a.metadata b.metadata (types_reason (exclusive_of e a b) (is_same_name a b) (same_given a b) (known_conflict a b) h)

    -- the reason under the answer as a flag is the reason
    pub direct_again : (e : Bool) (a b : PlainEntry S C) → direct_of E schema (exclusive_of e a b) a b ≡ direct_of E schema e a b
    direct_again e a b = ap (λ x. reason_of x (is_same_name a b) (same_given a b) (known_conflict a b)) (exclusive_again e a b)

    module _ (laws : IsEquivalence E) where
      -- in either order the reason is the same
      pub direct_flip_all : (e : Bool) (a b : PlainEntry S C) → IsTidy a → IsTidy b → direct_of E schema e b a ≡ direct_of E schema e a b
      direct_flip_all e a b p q =
          ap (λ x. reason_of x (is_same_name b a) (same_given b a) (known_conflict b a)) (exclusive_flip e a b)
          ∙ ap (λ n. reason_of (exclusive_of e a b) n (same_given b a) (known_conflict b a)) (nat_list_eq_equiv.symm b.field.item.name.item.now a.field.item.name.item.now)
          ∙ ap (λ r. reason_of (exclusive_of e a b) (is_same_name a b) r (known_conflict b a)) (same_args_flip E laws b.field.item.arguments a.field.item.arguments q p)
          ∙ ap (λ t. reason_of (exclusive_of e a b) (is_same_name a b) (same_given a b) t) (known_flip schema b.metadata a.metadata)

      pub direct_flip : (e : Bool) (a b : PlainEntry S C) → IsTidy a → IsTidy b → direct_of E schema e b a ≡ None → direct_of E schema e a b ≡ None
      direct_flip e a b p q h = sym (direct_flip_all e a b p q) ∙ h

      -- a field has no conflict with itself
      pub direct_self : (e : Bool) (a : PlainEntry S C) → IsTidy a → direct_of E schema e a a ≡ None
      direct_self e a p =
          ap (λ n. reason_of (exclusive_of e a a) n (same_given a a) (known_conflict a a)) (nat_list_eq_equiv.refl a.field.item.name.item.now)
          ∙ ap (λ r. reason_of (exclusive_of e a a) true r (known_conflict a a)) (same_args_self E laws a.field.item.arguments p)
          ∙ ap (λ t. reason_of (exclusive_of e a a) true true t) (known_self schema a.metadata)
          ∙ reason_self (exclusive_of e a a)

      -- nor with a copy of itself
      pub direct_alike : (e : Bool) (a b : PlainEntry S C) → IsTidy a → a ≡ b → direct_of E schema e a b ≡ None
      direct_alike e a b p same = subst (λ c. direct_of E schema e a c ≡ None) same (direct_self e a p)

  -- entries that refer to equal values answer alike, wherever the values stand
  module _ (E : S → S → Bool) (schema : Catalog S C) (a a' b b' : Entry S C) (left : plain a ≡ plain a') (right : plain b ≡ plain b') where
    pub exclusive_of_equals : (e : Bool) → exclusive_of e (plain a) (plain b) ≡ exclusive_of e (plain a') (plain b')
    exclusive_of_equals e = ap (λ x. exclusive_of e x (plain b)) left ∙ ap (exclusive_of e (plain a')) right

    pub direct_of_equals : (e : Bool) → direct_of E schema e (plain a) (plain b) ≡ direct_of E schema e (plain a') (plain b')
    direct_of_equals e = ap (λ x. direct_of E schema e x (plain b)) left ∙ ap (direct_of E schema e (plain a')) right
