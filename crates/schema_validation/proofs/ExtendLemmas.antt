-- The list of types in which one object is replaced by another.
use Rattle.std.proofs.Common.{◌≡◌, refl, ℕ, ◌+◌, ◌-◌, ◌<◌, List, [], ◌∷◌, ◌++◌, true, ◌&&◌, length, suc, take, drop, get_or, add-one, append_assoc, length-take, string_bytes, ap, subst, sym, ◌∙◌, arith}
use Rattle.std.specs.Prelude.{insert, remove}
use Rattle.std.specs.List.{HoldsAt}
use Rattle.std.proofs.lemmas.Bool.{and_parts}
use Rattle.std.proofs.lemmas.List.{take-append-drop}
use Rattle.std.proofs.lemmas.List.Edits.{insert-append_right}
use Rattle.std.proofs.lemmas.Slice.Eq.{bytes_eq-Decides}
use Rattle.meta.specs.declared.objects.ObjectMeta.{ObjectMeta}
use Rattle.meta.specs.declared.kinds.MetaTypeOf.{MetaTypeOf}
use Rattle.meta.specs.declared.kinds.MetaTypeOf.TheVariants as m
use Rattle.schema_validation.specs.Accepted.{is_named}
use Rattle.schema_validation.specs.Added.{HasAddedFields, IsExtended}
use Rattle.meta.specs.Kinds.{is_object_meta}
use Rattle.schema_validation.proofs.Finds.{rest_at}

pub pushed-two : {A : Type 0} (xs ys zs : List A) (x y : A) → ys ≡ xs ++ x ∷ [] → zs ≡ ys ++ y ∷ [] → zs ≡ xs ++ x ∷ y ∷ []
pushed-two xs ys zs x y e f = f ∙ ap (λ l. l ++ y ∷ []) e ∙ append_assoc xs (x ∷ []) (y ∷ [])

pub split-at : {A : Type 0} (xs : List A) (i : ℕ) (x : A) → i < length xs → x ≡ get_or xs i x → xs ≡ take i xs ++ x ∷ drop (i + 1) xs
split-at xs i x h e = sym (take-append-drop i xs) ∙ ap (λ l. take i xs ++ l) (rest_at xs i x h e)

insert-removed : {A : Type 0} (xs : List A) (i : ℕ) (y : A) → i < length xs → insert (remove xs i) i y ≡ take i xs ++ y ∷ drop (i + 1) xs
insert-removed xs i y h =
    let front : length (take i xs) ≡ i = omega (arith, length-take i xs) in
    let none : i - i ≡ 0 = omega arith in
    insert-append_right (take i xs) (drop (suc i) xs) i i y front (omega arith)
    ∙ ap (λ k. take i xs ++ insert (drop (suc i) xs) k y) none
    ∙ ap (λ k. take i xs ++ y ∷ drop k xs) (sym (add-one i))

module _ {S C : Type 0} (q : List ℕ) (slice ts rest whole : List (MetaTypeOf S C)) (i : ℕ) (x y : ObjectMeta S) where
  pub replaced : slice ≡ ts → i < length slice → HoldsAt (λ t. (is_named q t && is_object_meta t) ≡ true) slice i → m.Object x ≡ get_or ts i (m.Object x) → rest ≡ remove ts i → whole ≡ insert rest i (m.Object y) → HasAddedFields x y → IsExtended q ts whole
  replaced same h holds here removed inserted added =
      let within : i < length ts = subst (λ l. i < length l) same h in
      let test = subst (λ l. (is_named q (get_or l i (m.Object x)) && is_object_meta (get_or l i (m.Object x))) ≡ true) same (holds (m.Object x)) in
      let at_x : (is_named {S = S} {C = C} q (m.Object x) && is_object_meta {S = S} {C = C} (m.Object x)) ≡ true = subst (λ t. (is_named q t && is_object_meta t) ≡ true) (sym here) test in
      record {
        before = take i ts;
        after = drop (i + 1) ts;
        root = x;
        extended = y;
        old_is = split-at ts i (m.Object x) within here;
        new_is = inserted ∙ ap (λ l. insert l i (m.Object y)) removed ∙ insert-removed ts i (m.Object y) within;
        named = (bytes_eq-Decides (string_bytes x.name) q).0 (and_parts (is_named {S = S} {C = C} q (m.Object x)) true at_x).0;
        added = added;
      }

-- what tests as an object is one
object_or : {S C : Type 0} (t : MetaTypeOf S C) → is_object_meta t ≡ true → ((x : ObjectMeta S) → t ≡ m.Object x → ⊥) → ⊥
object_or (m.Scalar x) is none = cc
object_or (m.List x) is none = cc
object_or (m.Nullable x) is none = cc
object_or (m.Object x) is none = none x refl
object_or (m.Enum x) is none = cc
object_or (m.Interface x) is none = cc
object_or (m.Union x) is none = cc
object_or (m.InputObject x) is none = cc
object_or (m.Placeholder x) is none = cc

-- the type that was taken out is an object
pub object_removed : {S C : Type 0} (q : List ℕ) (slice ts : List (MetaTypeOf S C)) (i : ℕ) (t : MetaTypeOf S C) → slice ≡ ts
    → HoldsAt (λ u. (is_named q u && is_object_meta u) ≡ true) slice i → t ≡ get_or ts i t → ((x : ObjectMeta S) → t ≡ m.Object x → ⊥) → ⊥
object_removed {S} {C} q slice ts i t same holds here none =
    let test = subst (λ l. (is_named q (get_or l i t) && is_object_meta (get_or l i t)) ≡ true) same (holds t) in
    let at_t : (is_named {S = S} {C = C} q t && is_object_meta {S = S} {C = C} t) ≡ true = subst (λ u. (is_named q u && is_object_meta u) ≡ true) (sym here) test in
    object_or t (and_parts (is_named {S = S} {C = C} q t) (is_object_meta t) at_t).1 none
