-- The equations of the definitions over values.
use Rattle.std.proofs.Common.{◌≡◌, ℕ, List, [], ◌∷◌, map, length, sym, ap, ◌∙◌, refl, Bool, ◌&&◌, nat_eq, string_bytes, subst, Some, Bor}
use Rattle.std.specs.List.{list_all}
use Rattle.std.specs.BTreeMap.{BTreeMap}
use Rattle.std.specs.Cmp.Lexicographic.{pointwise}
use Rattle.language_values.specs.ValuesEqual.{entry_in, eq_layer, eq_step, unlocated_eq}
use Rattle.std.specs.declared.alloc.Global.{Global}
use Rattle.std.specs.Prelude.{String, Vec}
use Rattle.std.proofs.lemmas.List.Folds.{flat_map-map}
use Rattle.std.proofs.lemmas.List.{length-map}
use Rattle.language_types.specs.declared.position.Span.{Span}
use Rattle.language_types.specs.declared.position.Spanning.{Spanning}
use Rattle.language_values.specs.declared.value.InputValue.{InputValue, fold-roll-InputValue, map-InputValue, roll-InputValue, out-roll-InputValue}
use Rattle.language_values.specs.declared.value.InputValue.TheVariants as v
use Rattle.language_values.specs.declared.value.InputValue.TheOpen.{InputValue-F}
pub use Rattle.language_values.specs.SameLaws.{pointwise-map_left}
use Rattle.language_values.specs.Values.{Entry, variables_step, entries_layer, variables_of, variables_of_all, variables_of_object}
use Rattle.language_values.specs.Values.{is_plain, object_entries, IsMapOf, IsMapOfObject}

pub variables_of-List : {S : Type 0} (xs : Vec (Spanning (InputValue S) Span) Global) → variables_of (v.List xs) ≡ variables_of_all xs.items
variables_of-List {S} xs =
    ap variables_of (sym (v.rolls-List xs))
    ∙ fold-roll-InputValue S (List (List ℕ)) variables_step (InputValue-F.List xs)
    ∙ flat_map-map (λ w. w.item) _ xs.items

pub variables_of-Object : {S : Type 0} (xs : Vec (Spanning (String Global) Span × Spanning (InputValue S) Span) Global) → variables_of (v.Object xs) ≡ variables_of_object xs.items
variables_of-Object {S} xs =
    ap variables_of (sym (v.rolls-Object xs))
    ∙ fold-roll-InputValue S (List (List ℕ)) variables_step (InputValue-F.Object xs)
    ∙ flat_map-map (λ e. e.1.item) _ xs.items

-- the same at a value that is such a list or object
pub variables_of-at-List : {S : Type 0} (w : InputValue S) (xs : Vec (Spanning (InputValue S) Span) Global) → w ≡ v.List xs → variables_of w ≡ variables_of_all xs.items
variables_of-at-List w xs e = ap variables_of e ∙ variables_of-List xs

pub variables_of-at-Object : {S : Type 0} (w : InputValue S) (xs : Vec (Spanning (String Global) Span × Spanning (InputValue S) Span) Global) → w ≡ v.Object xs → variables_of w ≡ variables_of_object xs.items
variables_of-at-Object w xs e = ap variables_of e ∙ variables_of-Object xs

pub list_all-map : {A B : Type 0} (p : B → Bool) (h : A → B) (xs : List A) → list_all p (map h xs) ≡ list_all (λ a. p (h a)) xs
list_all-map p h [] = refl
list_all-map p h (x ∷ xs) = ap (λ b. p (h x) && b) (list_all-map p h xs)

object_entries-Object : {S : Type 0} (es : Vec (Entry (InputValue S)) Global) → object_entries (v.Object es) ≡ Some es.items
object_entries-Object {S} es = ap object_entries (sym (v.rolls-Object es)) ∙ ap entries_layer (out-roll-InputValue S (InputValue-F.Object es))

-- an object's map is of its entries
pub IsMapOfObject-at : {S : Type 0} (w : InputValue S) (es : Vec (Entry (InputValue S)) Global) (items : List (Entry (InputValue S))) (m : BTreeMap (Bor (List ℕ)) (Bor (InputValue S))) → w ≡ v.Object es → items ≡ es.items → IsMapOf m items → IsMapOfObject (Some m) (object_entries w)
IsMapOfObject-at w es items m at same h = subst (λ o. IsMapOfObject (Some m) o) (sym (ap object_entries at ∙ object_entries-Object es)) (subst (λ xs. IsMapOf m xs) same h)

-- the tests of members for plain values
abbrev pub is_plain_item : {S : Type 0} → Spanning (InputValue S) Span → Bool
is_plain_item v = is_plain v.item

abbrev pub is_plain_entry : {S : Type 0} → Entry (InputValue S) → Bool
is_plain_entry e = is_plain e.1.item

module _ {S : Type 0} (E : S → S → Bool) where
  -- the tests of members as they are compared
  abbrev pub same_items : Spanning (InputValue S) Span → Spanning (InputValue S) Span → Bool
  same_items x y = unlocated_eq E x.item y.item

  abbrev pub is_entry : List ℕ → InputValue S → Entry (InputValue S) → Bool
  is_entry key value e = pointwise nat_eq (string_bytes e.0.item) key && unlocated_eq E value e.1.item

  abbrev pub is_found : List (Entry (InputValue S)) → Entry (InputValue S) → Bool
  is_found ys x = entry_in (unlocated_eq E x.1.item) (string_bytes x.0.item) ys

  abbrev pub inside : Spanning (InputValue S) Span → Spanning (InputValue S → Bool) Span
  inside x = record { item = unlocated_eq E x.item; span = x.span }

  abbrev pub opened : InputValue-F S (InputValue S) → InputValue-F S (InputValue S → Bool)
  opened = map-InputValue S (InputValue S) (InputValue S → Bool) (unlocated_eq E)

  -- the test at two values, by the layers of both
  pub unlocated_eq-roll : (l r : InputValue-F S (InputValue S)) → unlocated_eq E (roll-InputValue S l) (roll-InputValue S r) ≡ eq_layer E (opened l) r
  unlocated_eq-roll l r =
      ap (λ k. k (roll-InputValue S r)) (fold-roll-InputValue S (InputValue S → Bool) (eq_step E) l)
      ∙ ap (eq_layer E (opened l)) (out-roll-InputValue S r)

  pub unlocated_eq-List : (xs ys : Vec (Spanning (InputValue S) Span) Global) → unlocated_eq E (v.List xs) (v.List ys) ≡ pointwise (λ x y. unlocated_eq E x.item y.item) xs.items ys.items
  unlocated_eq-List xs ys =
      sym (ap (λ w. unlocated_eq E w (v.List ys)) (v.rolls-List xs))
      ∙ sym (ap (λ w. unlocated_eq E (roll-InputValue S (InputValue-F.List xs)) w) (v.rolls-List ys))
      ∙ unlocated_eq-roll (InputValue-F.List xs) (InputValue-F.List ys)
      ∙ pointwise-map_left (λ x y. x.item y.item) inside xs.items ys.items

  pub unlocated_eq-Object : (xs ys : Vec (Entry (InputValue S)) Global) → unlocated_eq E (v.Object xs) (v.Object ys) ≡ (nat_eq (length xs.items) (length ys.items) && list_all (λ x. entry_in (unlocated_eq E x.1.item) (string_bytes x.0.item) ys.items) xs.items)
  unlocated_eq-Object xs ys =
      sym (ap (λ w. unlocated_eq E w (v.Object ys)) (v.rolls-Object xs))
      ∙ sym (ap (λ w. unlocated_eq E (roll-InputValue S (InputValue-F.Object xs)) w) (v.rolls-Object ys))
      ∙ unlocated_eq-roll (InputValue-F.Object xs) (InputValue-F.Object ys)
      ∙ rw (list_all-map, length-map)

  -- the same at values that are such lists or objects
  pub unlocated_eq-at-List : (l r : InputValue S) (xs ys : Vec (Spanning (InputValue S) Span) Global) → l ≡ v.List xs → r ≡ v.List ys → unlocated_eq E l r ≡ pointwise (λ x y. unlocated_eq E x.item y.item) xs.items ys.items
  unlocated_eq-at-List l r xs ys p q = ap (λ w. unlocated_eq E w r) p ∙ ap (unlocated_eq E (v.List xs)) q ∙ unlocated_eq-List xs ys

  pub unlocated_eq-at-Object : (l r : InputValue S) (xs ys : Vec (Entry (InputValue S)) Global) → l ≡ v.Object xs → r ≡ v.Object ys → unlocated_eq E l r ≡ (nat_eq (length xs.items) (length ys.items) && list_all (λ x. entry_in (unlocated_eq E x.1.item) (string_bytes x.0.item) ys.items) xs.items)
  unlocated_eq-at-Object l r xs ys p q = ap (λ w. unlocated_eq E w r) p ∙ ap (unlocated_eq E (v.Object xs)) q ∙ unlocated_eq-Object xs ys
