-- Equality of values without their positions is reflexive, and symmetric if no object repeats a key.
use Rattle.std.proofs.Common.{◌≡◌, ℕ, ◌≤◌, List, [], ◌∷◌, map, length, Bool, true, false, ◌&&◌, nat_eq, string_bytes, refl, sym, ap, ◌∙◌, subst, arith}
use Rattle.std.specs.List.{list_any, list_all}
use Rattle.std.specs.Str.{bytes_eq}
use Rattle.std.specs.Cmp.{IsEquivalence}
use Rattle.std.specs.Cmp.Lexicographic.{pointwise, nat_list_eq_equiv}
use Rattle.std.proofs.lemmas.Bool.{and_parts, and_from, eq-eqb, eqb-true}
use Rattle.std.proofs.lemmas.List.{length-map}
use Rattle.language_types.specs.declared.position.Span.{Span}
use Rattle.language_types.specs.declared.position.Spanning.{Spanning}
use Rattle.language_values.specs.declared.value.InputValue.{InputValue, ind-InputValue, map-InputValue, roll-InputValue, fold-roll-InputValue}
use Rattle.language_values.specs.declared.value.InputValue.TheOpen as open_value
use Rattle.language_values.specs.Each.{Each}
use Rattle.language_values.specs.Values.{Entry}
use Rattle.language_values.specs.ValuesEqual.{entry_in, eq_layer, unlocated_eq, are_distinct, unique_step, has_unique_keys}
use Rattle.language_values.proofs.ValueInduction.{SuchValue, bare, bare_entry, each_item, each_entry}
use Rattle.language_values.proofs.Members.{In, Each-In, list_all-In, list_all-from_In, list_any-In, In-from_list_any, In-from_key, list_any-from_key, bytes_eq-same, bytes_eq-refl, same_from_key, all_listed}
use Rattle.language_values.proofs.ValueLemmas.{inside, opened, unlocated_eq-roll, pointwise-map_left, list_all-map}

-- a test in the one direction and in the other
both_directions : (b c : Bool) → (b ≡ true → c ≡ true) → (c ≡ true → b ≡ true) → b ≡ c
both_directions true c f g = sym (f refl)
both_directions false true f g = g refl
both_directions false false f g = refl

abbrev key_of : {A : Type 0} → Entry A → List ℕ
key_of e = string_bytes e.0.item

module _ {A : Type 0} (test : A → A → Bool) where
  -- each entry on the left has one of its key on the right that passes
  abbrev all_found : List (Entry A) → List (Entry A) → Bool
  all_found xs ys = list_all (λ x. entry_in (test x.1.item) (key_of x) ys) xs

  found : (x : Entry A) (ys : List (Entry A)) → entry_in (test x.1.item) (key_of x) ys ≡ true → (y : Entry A) × In y ys × (key_of y ≡ key_of x) × (test x.1.item y.1.item ≡ true)
  found x ys h =
      let some = In-from_list_any (λ e. bytes_eq (key_of e) (key_of x) && test x.1.item e.1.item) ys h in
      let both = and_parts (bytes_eq (key_of some.0) (key_of x)) (test x.1.item some.0.1.item) some.2 in
      (some.0, some.1, bytes_eq-same (key_of some.0) (key_of x) both.0, both.1)

  keys_found : (xs ys : List (Entry A)) → all_found xs ys ≡ true → (k : List ℕ) → list_any (bytes_eq k) (map key_of xs) ≡ true → list_any (bytes_eq k) (map key_of ys) ≡ true
  keys_found xs ys all k h =
      let x = In-from_key key_of k xs h in
      let y = found x.0 ys (list_all-In (λ e. entry_in (test e.1.item) (key_of e) ys) xs x.0 all x.1) in
      list_any-from_key key_of k ys y.0 y.1 (x.2 ∙ sym y.2)

  -- where keys are distinct and the lists as long, entries found on the right are found on the left
  all_found-turned : (xs ys : List (Entry A)) → are_distinct (map key_of xs) ≡ true → are_distinct (map key_of ys) ≡ true → length xs ≡ length ys
      → ((x y : Entry A) → In x xs → In y ys → test x.1.item y.1.item ≡ true → test y.1.item x.1.item ≡ true)
      → all_found xs ys ≡ true → all_found ys xs ≡ true
  all_found-turned xs ys distinct_xs distinct_ys as_long turned all = list_all-from_In (λ y. entry_in (test y.1.item) (key_of y) xs) ys one
    where
      fits : length (map key_of ys) ≤ length (map key_of xs)
      fits = simp length-map (omega arith)

      one : (y : Entry A) → In y ys → entry_in (test y.1.item) (key_of y) xs ≡ true
      one y i =
          let listed = all_listed (map key_of xs) (map key_of ys) (key_of y) distinct_xs fits (keys_found xs ys all) (list_any-from_key key_of (key_of y) ys y i refl) in
          let x = In-from_key key_of (key_of y) xs listed in
          let there = found x.0 ys (list_all-In (λ e. entry_in (test e.1.item) (key_of e) ys) xs x.0 all x.1) in
          let same : there.0 ≡ y = same_from_key key_of ys there.0 y distinct_ys there.1 i (there.2 ∙ sym x.2) in
          list_any-In (λ e. bytes_eq (key_of e) (key_of y) && test y.1.item e.1.item) xs x.0 x.1
          (and_from (bytes_eq (key_of x.0) (key_of y)) (test y.1.item x.0.1.item) (ap (λ k. bytes_eq k (key_of y)) (sym x.2) ∙ bytes_eq-refl (key_of y))
          (turned x.0 y x.1 i (sym (ap (λ z. test x.0.1.item z.1.item) same) ∙ there.3)))

  -- each entry is found in its own list, where each value passes beside itself
  all_found-refl : (xs : List (Entry A)) → ((x : Entry A) → In x xs → test x.1.item x.1.item ≡ true) → all_found xs xs ≡ true
  all_found-refl xs each = list_all-from_In (λ x. entry_in (test x.1.item) (key_of x) xs) xs
      (λ x i. list_any-In (λ e. bytes_eq (key_of e) (key_of x) && test x.1.item e.1.item) xs x i
      (and_from (bytes_eq (key_of x) (key_of x)) (test x.1.item x.1.item) (bytes_eq-refl (key_of x)) (each x i)))

abbrev unique_inside : {S : Type 0} → open_value.InputValue-F S (InputValue S) → open_value.InputValue-F S Bool
unique_inside {S} = map-InputValue S (InputValue S) Bool has_unique_keys

unique-roll : {S : Type 0} (l : open_value.InputValue-F S (InputValue S)) → has_unique_keys (roll-InputValue S l) ≡ unique_step (unique_inside l)
unique-roll {S} l = fold-roll-InputValue S Bool unique_step l

map-map : {A B C : Type 0} (g : B → C) (f : A → B) (xs : List A) → map g (map f xs) ≡ map (λ x. g (f x)) xs
map-map g f [] = refl
map-map g f (x ∷ xs) = ap (λ ys. g (f x) ∷ ys) (map-map g f xs)

module _ {S : Type 0} (E : S → S → Bool) (laws : IsEquivalence E) where
  abbrev Layer : Type 0
  Layer = open_value.InputValue-F S (InputValue S)

  abbrev IsReflexive : InputValue S → Type 0
  IsReflexive v = unlocated_eq E v v ≡ true

  abbrev bared : {P : InputValue S → Type 0} → open_value.InputValue-F S (SuchValue P) → Layer
  bared {P} = map-InputValue S (SuchValue P) (InputValue S) (λ e. e.0)

  reflexive_items : (xs : List (Spanning (InputValue S) Span)) → Each (λ x. IsReflexive x.item) xs → pointwise (λ x y. unlocated_eq E x.item y.item) xs xs ≡ true
  reflexive_items [] each = refl
  reflexive_items (x ∷ xs) each = and_from (unlocated_eq E x.item x.item) (pointwise (λ x y. unlocated_eq E x.item y.item) xs xs) each.0 (reflexive_items xs each.1)

  reflexive_layer : (y : open_value.InputValue-F S (SuchValue IsReflexive)) → eq_layer E (opened E (bared y)) (bared y) ≡ true
  reflexive_layer open_value.Null = refl
  reflexive_layer (open_value.Scalar s) = laws.refl s
  reflexive_layer (open_value.Enum name) = bytes_eq-refl (string_bytes name)
  reflexive_layer (open_value.Variable name) = bytes_eq-refl (string_bytes name)
  reflexive_layer (open_value.List xs) =
      let ys = map (bare IsReflexive) xs.items in
      pointwise-map_left (λ x y. x.item y.item) (inside E) ys ys ∙ reflexive_items ys (each_item IsReflexive xs.items)
  reflexive_layer (open_value.Object es) =
      let ys = map (bare_entry IsReflexive) es.items in
      and_from _ _ (eq-eqb _ _ (length-map ys _))
      (list_all-map _ _ ys ∙ all_found-refl (unlocated_eq E) ys (λ x. Each-In (λ e. IsReflexive e.1.item) ys x (each_entry IsReflexive es.items)))

  pub unlocated_eq-reflexive : (v : InputValue S) → unlocated_eq E v v ≡ true
  unlocated_eq-reflexive = ind-InputValue S IsReflexive
      (λ x y is. subst (λ z. IsReflexive (roll-InputValue S z)) is (unlocated_eq-roll E (bared y) (bared y) ∙ reflexive_layer y))

  -- the two directions agree at every value where neither repeats a key
  abbrev IsSymmetric : InputValue S → Type 0
  IsSymmetric v = (w : InputValue S) → has_unique_keys v ≡ true → has_unique_keys w ≡ true → unlocated_eq E v w ≡ unlocated_eq E w v

  abbrev is_unique_item : Spanning (InputValue S) Span → Bool
  is_unique_item x = has_unique_keys x.item

  symmetric_items : (xs ys : List (Spanning (InputValue S) Span)) → Each (λ x. IsSymmetric x.item) xs → list_all is_unique_item xs ≡ true → list_all is_unique_item ys ≡ true
      → pointwise (λ x y. unlocated_eq E x.item y.item) xs ys ≡ pointwise (λ x y. unlocated_eq E x.item y.item) ys xs
  symmetric_items [] [] each p q = refl
  symmetric_items [] (y ∷ ys) each p q = refl
  symmetric_items (x ∷ xs) [] each p q = refl
  symmetric_items (x ∷ xs) (y ∷ ys) each p q =
      let ps = and_parts (is_unique_item x) (list_all is_unique_item xs) p in
      let qs = and_parts (is_unique_item y) (list_all is_unique_item ys) q in
      ap (λ b. b && pointwise (λ x y. unlocated_eq E x.item y.item) xs ys) (each.0 y.item ps.0 qs.0)
      ∙ ap (λ b. unlocated_eq E y.item x.item && b) (symmetric_items xs ys each.1 ps.1 qs.1)

  abbrev is_unique_entry : Entry (InputValue S) → Bool
  is_unique_entry e = has_unique_keys e.1.item

  symmetric_entries : (xs ys : List (Entry (InputValue S))) → Each (λ e. IsSymmetric e.1.item) xs
      → (are_distinct (map key_of xs) && list_all is_unique_entry xs) ≡ true → (are_distinct (map key_of ys) && list_all is_unique_entry ys) ≡ true
      → (nat_eq (length xs) (length ys) && all_found (unlocated_eq E) xs ys) ≡ (nat_eq (length ys) (length xs) && all_found (unlocated_eq E) ys xs)
  symmetric_entries xs ys each p q = both_directions _ _ forth back
    where
      ps : (are_distinct (map key_of xs) ≡ true) × (list_all is_unique_entry xs ≡ true)
      ps = and_parts (are_distinct (map key_of xs)) (list_all is_unique_entry xs) p

      qs : (are_distinct (map key_of ys) ≡ true) × (list_all is_unique_entry ys ≡ true)
      qs = and_parts (are_distinct (map key_of ys)) (list_all is_unique_entry ys) q

      at : (x y : Entry (InputValue S)) → In x xs → In y ys → unlocated_eq E x.1.item y.1.item ≡ unlocated_eq E y.1.item x.1.item
      at x y i j = Each-In (λ e. IsSymmetric e.1.item) xs x each i y.1.item (list_all-In is_unique_entry xs x ps.1 i) (list_all-In is_unique_entry ys y qs.1 j)

      forth : (nat_eq (length xs) (length ys) && all_found (unlocated_eq E) xs ys) ≡ true → (nat_eq (length ys) (length xs) && all_found (unlocated_eq E) ys xs) ≡ true
      forth h =
          let hs = and_parts (nat_eq (length xs) (length ys)) (all_found (unlocated_eq E) xs ys) h in
          let as_long : length xs ≡ length ys = eqb-true _ _ hs.0 in
          and_from _ _ (eq-eqb _ _ (sym as_long)) (all_found-turned (unlocated_eq E) xs ys ps.0 qs.0 as_long (λ x y i j e. sym (at x y i j) ∙ e) hs.1)

      back : (nat_eq (length ys) (length xs) && all_found (unlocated_eq E) ys xs) ≡ true → (nat_eq (length xs) (length ys) && all_found (unlocated_eq E) xs ys) ≡ true
      back h =
          let hs = and_parts (nat_eq (length ys) (length xs)) (all_found (unlocated_eq E) ys xs) h in
          let as_long : length ys ≡ length xs = eqb-true _ _ hs.0 in
          and_from _ _ (eq-eqb _ _ (sym as_long)) (all_found-turned (unlocated_eq E) ys xs qs.0 ps.0 as_long (λ y x j i e. at x y i j ∙ e) hs.1)

  -- the layer of a list or of an object, by the entries themselves
  items_layer-is : (xs ys : List (Spanning (InputValue S) Span)) → pointwise (λ x y. x.item y.item) (map (inside E) xs) ys ≡ pointwise (λ x y. unlocated_eq E x.item y.item) xs ys
  items_layer-is xs ys = pointwise-map_left (λ x y. x.item y.item) (inside E) xs ys

  abbrev inside_entry : Entry (InputValue S) → Entry (InputValue S → Bool)
  inside_entry e = (e.0, inside E e.1)

  entries_layer-is : (xs ys : List (Entry (InputValue S))) → (nat_eq (length (map inside_entry xs)) (length ys) && list_all (λ x. entry_in x.1.item (key_of x) ys) (map inside_entry xs)) ≡ (nat_eq (length xs) (length ys) && all_found (unlocated_eq E) xs ys)
  entries_layer-is xs ys = rw (list_all-map, length-map)

  abbrev unique_item : Spanning (InputValue S) Span → Spanning Bool Span
  unique_item x = record { item = has_unique_keys x.item; span = x.span }

  abbrev unique_entry : Entry (InputValue S) → Entry Bool
  unique_entry e = (e.0, unique_item e.1)

  unique_items-is : (xs : List (Spanning (InputValue S) Span)) → list_all (λ x. x.item) (map unique_item xs) ≡ list_all is_unique_item xs
  unique_items-is xs = list_all-map (λ x. x.item) unique_item xs

  unique_entries-is : (es : List (Entry (InputValue S))) → (are_distinct (map key_of (map unique_entry es)) && list_all (λ e. e.1.item) (map unique_entry es)) ≡ (are_distinct (map key_of es) && list_all is_unique_entry es)
  unique_entries-is es =
      ap (λ ks. are_distinct ks && list_all (λ e. e.1.item) (map unique_entry es)) (map-map key_of unique_entry es)
      ∙ ap (λ b. are_distinct (map key_of es) && b) (list_all-map (λ e. e.1.item) unique_entry es)

  symmetric_layer : (y : open_value.InputValue-F S (SuchValue IsSymmetric)) (r : Layer) → unique_step (unique_inside (bared y)) ≡ true → unique_step (unique_inside r) ≡ true → eq_layer E (opened E (bared y)) r ≡ eq_layer E (opened E r) (bared y)
  symmetric_layer open_value.Null open_value.Null p q = refl
  symmetric_layer (open_value.Scalar s) (open_value.Scalar t) p q = laws.symm s t
  symmetric_layer (open_value.Enum a) (open_value.Enum b) p q = nat_list_eq_equiv.symm (string_bytes a) (string_bytes b)
  symmetric_layer (open_value.Variable a) (open_value.Variable b) p q = nat_list_eq_equiv.symm (string_bytes a) (string_bytes b)
  symmetric_layer (open_value.List xs) (open_value.List ys) p q =
      let zs = map (bare IsSymmetric) xs.items in
      items_layer-is zs ys.items
      ∙ symmetric_items zs ys.items (each_item IsSymmetric xs.items) (sym (unique_items-is zs) ∙ p) (sym (unique_items-is ys.items) ∙ q)
      ∙ sym (items_layer-is ys.items zs)
  symmetric_layer (open_value.Object es) (open_value.Object fs) p q =
      let zs = map (bare_entry IsSymmetric) es.items in
      entries_layer-is zs fs.items
      ∙ symmetric_entries zs fs.items (each_entry IsSymmetric es.items) (sym (unique_entries-is zs) ∙ p) (sym (unique_entries-is fs.items) ∙ q)
      ∙ sym (entries_layer-is fs.items zs)
  symmetric_layer _ _ p q = refl

  -- a fact of every value, by its layer
  by_layer : (P : InputValue S → Type 0) → ((l : Layer) → P (roll-InputValue S l)) → (v : InputValue S) → P v
  by_layer P h = ind-InputValue S P (λ x y is. h x)

  pub unlocated_eq-symmetric : (v w : InputValue S) → has_unique_keys v ≡ true → has_unique_keys w ≡ true → unlocated_eq E v w ≡ unlocated_eq E w v
  unlocated_eq-symmetric = ind-InputValue S IsSymmetric
      (λ x y is. subst (λ z. IsSymmetric (roll-InputValue S z)) is
      (by_layer (λ w. has_unique_keys (roll-InputValue S (bared y)) ≡ true → has_unique_keys w ≡ true → unlocated_eq E (roll-InputValue S (bared y)) w ≡ unlocated_eq E w (roll-InputValue S (bared y)))
      (λ r p q. unlocated_eq-roll E (bared y) r ∙ symmetric_layer y r (sym (unique-roll (bared y)) ∙ p) (sym (unique-roll r) ∙ q) ∙ sym (unlocated_eq-roll E r (bared y)))))
