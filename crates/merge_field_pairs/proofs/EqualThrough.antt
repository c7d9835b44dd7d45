-- Equality of values without their positions is transitive, whatever keys they repeat.
use Rattle.std.proofs.Common.{◌≡◌, ℕ, List, [], ◌∷◌, map, length, Bool, true, ◌&&◌, nat_eq, string_bytes, sym, ap, ◌∙◌, subst}
use Rattle.std.specs.List.{list_all}
use Rattle.std.specs.Str.{bytes_eq}
use Rattle.std.specs.Cmp.{IsEquivalence}
use Rattle.std.specs.Cmp.Lexicographic.{pointwise, nat_list_eq_equiv}
use Rattle.std.proofs.lemmas.Bool.{and_parts, and_from, eq-eqb, eqb-true}
use Rattle.language_types.specs.declared.position.Span.{Span}
use Rattle.language_types.specs.declared.position.Spanning.{Spanning}
use Rattle.language_values.specs.declared.value.InputValue.{InputValue, ind-InputValue, map-InputValue, roll-InputValue}
use Rattle.language_values.specs.declared.value.InputValue.TheOpen as open_value
use Rattle.language_values.specs.Each.{Each}
use Rattle.language_values.specs.Values.{Entry}
use Rattle.language_values.specs.ValuesEqual.{entry_in, eq_layer, unlocated_eq}
use Rattle.language_values.proofs.ValueInduction.{SuchValue, bare, bare_entry, each_item, each_entry}
use Rattle.language_values.proofs.Members.{In, Each-In, list_all-In, list_all-from_In, list_any-In, In-from_list_any, bytes_eq-same, bytes_eq-refl}
use Rattle.language_values.proofs.ValueLemmas.{inside, opened, unlocated_eq-roll, pointwise-map_left, list_all-map}
use Rattle.std.proofs.lemmas.List.{length-map}

abbrev key_of : {A : Type 0} → Entry A → List ℕ
key_of e = string_bytes e.0.item

module _ {S : Type 0} (E : S → S → Bool) (laws : IsEquivalence E) where
  abbrev Layer : Type 0
  Layer = open_value.InputValue-F S (InputValue S)

  -- it equals what any value equals that it equals itself
  abbrev GoesThrough : InputValue S → Type 0
  GoesThrough v = (w x : InputValue S) → unlocated_eq E v w ≡ true → unlocated_eq E w x ≡ true → unlocated_eq E v x ≡ true

  abbrev Items : Type 0
  Items = List (Spanning (InputValue S) Span)

  abbrev Entries : Type 0
  Entries = List (Entry (InputValue S))

  abbrev equal_items : Items → Items → Bool
  equal_items xs ys = pointwise (λ x y. unlocated_eq E x.item y.item) xs ys

  items_through : (xs ys zs : Items) → Each (λ x. GoesThrough x.item) xs → equal_items xs ys ≡ true → equal_items ys zs ≡ true → equal_items xs zs ≡ true
  items_through [] [] zs each p q = q
  items_through [] (y ∷ ys) zs each p q = cc
  items_through (x ∷ xs) [] zs each p q = cc
  items_through (x ∷ xs) (y ∷ ys) [] each p q = cc
  items_through (x ∷ xs) (y ∷ ys) (z ∷ zs) each p q =
      let ps = and_parts (unlocated_eq E x.item y.item) (equal_items xs ys) p in
      let qs = and_parts (unlocated_eq E y.item z.item) (equal_items ys zs) q in
      and_from _ _ (each.0 y.item z.item ps.0 qs.0) (items_through xs ys zs each.1 ps.1 qs.1)

  abbrev is_found : Entry (InputValue S) → Entries → Bool
  is_found x ys = entry_in (unlocated_eq E x.1.item) (key_of x) ys

  found : (x : Entry (InputValue S)) (ys : Entries) → is_found x ys ≡ true → (y : Entry (InputValue S)) × In y ys × (key_of y ≡ key_of x) × (unlocated_eq E x.1.item y.1.item ≡ true)
  found x ys h =
      let some = In-from_list_any (λ e. bytes_eq (key_of e) (key_of x) && unlocated_eq E x.1.item e.1.item) ys h in
      let both = and_parts (bytes_eq (key_of some.0) (key_of x)) (unlocated_eq E x.1.item some.0.1.item) some.2 in
      (some.0, some.1, bytes_eq-same (key_of some.0) (key_of x) both.0, both.1)

  abbrev all_found : Entries → Entries → Bool
  all_found xs ys = list_all (λ x. is_found x ys) xs

  found_through : (x : Entry (InputValue S)) (ys zs : Entries) → GoesThrough x.1.item → is_found x ys ≡ true → all_found ys zs ≡ true → is_found x zs ≡ true
  found_through x ys zs through p q =
      let y = found x ys p in
      let z = found y.0 zs (list_all-In (λ e. is_found e zs) ys y.0 q y.1) in
      list_any-In (λ e. bytes_eq (key_of e) (key_of x) && unlocated_eq E x.1.item e.1.item) zs z.0 z.1
      (and_from _ _ (ap (λ k. bytes_eq k (key_of x)) (z.2 ∙ y.2) ∙ bytes_eq-refl (key_of x)) (through y.0.1.item z.0.1.item y.3 z.3))

  abbrev equal_entries : Entries → Entries → Bool
  equal_entries xs ys = nat_eq (length xs) (length ys) && all_found xs ys

  entries_through : (xs ys zs : Entries) → Each (λ e. GoesThrough e.1.item) xs → equal_entries xs ys ≡ true → equal_entries ys zs ≡ true → equal_entries xs zs ≡ true
  entries_through xs ys zs each p q =
      let ps = and_parts (nat_eq (length xs) (length ys)) (all_found xs ys) p in
      let qs = and_parts (nat_eq (length ys) (length zs)) (all_found ys zs) q in
      and_from _ _ (eq-eqb (length xs) (length zs) (eqb-true _ _ ps.0 ∙ eqb-true _ _ qs.0))
      (list_all-from_In (λ x. is_found x zs) xs
      (λ x i. found_through x ys zs (Each-In (λ e. GoesThrough e.1.item) xs x each i) (list_all-In (λ e. is_found e ys) xs x ps.1 i) qs.1))

  -- the layer of a list or of an object, by the entries themselves
  items_layer-is : (xs ys : Items) → pointwise (λ x y. x.item y.item) (map (inside E) xs) ys ≡ equal_items xs ys
  items_layer-is xs ys = pointwise-map_left (λ x y. x.item y.item) (inside E) xs ys

  abbrev inside_entry : Entry (InputValue S) → Entry (InputValue S → Bool)
  inside_entry e = (e.0, inside E e.1)

  entries_layer-is : (xs ys : Entries) → (nat_eq (length (map inside_entry xs)) (length ys) && list_all (λ x. entry_in x.1.item (key_of x) ys) (map inside_entry xs)) ≡ equal_entries xs ys
  entries_layer-is xs ys = rw (list_all-map, length-map)

  abbrev bared : open_value.InputValue-F S (SuchValue GoesThrough) → Layer
  bared = map-InputValue S (SuchValue GoesThrough) (InputValue S) (λ e. e.0)

  layer_through : (y : open_value.InputValue-F S (SuchValue GoesThrough)) (m r : Layer) → eq_layer E (opened E (bared y)) m ≡ true → eq_layer E (opened E m) r ≡ true → eq_layer E (opened E (bared y)) r ≡ true
  layer_through open_value.Null open_value.Null r p q = q
  layer_through (open_value.Scalar s) (open_value.Scalar t) (open_value.Scalar u) p q = laws.congr s t u p ∙ q
  layer_through (open_value.Enum a) (open_value.Enum b) (open_value.Enum c) p q = nat_list_eq_equiv.congr (string_bytes a) (string_bytes b) (string_bytes c) p ∙ q
  layer_through (open_value.Variable a) (open_value.Variable b) (open_value.Variable c) p q = nat_list_eq_equiv.congr (string_bytes a) (string_bytes b) (string_bytes c) p ∙ q
  layer_through (open_value.List xs) (open_value.List ys) (open_value.List zs) p q =
      let ws = map (bare GoesThrough) xs.items in
      items_layer-is ws zs.items
      ∙ items_through ws ys.items zs.items (each_item GoesThrough xs.items) (sym (items_layer-is ws ys.items) ∙ p) (sym (items_layer-is ys.items zs.items) ∙ q)
  layer_through (open_value.Object es) (open_value.Object fs) (open_value.Object gs) p q =
      let ws = map (bare_entry GoesThrough) es.items in
      entries_layer-is ws gs.items
      ∙ entries_through ws fs.items gs.items (each_entry GoesThrough es.items) (sym (entries_layer-is ws fs.items) ∙ p) (sym (entries_layer-is fs.items gs.items) ∙ q)
  layer_through _ _ _ p q = cc

  -- a fact of every value, by its layer
  by_layer : (P : InputValue S → Type 0) → ((l : Layer) → P (roll-InputValue S l)) → (v : InputValue S) → P v
  by_layer P h = ind-InputValue S P (λ x y is. h x)

  rolled_through : (y : open_value.InputValue-F S (SuchValue GoesThrough)) → GoesThrough (roll-InputValue S (bared y))
  rolled_through y =
      let v = roll-InputValue S (bared y) in
      by_layer (λ w. (x : InputValue S) → unlocated_eq E v w ≡ true → unlocated_eq E w x ≡ true → unlocated_eq E v x ≡ true)
      (λ m. by_layer (λ x. unlocated_eq E v (roll-InputValue S m) ≡ true → unlocated_eq E (roll-InputValue S m) x ≡ true → unlocated_eq E v x ≡ true)
      (λ r p q. unlocated_eq-roll E (bared y) r ∙ layer_through y m r (sym (unlocated_eq-roll E (bared y) m) ∙ p) (sym (unlocated_eq-roll E m r) ∙ q)))

  pub unlocated_eq-through : (v w x : InputValue S) → unlocated_eq E v w ≡ true → unlocated_eq E w x ≡ true → unlocated_eq E v x ≡ true
  unlocated_eq-through = ind-InputValue S GoesThrough (λ x y is. subst (λ z. GoesThrough (roll-InputValue S z)) is (rolled_through y))
