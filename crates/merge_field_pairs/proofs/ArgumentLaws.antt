-- "The same arguments" is transitive. Where no name and no key is repeated, it is so in either order, and of a list and
-- itself.
use Rattle.std.proofs.Common.{◌≡◌, ℕ, ◌≤◌, List, [], ◌∷◌, length, map, Bool, true, false, ◌&&◌, cond, nat_eq, Option, Some, None, find, option_map, refl, sym, ap, ◌∙◌, arith, inl, inr}
use Rattle.std.specs.List.{list_any, list_all}
use Rattle.std.specs.Option.{option_map_or}
use Rattle.std.specs.Cmp.{IsEquivalence}
use Rattle.std.specs.Str.{bytes_eq}
use Rattle.std.proofs.lemmas.Bool.{and_parts, and_from, eq-eqb, eqb-true, both_ways}
use Rattle.std.proofs.lemmas.List.{length-map}
use Rattle.language_values.specs.ValuesEqual.{unlocated_eq, are_distinct, has_unique_keys}
use Rattle.language_types.specs.declared.position.Span.{Span}
use Rattle.language_types.specs.declared.position.Spanning.{Spanning}
use Rattle.language.specs.declared.tree.Arguments.{Arguments}
use Rattle.language_values.specs.declared.value.InputValue.{InputValue}
use Rattle.language_values.proofs.Members.{In, list_all-In, list_all-from_In, In-from_key, list_any-from_key, bytes_eq-same, bytes_eq-refl, same_from_key, all_listed}
use Rattle.language_values.proofs.ValueLaws.{unlocated_eq-reflexive, unlocated_eq-symmetric}
use Rattle.merge_field_pairs.specs.SameArguments.{Given, given_name, are_tidy, is_given, are_given, same_arguments}
use Rattle.merge_field_pairs.proofs.EqualThrough.{unlocated_eq-through}

pub both_directions : (b c : Bool) → (b ≡ true → c ≡ true) → (c ≡ true → b ≡ true) → b ≡ c
both_directions true c f g = sym (f refl)
both_directions false true f g = g refl
both_directions false false f g = refl

module _ {S : Type 0} (E : S → S → Bool) (laws : IsEquivalence E) where
  abbrev passes : InputValue S → Option (Given S) → Bool
  passes v o = option_map_or (λ w. unlocated_eq E v w.item) (option_map (λ p. p.1) o) false

  abbrev named : List ℕ → List (Given S) → Option (Given S)
  named n ys = find (λ p. bytes_eq p.0.item.now n) ys

  given_found : (n : List ℕ) (v : InputValue S) (ys : List (Given S)) → is_given E ys n v ≡ true → (y : Given S) × In y ys × (given_name y ≡ n) × (unlocated_eq E v y.1.item ≡ true)
  given_found n v [] h = cc
  given_found n v (y ∷ ys) h = step (given_found n v ys) (bytes_eq (given_name y) n) refl h
    where
      step : (is_given E ys n v ≡ true → (z : Given S) × In z ys × (given_name z ≡ n) × (unlocated_eq E v z.1.item ≡ true)) → (b : Bool) → bytes_eq (given_name y) n ≡ b → passes v (cond b (Some y) (named n ys)) ≡ true → (z : Given S) × In z (y ∷ ys) × (given_name z ≡ n) × (unlocated_eq E v z.1.item ≡ true)
      step rest true e k = (y, inl refl, bytes_eq-same (given_name y) n e, k)
      step rest false e k = let more = rest k in (more.0, inr more.1, more.2, more.3)

  given_from : (n : List ℕ) (v : InputValue S) (ys : List (Given S)) (y : Given S) → are_distinct (map given_name ys) ≡ true → In y ys → given_name y ≡ n → unlocated_eq E v y.1.item ≡ true → is_given E ys n v ≡ true
  given_from n v [] y distinct i same h = elim i [ ]
  given_from n v (z ∷ ys) y distinct i same h = step (λ j. given_from n v ys y (and_parts _ (are_distinct (map given_name ys)) distinct).1 j same h) (bytes_eq (given_name z) n) refl
    where
      later : bytes_eq (given_name z) n ≡ false → In y (z ∷ ys) → In y ys
      later e (inl here) = absurd (both_ways (bytes_eq (given_name z) n) e (ap (λ w. bytes_eq (given_name w) n) here ∙ ap (λ k. bytes_eq k n) same ∙ bytes_eq-refl n))
      later e (inr there) = there

      step : (In y ys → is_given E ys n v ≡ true) → (b : Bool) → bytes_eq (given_name z) n ≡ b → passes v (cond b (Some z) (named n ys)) ≡ true
      step rest true e =
          let one : z ≡ y = same_from_key given_name (z ∷ ys) z y distinct (inl refl) i (bytes_eq-same (given_name z) n e ∙ sym same) in
          ap (λ w. unlocated_eq E v w.1.item) one ∙ h
      step rest false e = rest (later e i)

  abbrev all_given : List (Given S) → List (Given S) → Bool
  all_given xs ys = list_all (λ p. is_given E ys p.0.item.now p.1.item) xs

  -- a value is given where one that it equals is
  given_as : (n : List ℕ) (v w : InputValue S) (zs : List (Given S)) → unlocated_eq E v w ≡ true → is_given E zs n w ≡ true → is_given E zs n v ≡ true
  given_as n v w zs same = at (named n zs)
    where
      at : (o : Option (Given S)) → passes w o ≡ true → passes v o ≡ true
      at None h = h
      at (Some z) h = unlocated_eq-through E laws v w z.1.item same h

  given_through : (xs ys zs : List (Given S)) → all_given xs ys ≡ true → all_given ys zs ≡ true → all_given xs zs ≡ true
  given_through xs ys zs p q = list_all-from_In (λ x. is_given E zs x.0.item.now x.1.item) xs one
    where
      one : (x : Given S) → In x xs → is_given E zs x.0.item.now x.1.item ≡ true
      one x i =
          let y = given_found (given_name x) x.1.item ys (list_all-In (λ p. is_given E ys p.0.item.now p.1.item) xs x p i) in
          given_as (given_name x) x.1.item y.0.1.item zs y.3
          (ap (λ n. is_given E zs n y.0.1.item) (sym y.2) ∙ list_all-In (λ p. is_given E zs p.0.item.now p.1.item) ys y.0 q y.1)

  -- two lists are the same where the one is the same as a third, and the third as the other, whatever they repeat
  pub same_args_through : (l m r : Option (Spanning (Arguments S) Span)) → same_arguments E l m ≡ true → same_arguments E m r ≡ true → same_arguments E l r ≡ true
  same_args_through None None r p q = q
  same_args_through None (Some m) r p q = cc
  same_args_through (Some l) None r p q = cc
  same_args_through (Some l) (Some m) None p q = cc
  same_args_through (Some l) (Some m) (Some r) p q =
      let xs = l.item.items.items in
      let ys = m.item.items.items in
      let zs = r.item.items.items in
      let ps = and_parts (nat_eq (length xs) (length ys)) (all_given xs ys) p in
      let qs = and_parts (nat_eq (length ys) (length zs)) (all_given ys zs) q in
      and_from _ _ (eq-eqb (length xs) (length zs) (eqb-true _ _ ps.0 ∙ eqb-true _ _ qs.0)) (given_through xs ys zs ps.1 qs.1)

  names_given : (xs ys : List (Given S)) → all_given xs ys ≡ true → (k : List ℕ) → list_any (bytes_eq k) (map given_name xs) ≡ true → list_any (bytes_eq k) (map given_name ys) ≡ true
  names_given xs ys all k h =
      let x = In-from_key given_name k xs h in
      let y = given_found (given_name x.0) x.0.1.item ys (list_all-In (λ p. is_given E ys p.0.item.now p.1.item) xs x.0 all x.1) in
      list_any-from_key given_name k ys y.0 y.1 (x.2 ∙ sym y.2)

  -- lists of one length without repeated names: what is given on the right is given on the left
  given_turned : (xs ys : List (Given S)) → are_distinct (map given_name xs) ≡ true → are_distinct (map given_name ys) ≡ true → length xs ≡ length ys
      → ((x y : Given S) → In x xs → In y ys → unlocated_eq E x.1.item y.1.item ≡ true → unlocated_eq E y.1.item x.1.item ≡ true)
      → all_given xs ys ≡ true → all_given ys xs ≡ true
  given_turned xs ys distinct_xs distinct_ys as_long turned all = list_all-from_In (λ p. is_given E xs p.0.item.now p.1.item) ys one
    where
      fits : length (map given_name ys) ≤ length (map given_name xs)
      fits = simp length-map (omega arith)

      one : (y : Given S) → In y ys → is_given E xs y.0.item.now y.1.item ≡ true
      one y i =
          let listed = all_listed (map given_name xs) (map given_name ys) (given_name y) distinct_xs fits (names_given xs ys all) (list_any-from_key given_name (given_name y) ys y i refl) in
          let x = In-from_key given_name (given_name y) xs listed in
          let there = given_found (given_name x.0) x.0.1.item ys (list_all-In (λ p. is_given E ys p.0.item.now p.1.item) xs x.0 all x.1) in
          let same : there.0 ≡ y = same_from_key given_name ys there.0 y distinct_ys there.1 i (there.2 ∙ sym x.2) in
          given_from (given_name y) y.1.item xs x.0 distinct_xs x.1 (sym x.2)
          (turned x.0 y x.1 i (sym (ap (λ z. unlocated_eq E x.0.1.item z.1.item) same) ∙ there.3))

  abbrev is_tidy_list : List (Given S) → Bool
  is_tidy_list xs = are_distinct (map given_name xs) && list_all (λ p. has_unique_keys p.1.item) xs

  distinct_of : (xs : List (Given S)) → is_tidy_list xs ≡ true → are_distinct (map given_name xs) ≡ true
  distinct_of xs h = (and_parts (are_distinct (map given_name xs)) (list_all (λ p. has_unique_keys p.1.item) xs) h).0

  unique_of : (xs : List (Given S)) → is_tidy_list xs ≡ true → (x : Given S) → In x xs → has_unique_keys x.1.item ≡ true
  unique_of xs h x i = list_all-In (λ p. has_unique_keys p.1.item) xs x (and_parts (are_distinct (map given_name xs)) (list_all (λ p. has_unique_keys p.1.item) xs) h).1 i

  given_across : (xs ys : List (Given S)) → is_tidy_list xs ≡ true → is_tidy_list ys ≡ true → are_given E xs ys ≡ true → are_given E ys xs ≡ true
  given_across xs ys p q h =
      let hs = and_parts (nat_eq (length xs) (length ys)) (all_given xs ys) h in
      let as_long : length xs ≡ length ys = eqb-true _ _ hs.0 in
      and_from _ _ (eq-eqb _ _ (sym as_long))
      (given_turned xs ys (distinct_of xs p) (distinct_of ys q) as_long
      (λ x y i j e. sym (unlocated_eq-symmetric E laws x.1.item y.1.item (unique_of xs p x i) (unique_of ys q y j)) ∙ e) hs.1)

  pub same_args_flip : (l r : Option (Spanning (Arguments S) Span)) → are_tidy l ≡ true → are_tidy r ≡ true → same_arguments E l r ≡ same_arguments E r l
  same_args_flip None None p q = refl
  same_args_flip None (Some r) p q = refl
  same_args_flip (Some l) None p q = refl
  same_args_flip (Some l) (Some r) p q =
      both_directions _ _ (given_across l.item.items.items r.item.items.items p q) (given_across r.item.items.items l.item.items.items q p)

  pub same_args_self : (l : Option (Spanning (Arguments S) Span)) → are_tidy l ≡ true → same_arguments E l l ≡ true
  same_args_self None p = refl
  same_args_self (Some l) p =
      let xs = l.item.items.items in
      and_from _ _ (eq-eqb (length xs) (length xs) refl)
      (list_all-from_In (λ y. is_given E xs y.0.item.now y.1.item) xs
      (λ x i. given_from (given_name x) x.1.item xs x (distinct_of xs p) i refl (unlocated_eq-reflexive E laws x.1.item)))
