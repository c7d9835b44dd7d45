-- Lists whose entries all have different names: in another order, and with a directive added.
use Rattle.std.proofs.Common.{◌≡◌, ℕ, ◌+◌, ◌≤◌, List, [], ◌∷◌, Bool, true, false, cond, not, ◌&&◌, ◌||◌, Option, Some, None, string_bytes, refl, ap, sym, ◌∙◌, arith}
use Rattle.std.specs.Prelude.{count_by, IsPermutation}
use Rattle.std.specs.Option.{option_map_or}
use Rattle.std.specs.Str.{bytes_eq}
use Rattle.std.proofs.lemmas.Bool.{and_parts, and_from}
use Rattle.std.proofs.lemmas.List.Sorted.{sum_by-IsPermutation}
use Rattle.std.proofs.lemmas.List.Sums.{sum_by-cons}
use Rattle.std.proofs.lemmas.Slice.Eq.{bytes_eq-Decides}
use Rattle.schema_validation.specs.declared.directives.DirectiveType.{DirectiveType}
use Rattle.schema.specs.Changes.{with_directive}
use Rattle.schema_validation.specs.Directives.{directive_name}
use Rattle.schema_validation.specs.Named.{is_called, is_any_called, are_distinct}
use Rattle.schema.proofs.AcceptedLemmas.{at-most-one}
use Rattle.schema_validation.proofs.Finds.{not-true}
use Rattle.schema_validation.proofs.KeyedLemmas.{bytes_eq-sym}
use Rattle.schema.proofs.PossibleLemmas.{or-false}
use Rattle.schema_validation.proofs.Refusals.{any-count}

module _ {T : Type 0} (name_of : T → Option (List ℕ)) where
  -- if each name occurs at most once, no other entry has the name of the first
  alone : (o : Option (List ℕ)) (t : T) (ts : List T) → name_of t ≡ o → ((n : List ℕ) → count_by (is_called name_of n) (t ∷ ts) ≤ 1) → option_map_or (λ n. not (is_any_called name_of ts n)) o true ≡ true
  alone None t ts e few = refl
  alone (Some n) t ts e few = go (is_any_called name_of ts n) refl
    where
      go : (b : Bool) → is_any_called name_of ts n ≡ b → not b ≡ true
      go false q = refl
      go true q =
          let own : is_called name_of n t ≡ true = rw e ((bytes_eq-Decides n n).1 refl) in
          let more : 1 ≤ count_by (is_called name_of n) ts = any-count (is_called name_of n) ts q in
          let here : count_by (is_called name_of n) (t ∷ ts) ≡ 1 + count_by (is_called name_of n) ts = sum_by-cons (λ y. cond (is_called name_of n y) 1 0) t ts ∙ ap (λ c. cond c 1 0 + count_by (is_called name_of n) ts) own in
          let most : count_by (is_called name_of n) (t ∷ ts) ≤ 1 = few n in
          absurd (omega (arith, more, here, most))

  distinct-few : (ts : List T) → ((n : List ℕ) → count_by (is_called name_of n) ts ≤ 1) → are_distinct name_of ts ≡ true
  distinct-few [] few = refl
  distinct-few (t ∷ ts) few =
      let fewer = λ (n : List ℕ).
      let here : count_by (is_called name_of n) (t ∷ ts) ≡ cond (is_called name_of n t) 1 0 + count_by (is_called name_of n) ts = sum_by-cons (λ y. cond (is_called name_of n y) 1 0) t ts in
      let most : count_by (is_called name_of n) (t ∷ ts) ≤ 1 = few n in
      let less : count_by (is_called name_of n) ts ≤ 1 = omega (arith, here, most) in
      less in
      and_from (option_map_or (λ n. not (is_any_called name_of ts n)) (name_of t) true) (are_distinct name_of ts) (alone (name_of t) t ts refl few) (distinct-few ts fewer)

  -- in another order
  pub distinct-permuted : (xs ys : List T) → are_distinct name_of xs ≡ true → IsPermutation xs ys → are_distinct name_of ys ≡ true
  distinct-permuted xs ys h p =
      distinct-few ys
      (λ n. let same : count_by (is_called name_of n) ys ≡ count_by (is_called name_of n) xs = sum_by-IsPermutation (λ t. cond (is_called name_of n t) 1 0) xs ys p in
      let most : count_by (is_called name_of n) xs ≤ 1 = at-most-one name_of xs n h in
      omega (arith, same, most))

or_again : (a r : Bool) → (a || r) ≡ ((a || r) || a)
or_again true r = refl
or_again false r = sym (or-false r)

or_moved : (x r s a : Bool) → r ≡ (s || a) → (x || r) ≡ ((x || s) || a)
or_moved true r s a e = refl
or_moved false r s a e = e

module _ {S : Type 0} (d : DirectiveType S) where
  any_step : (b : Bool) (x : DirectiveType S) (xs : List (DirectiveType S)) (n : List ℕ) → is_called directive_name (string_bytes d.name) x ≡ b
      → is_any_called directive_name (with_directive d xs) n ≡ (is_any_called directive_name xs n || is_called directive_name n d)
      → is_any_called directive_name (cond b (d ∷ xs) (x ∷ with_directive d xs)) n ≡ (is_any_called directive_name (x ∷ xs) n || is_called directive_name n d)
  any_step true x xs n e h =
      let same : string_bytes x.name ≡ string_bytes d.name = (bytes_eq-Decides (string_bytes x.name) (string_bytes d.name)).0 e in
      or_again (is_called directive_name n d) (is_any_called directive_name xs n)
      ∙ ap (λ w. (bytes_eq w n || is_any_called directive_name xs n) || is_called directive_name n d) (sym same)
  any_step false x xs n e h = or_moved (is_called directive_name n x) (is_any_called directive_name (with_directive d xs) n) (is_any_called directive_name xs n) (is_called directive_name n d) h

  any-with : (xs : List (DirectiveType S)) (n : List ℕ) → is_any_called directive_name (with_directive d xs) n ≡ (is_any_called directive_name xs n || is_called directive_name n d)
  any-with [] n = or-false (is_called directive_name n d)
  any-with (x ∷ xs) n = any_step (is_called directive_name (string_bytes d.name) x) x xs n refl (any-with xs n)

  distinct_step : (b : Bool) (x : DirectiveType S) (xs : List (DirectiveType S)) → is_called directive_name (string_bytes d.name) x ≡ b → are_distinct directive_name (x ∷ xs) ≡ true
      → are_distinct directive_name (with_directive d xs) ≡ true → are_distinct directive_name (cond b (d ∷ xs) (x ∷ with_directive d xs)) ≡ true
  distinct_step true x xs e h more =
      let same : string_bytes x.name ≡ string_bytes d.name = (bytes_eq-Decides (string_bytes x.name) (string_bytes d.name)).0 e in
      ap (λ n. not (is_any_called directive_name xs n) && are_distinct directive_name xs) (sym same) ∙ h
  distinct_step false x xs e h more =
      let name = string_bytes x.name in
      let parts = and_parts (not (is_any_called directive_name xs name)) (are_distinct directive_name xs) h in
      let none : is_any_called directive_name xs name ≡ false = not-true (is_any_called directive_name xs name) parts.0 in
      let other : is_called directive_name name d ≡ false = bytes_eq-sym (string_bytes d.name) name ∙ e in
      and_from (not (is_any_called directive_name (with_directive d xs) name)) (are_distinct directive_name (with_directive d xs)) (ap not (any-with xs name) ∙ (λ i. not (none i || other i))) more

  distinct-with : (xs : List (DirectiveType S)) → are_distinct directive_name xs ≡ true → are_distinct directive_name (with_directive d xs) ≡ true
  distinct-with [] h = refl
  distinct-with (x ∷ xs) h =
      distinct_step (is_called directive_name (string_bytes d.name) x) x xs refl h
      (distinct-with xs (and_parts (not (is_any_called directive_name xs (string_bytes x.name))) (are_distinct directive_name xs) h).1)

  -- the directive added, or nothing changed
  pub distinct-either : (xs ys : List (DirectiveType S)) (b : Bool) → are_distinct directive_name xs ≡ true → ys ≡ cond b (with_directive d xs) xs → are_distinct directive_name ys ≡ true
  distinct-either xs ys true h e = ap (are_distinct directive_name) e ∙ distinct-with xs h
  distinct-either xs ys false h e = ap (are_distinct directive_name) e ∙ h
