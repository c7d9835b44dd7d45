-- A table of types: what a type more changes, and which names stand again.
use Rattle.std.proofs.Common.{◌≡◌, ℕ, ◌+◌, ◌≤◌, List, [], ◌∷◌, ◌++◌, Bool, true, false, cond, not, ◌||◌, Option, Some, None, is_some, refl, ap, sym, ◌∙◌, arith}
use Rattle.std.specs.Prelude.{find, count_by, option_copied}
use Rattle.std.specs.List.{list_any}
use Rattle.std.specs.Option.{option_map_or, option_or}
use Rattle.std.specs.Str.{bytes_eq}
use Rattle.std.proofs.lemmas.Bool.{and_parts, and_from, or_parts, or_from}
use Rattle.std.proofs.lemmas.List.Folds.{find-append, list_any-append}
use Rattle.std.proofs.lemmas.List.Sums.{sum_by-cons, sum_by-append}
use denote.Ref.{Bor}
use Rattle.name_tables.specs.declared.map.NameMap.{NameMap}
use Rattle.name_tables.specs.Adding.{or_else}
use Rattle.name_tables.specs.Maps.{value_of}
use Rattle.meta.specs.declared.kinds.MetaTypeOf.{MetaTypeOf}
use Rattle.meta.specs.Kinds.{name_of_meta}
use Rattle.schema_validation.specs.Accepted.{is_named}
use Rattle.schema_validation.specs.Named.{is_called, is_any_called, are_distinct}
use Rattle.schema_validation.specs.Repeated.{listed_again, repeated_name}
use Rattle.schema_validation.specs.Tables.{HasTypes}
use Rattle.schema_validation.proofs.Finds.{not-true}
use Rattle.schema_validation.proofs.KeyedLemmas.{bytes_eq-sym}
use Rattle.schema_validation.proofs.Refusals.{twice}

-- a name is listed where a type of the name is found
pub any-found : {A : Type 0} (p : A → Bool) (xs : List A) → list_any p xs ≡ is_some (find p xs)
any-found p [] = refl
any-found p (x ∷ xs) = step (p x) (any-found p xs)
  where
    step : (b : Bool) → list_any p xs ≡ is_some (find p xs) → (b || list_any p xs) ≡ is_some (cond b (Some x) (find p xs))
    step true h = refl
    step false h = h

module _ {A : Type 0} where
  or_none : (o : Option A) → option_or o None ≡ o
  or_none None = refl
  or_none (Some x) = refl

  copied_or : (o p : Option (Bor A)) → option_copied (or_else o p) ≡ option_or (option_copied o) (option_copied p)
  copied_or None p = refl
  copied_or (Some r) p = refl

  copied_cond : (b : Bool) (r : Bor A) → option_copied (cond b (Some r) None) ≡ cond b (Some r.now) None
  copied_cond true r = refl
  copied_cond false r = refl

  pub copied_some : (o : Option (Bor A)) → is_some (option_copied o) ≡ is_some o
  copied_some None = refl
  copied_some (Some r) = refl

module _ {S C : Type 0} (ts : List (MetaTypeOf S C)) where
  -- a type is added under its name
  pub has-more : (old new : NameMap (Bor (MetaTypeOf S C))) (meta : Bor (MetaTypeOf S C)) (key : List ℕ) → Some key ≡ name_of_meta meta.now → HasTypes ts old
      → ((other : List ℕ) → value_of new other ≡ or_else (value_of old other) (cond (bytes_eq key other) (Some meta) None)) → HasTypes (ts ++ meta.now ∷ []) new
  has-more old new meta key named has noted name =
      ap option_copied (noted name)
      ∙ copied_or (value_of old name) (cond (bytes_eq key name) (Some meta) None)
      ∙ ap (λ o. option_or o (option_copied (cond (bytes_eq key name) (Some meta) None))) (has name)
      ∙ ap (λ o. option_or (find (is_named name) ts) o) (copied_cond (bytes_eq key name) meta)
      ∙ ap (λ o. option_or (find (is_named name) ts) (cond (option_map_or (λ n. bytes_eq n name) o false) (Some meta.now) None)) named
      ∙ sym (find-append (is_named name) ts (meta.now ∷ []))

  -- a type without a name is found under none
  pub has-unnamed : (map : NameMap (Bor (MetaTypeOf S C))) (t : MetaTypeOf S C) → None ≡ name_of_meta t → HasTypes ts map → HasTypes (ts ++ t ∷ []) map
  has-unnamed map t unnamed has name =
      has name
      ∙ sym (or_none (find (is_named name) ts))
      ∙ ap (λ o. option_or (find (is_named name) ts) (cond (option_map_or (λ n. bytes_eq n name) o false) (Some t) None)) unnamed
      ∙ sym (find-append (is_named name) ts (t ∷ []))

  -- a name stands again where the map has it
  pub again-found : (map : NameMap (Bor (MetaTypeOf S C))) (t : MetaTypeOf S C) (key : List ℕ) → Some key ≡ name_of_meta t → HasTypes ts map → repeated_name t ts ≡ cond (is_some (value_of map key)) (Some key) None
  again-found map t key named has =
      ap (listed_again ts) (sym named)
      ∙ ap (λ b. cond b (Some key) None) (any-found (is_named key) ts ∙ ap is_some (sym (has key)) ∙ copied_some (value_of map key))

  -- a name that stands again is that of two types
  pub again-twice : (t : MetaTypeOf S C) (rest : List (MetaTypeOf S C)) (n : List ℕ) → Some n ≡ repeated_name t ts → 2 ≤ count_by (is_named n) (ts ++ t ∷ rest)
  again-twice t rest n h =
      let two : 2 ≤ count_by (is_named n) (t ∷ ts) = twice ts t n h in
      let front : count_by (is_named n) (t ∷ ts) ≡ cond (is_named n t) 1 0 + count_by (is_named n) ts = sum_by-cons (λ y. cond (is_named n y) 1 0) t ts in
      let whole : count_by (is_named n) (ts ++ t ∷ rest) ≡ count_by (is_named n) ts + count_by (is_named n) (t ∷ rest) = sum_by-append (λ y. cond (is_named n y) 1 0) ts (t ∷ rest) in
      let back : count_by (is_named n) (t ∷ rest) ≡ cond (is_named n t) 1 0 + count_by (is_named n) rest = sum_by-cons (λ y. cond (is_named n y) 1 0) t rest in
      omega (arith, two, front, whole, back)

module _ {T : Type 0} (name_of : T → Option (List ℕ)) where
  -- no entry has the name of this one
  abbrev IsAlone : List T → Option (List ℕ) → Type 0
  IsAlone ts o = option_map_or (λ n. not (is_any_called name_of ts n)) o true ≡ true

  alone_first : (o : Option (List ℕ)) → IsAlone [] o
  alone_first None = refl
  alone_first (Some n) = refl

  alone_rest : (x : T) (xs : List T) (o : Option (List ℕ)) → IsAlone (x ∷ xs) o → IsAlone xs o
  alone_rest x xs None h = refl
  alone_rest x xs (Some n) h = ap not (or_parts (is_called name_of n x) (is_any_called name_of xs n) (not-true (is_any_called name_of (x ∷ xs) n) h)).1

  -- an entry has another name than the one before it
  named_apart : (x : T) (xs : List T) (k : List ℕ) (o : Option (List ℕ)) → name_of x ≡ Some k → IsAlone (x ∷ xs) o → option_map_or (λ n. bytes_eq n k) o false ≡ false
  named_apart x xs k None named h = refl
  named_apart x xs k (Some n) named h =
      bytes_eq-sym n k
      ∙ ap (λ p. option_map_or (λ q. bytes_eq q n) p false) (sym named)
      ∙ (or_parts (is_called name_of n x) (is_any_called name_of xs n) (not-true (is_any_called name_of (x ∷ xs) n) h)).0

  still_alone : (xs : List T) (t : T) (o : Option (List ℕ)) → ((k : List ℕ) → o ≡ Some k → is_called name_of k t ≡ false) → IsAlone xs o → IsAlone (xs ++ t ∷ []) o
  still_alone xs t None other h = refl
  still_alone xs t (Some k) other h =
      ap not (
      list_any-append (is_called name_of k) xs (t ∷ [])
      ∙ or_from (is_any_called name_of xs k) (is_called name_of k t || false) (not-true (is_any_called name_of xs k) h) (or_from (is_called name_of k t) false (other k refl) refl)
      )

  -- an entry whose name none has is added
  pub distinct-push : (xs : List T) (t : T) → are_distinct name_of xs ≡ true → IsAlone xs (name_of t) → are_distinct name_of (xs ++ t ∷ []) ≡ true
  distinct-push [] t h k = and_from (option_map_or (λ n. not (is_any_called name_of [] n)) (name_of t) true) true (alone_first (name_of t)) refl
  distinct-push (x ∷ xs) t h k =
      let parts = and_parts (option_map_or (λ n. not (is_any_called name_of xs n)) (name_of x) true) (are_distinct name_of xs) h in
      and_from (option_map_or (λ n. not (is_any_called name_of (xs ++ t ∷ []) n)) (name_of x) true) (are_distinct name_of (xs ++ t ∷ []))
      (still_alone xs t (name_of x) (λ q e. named_apart x xs q (name_of t) e k) parts.0)
      (distinct-push xs t parts.1 (alone_rest x xs (name_of t) k))
