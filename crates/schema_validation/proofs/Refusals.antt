-- What a name that is found says of a list of types, and what it says where none is found.
use Rattle.std.proofs.Common.{◌≡◌, ℕ, ◌+◌, ◌≤◌, List, [], ◌∷◌, ◌++◌, Bool, true, false, not, ◌||◌, cond, codes, Option, Some, None, map, refl, ap, subst, sym, ◌∙◌, arith}
use Rattle.std.specs.Prelude.{find, Contains, count_by}
use Rattle.std.specs.List.{flat_map, list_any, list_all}
use Rattle.std.specs.Option.{option_map_or}
use Rattle.std.specs.Str.{bytes_eq}
use Rattle.std.proofs.lemmas.Bool.{and_parts, and_from}
use Rattle.std.proofs.lemmas.List.Folds.{list_all-append}
use Rattle.std.proofs.lemmas.List.Sums.{sum_by-cons}
use Rattle.std.proofs.lemmas.Slice.Eq.{bytes_eq-Decides}
use Rattle.language_types.specs.Types.{shape}
use Rattle.meta.specs.declared.fields.Field.{Field}
use Rattle.meta.specs.declared.kinds.MetaTypeOf.{MetaTypeOf}
use Rattle.schema_validation.specs.Accepted.{is_named, is_listed}
use Rattle.meta.specs.Kinds.{name_of_meta, fields_of, input_fields_of}
use Rattle.schema_validation.specs.Names.{argument_type, field_inputs, field_names, inputs_in, names_in, members_of, interfaces_of, added_inputs, added_names, all_names, all_inputs, all_members}
use Rattle.schema_validation.specs.Repeated.{listed_again, repeated_name}
use Rattle.schema_validation.proofs.Finds.{found-passes, found-among, not-true}

-- a name that is found to fail a test, at another spelling of it
pub failing-among : (test : List ℕ → Bool) (names : List (List ℕ)) (n k : List ℕ) → k ≡ n → Some n ≡ find (λ x. not (test x)) names → Contains names k
failing-among test names n k e h = subst (Contains names) (sym e) (found-among (λ x. not (test x)) names n h)

pub failing-test : (test : List ℕ → Bool) (names : List (List ℕ)) (n k : List ℕ) → k ≡ n → Some n ≡ find (λ x. not (test x)) names → test k ≡ false
failing-test test names n k e h = ap test e ∙ not-true (test n) (found-passes (λ x. not (test x)) names n h)

all-parts : {X A : Type 0} (p : A → Bool) (f g : X → List A) → ((x : X) → list_all p (f x) ≡ true → list_all p (g x) ≡ true) → (xs : List X) → list_all p (flat_map f xs) ≡ true → list_all p (flat_map g xs) ≡ true
all-parts p f g h [] e = refl
all-parts p f g h (x ∷ xs) e =
    let parts = and_parts (list_all p (f x)) (list_all p (flat_map f xs)) (sym (list_all-append p (f x) (flat_map f xs)) ∙ e) in
    list_all-append p (g x) (flat_map g xs) ∙ and_from (list_all p (g x)) (list_all p (flat_map g xs)) (h x parts.0) (all-parts p f g h xs parts.1)

pub all-front : {A : Type 0} (p : A → Bool) (xs ys : List A) → list_all p (xs ++ ys) ≡ true → list_all p xs ≡ true
all-front p xs ys h = (and_parts (list_all p xs) (list_all p ys) (sym (list_all-append p xs ys) ∙ h)).0

pub all-back : {A : Type 0} (p : A → Bool) (xs ys : List A) → list_all p (xs ++ ys) ≡ true → list_all p ys ≡ true
all-back p xs ys h = (and_parts (list_all p xs) (list_all p ys) (sym (list_all-append p xs ys) ∙ h)).1

pub all-joined : {A : Type 0} (p : A → Bool) (xs ys : List A) → list_all p xs ≡ true → list_all p ys ≡ true → list_all p (xs ++ ys) ≡ true
all-joined p xs ys h k = list_all-append p xs ys ∙ and_from (list_all p xs) (list_all p ys) h k

fields-inputs : {S : Type 0} (p : List ℕ → Bool) (f : Field S) → list_all p (field_names f) ≡ true → list_all p (field_inputs f) ≡ true
fields-inputs p f h = (and_parts (p (shape f.field_type).name) (list_all p (field_inputs f)) h).1

module _ {S C : Type 0} (p : List ℕ → Bool) where
  -- what a type's arguments and input fields name is among all that the type names
  inputs-in : (t : MetaTypeOf S C) → list_all p (names_in t) ≡ true → list_all p (inputs_in t) ≡ true
  inputs-in t h =
      let rest = all-back p (flat_map field_names (fields_of t)) (map argument_type (input_fields_of t) ++ (interfaces_of t ++ members_of t)) h in
      all-joined p (flat_map field_inputs (fields_of t)) (map argument_type (input_fields_of t))
      (all-parts p field_names field_inputs (fields-inputs p) (fields_of t) (all-front p (flat_map field_names (fields_of t)) (map argument_type (input_fields_of t) ++ (interfaces_of t ++ members_of t)) h))
      (all-front p (map argument_type (input_fields_of t)) (interfaces_of t ++ members_of t) rest)

  -- and so are a union's members
  members-in : (t : MetaTypeOf S C) → list_all p (names_in t) ≡ true → list_all p (members_of t) ≡ true
  members-in t h =
      let rest = all-back p (flat_map field_names (fields_of t)) (map argument_type (input_fields_of t) ++ (interfaces_of t ++ members_of t)) h in
      all-back p (interfaces_of t) (members_of t) (all-back p (map argument_type (input_fields_of t)) (interfaces_of t ++ members_of t) rest)

  pub all-inputs : (ts : List (MetaTypeOf S C)) → list_all p (all_names ts) ≡ true → list_all p (all_inputs ts) ≡ true
  all-inputs ts h =
      let added : list_all p added_names ≡ true = all-back p (flat_map names_in ts) added_names h in
      let after : list_all p (codes "__Type" ∷ added_inputs) ≡ true = (and_parts (p (codes "__Schema")) (list_all p (codes "__Type" ∷ added_inputs)) added).1 in
      all-joined p (flat_map inputs_in ts) added_inputs
      (all-parts p names_in inputs_in inputs-in ts (all-front p (flat_map names_in ts) added_names h))
      (and_parts (p (codes "__Type")) (list_all p added_inputs) after).1

  pub all-members : (ts : List (MetaTypeOf S C)) → list_all p (all_names ts) ≡ true → list_all p (all_members ts) ≡ true
  all-members ts h = all-parts p names_in members_of members-in ts (all-front p (flat_map names_in ts) added_names h)

bytes_eq-refl : (n : List ℕ) → bytes_eq n n ≡ true
bytes_eq-refl n = (bytes_eq-Decides n n).1 refl

pub any-count : {A : Type 0} (p : A → Bool) (xs : List A) → list_any p xs ≡ true → 1 ≤ count_by p xs
any-count p [] h = cc
any-count p (x ∷ xs) h = rw (sum_by-cons (λ y. cond (p y) 1 0) x xs) (step (p x) (list_any p xs) (count_by p xs) h (any-count p xs))
  where
    step : (b t : Bool) (n : ℕ) → (b || t) ≡ true → (t ≡ true → 1 ≤ n) → 1 ≤ cond b 1 0 + n
    step true t n e k = omega arith
    step false t n e k = let more : 1 ≤ n = k e in omega arith

module _ {S C : Type 0} (ts : List (MetaTypeOf S C)) where
  again_step : (b : Bool) (n k : List ℕ) → is_listed ts k ≡ b → Some n ≡ cond b (Some k) None → (bytes_eq k n ≡ true) × (is_listed ts n ≡ true)
  again_step true n k e h = let same : n ≡ k = cc in (subst (λ w. bytes_eq k w ≡ true) (sym same) (bytes_eq-refl k), subst (λ w. is_listed ts w ≡ true) (sym same) e)
  again_step false n k e h = cc

  again-Some : (o : Option (List ℕ)) (n : List ℕ) → Some n ≡ listed_again ts o → (option_map_or (λ k. bytes_eq k n) o false ≡ true) × (is_listed ts n ≡ true)
  again-Some None n h = cc
  again-Some (Some k) n h = again_step (is_listed ts k) n k refl h

  alone_step : (b : Bool) (k : List ℕ) → None ≡ cond b (Some k) None → not b ≡ true
  alone_step true k h = cc
  alone_step false k h = refl

  again-None : (o : Option (List ℕ)) → None ≡ listed_again ts o → option_map_or (λ n. not (is_listed ts n)) o true ≡ true
  again-None None h = refl
  again-None (Some k) h = alone_step (is_listed ts k) k h

  -- a name that occurs again further on occurs twice
  pub twice : (t : MetaTypeOf S C) (n : List ℕ) → Some n ≡ repeated_name t ts → 2 ≤ count_by (is_named n) (t ∷ ts)
  twice t n h =
      let both = again-Some (name_of_meta t) n h in
      let more : 1 ≤ count_by (is_named n) ts = any-count (is_named n) ts both.1 in
      let here : count_by (is_named n) (t ∷ ts) ≡ 1 + count_by (is_named n) ts = sum_by-cons (λ y. cond (is_named n y) 1 0) t ts ∙ ap (λ b. cond b 1 0 + count_by (is_named n) ts) both.0 in
      omega (arith, here, more)

  pub alone : (t : MetaTypeOf S C) → None ≡ repeated_name t ts → option_map_or (λ n. not (is_listed ts n)) (name_of_meta t) true ≡ true
  alone t h = again-None (name_of_meta t) h
