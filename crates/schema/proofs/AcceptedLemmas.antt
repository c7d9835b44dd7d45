-- What an accepted list of types has.
use Rattle.std.proofs.Common.{◌≡◌, ℕ, ◌+◌, ◌≤◌, List, [], ◌∷◌, Bool, true, false, cond, not, ◌&&◌, ◌||◌, Option, Some, is_some, lit≤, string_bytes, refl, ap, ◌∙◌, arith}
use Rattle.std.specs.Prelude.{find, count_by, Result, Ok, Err, IfErr, OnOk, IsOkUnless}
use Rattle.std.specs.List.{list_any}
use Rattle.std.specs.Option.{option_map_or}
use Rattle.std.proofs.lemmas.Bool.{and_parts, or_parts}
use Rattle.std.proofs.lemmas.List.Sums.{sum_by-cons}
use Rattle.schema_validation.specs.declared.error.SchemaError.{SchemaError}
use Rattle.schema_validation.specs.declared.error.SchemaError.TheVariants as e
use Rattle.meta.specs.declared.kinds.MetaTypeOf.{MetaTypeOf}
use Rattle.schema_validation.specs.Accepted.{Roots, root_names, IsAccepted, IsTrueRefusal, is_named, is_listed, is_object_listed, is_input_listed}
use Rattle.meta.specs.Kinds.{name_of_meta}
use Rattle.schema_validation.specs.Named.{is_called, is_any_called, are_distinct}
use Rattle.schema_validation.specs.Names.{all_names, all_inputs, all_members}
use Rattle.schema_validation.proofs.Finds.{all-at}
use Rattle.schema_validation.proofs.KindLemmas.{first-alone}

false_step : (b : Bool) (n : ℕ) → b ≡ false → n ≡ 0 → cond b 1 0 + n ≡ 0
false_step true n h k = cc
false_step false n h k = omega (arith, k)

none-count : {A : Type 0} (p : A → Bool) (xs : List A) → list_any p xs ≡ false → count_by p xs ≡ 0
none-count p [] h = refl
none-count p (x ∷ xs) h =
    let parts = or_parts (p x) (list_any p xs) h in
    sum_by-cons (λ y. cond (p y) 1 0) x xs ∙ false_step (p x) (count_by p xs) parts.0 (none-count p xs parts.1)

one_step : (b : Bool) (n : ℕ) → (b ≡ true → n ≡ 0) → n ≤ 1 → cond b 1 0 + n ≤ 1
one_step true n h k = let none : n ≡ 0 = h refl in omega (arith, none)
one_step false n h k = omega (arith, k)

module _ {T : Type 0} (name_of : T → Option (List ℕ)) where
  rest-distinct : (t : T) (ts : List T) → are_distinct name_of (t ∷ ts) ≡ true → are_distinct name_of ts ≡ true
  rest-distinct t ts h = (and_parts (option_map_or (λ q. not (is_any_called name_of ts q)) (name_of t) true) (are_distinct name_of ts) h).1

  -- at most one entry has a name
  pub at-most-one : (ts : List T) (n : List ℕ) → are_distinct name_of ts ≡ true → count_by (is_called name_of n) ts ≤ 1
  at-most-one [] n h = lit≤ tt
  at-most-one (t ∷ ts) n h =
      let more : count_by (is_called name_of n) (t ∷ ts) ≡ cond (is_called name_of n t) 1 0 + count_by (is_called name_of n) ts = sum_by-cons (λ y. cond (is_called name_of n y) 1 0) t ts in
      let few : cond (is_called name_of n t) 1 0 + count_by (is_called name_of n) ts ≤ 1 =
      one_step (is_called name_of n t) (count_by (is_called name_of n) ts) (λ k. none-count (is_called name_of n) ts (first-alone name_of t ts n h k)) (at-most-one ts n (rest-distinct t ts h)) in
      omega (arith, more, few)

  -- what is found by a name, where an entry of the name and the kind is there
  module _ (kind : T → Bool) (n : List ℕ) where
    any-weaker : (ts : List T) → list_any (λ t. is_called name_of n t && kind t) ts ≡ true → list_any (is_called name_of n) ts ≡ true
    any-weaker [] h = cc
    any-weaker (t ∷ ts) h = step (is_called name_of n t) (kind t) (list_any (λ u. is_called name_of n u && kind u) ts) (list_any (is_called name_of n) ts) h (any-weaker ts)
      where
        step : (b k r s : Bool) → ((b && k) || r) ≡ true → (r ≡ true → s ≡ true) → (b || s) ≡ true
        step true k r s e f = refl
        step false k r s e f = f e

    kind_step : (b k r : Bool) → ((b && k) || r) ≡ true → b ≡ true → r ≡ false → k ≡ true
    kind_step true true r e f g = refl
    kind_step true false r e f g = cc
    kind_step false k r e f g = cc

    weaker_false : (b r : Bool) → (r ≡ true → b ≡ true) → b ≡ false → r ≡ false
    weaker_false b true f h = let g : b ≡ true = f refl in cc
    weaker_false b false f h = refl

    skip_step : (b k r : Bool) → ((b && k) || r) ≡ true → b ≡ false → r ≡ true
    skip_step true k r e f = cc
    skip_step false k r e f = e

    pub find-kind : (ts : List T) → are_distinct name_of ts ≡ true → list_any (λ t. is_called name_of n t && kind t) ts ≡ true → (t : T) × (find (is_called name_of n) ts ≡ Some t) × (kind t ≡ true)
    find-kind [] h k = cc
    find-kind (t ∷ ts) h k = found (is_called name_of n t) refl (λ q. find-kind ts (rest-distinct t ts h) (skip_step (is_called name_of n t) (kind t) (list_any (λ u. is_called name_of n u && kind u) ts) k q))
      where
        found : (b : Bool) → is_called name_of n t ≡ b → (is_called name_of n t ≡ false → (u : T) × (find (is_called name_of n) ts ≡ Some u) × (kind u ≡ true)) → (u : T) × (cond (is_called name_of n t) (Some t) (find (is_called name_of n) ts) ≡ Some u) × (kind u ≡ true)
        found true q rest =
            let others : list_any (λ u. is_called name_of n u && kind u) ts ≡ false = weaker_false (list_any (is_called name_of n) ts) (list_any (λ u. is_called name_of n u && kind u) ts) (any-weaker ts) (first-alone name_of t ts n h q) in
            (t, ap (λ b. cond b (Some t) (find (is_called name_of n) ts)) q, kind_step (is_called name_of n t) (kind t) (list_any (λ u. is_called name_of n u && kind u) ts) k q others)
        found false q rest =
            let r = rest q in
            (r.0, ap (λ b. cond b (Some t) (find (is_called name_of n) ts)) q ∙ r.1, r.2)

  find_step : (b : Bool) (x : T) (r : Option T) (s : Bool) → (b || s) ≡ true → (s ≡ true → is_some r ≡ true) → is_some (cond b (Some x) r) ≡ true
  find_step true x r s h k = refl
  find_step false x r s h k = k h

  -- a name that is there is found
  pub find-called : (ts : List T) (n : List ℕ) → is_any_called name_of ts n ≡ true → is_some (find (is_called name_of n) ts) ≡ true
  find-called [] n h = cc
  find-called (t ∷ ts) n h = find_step (is_called name_of n t) t (find (is_called name_of n) ts) (list_any (is_called name_of n) ts) h (find-called ts n)

-- only out of memory applies to an accepted list
pub accepted-memory : {S C : Type 0} (roots : Roots) (ts : List (MetaTypeOf S C)) → IsAccepted roots ts → (r : SchemaError) → IsTrueRefusal roots ts r → r ≡ e.OutOfMemory
accepted-memory roots ts a e.OutOfMemory h = refl
accepted-memory roots ts a (e.MissingRoot n) h = let listed : is_listed ts (string_bytes n) ≡ true = all-at (is_listed ts) (root_names roots) (string_bytes n) a.roots_listed h.0 in let not_listed : is_listed ts (string_bytes n) ≡ false = h.1 in cc
accepted-memory roots ts a e.QueryNotObject h = let object : is_object_listed ts roots.query ≡ true = a.query_object in let none : is_object_listed ts roots.query ≡ false = h.1 in cc
accepted-memory roots ts a e.UnnamedType h = let named = a.named in cc
accepted-memory roots ts a (e.RepeatedType n) h = let once : count_by (is_named (string_bytes n)) ts ≤ 1 = at-most-one name_of_meta ts (string_bytes n) a.distinct in absurd (omega (arith, once, h))
accepted-memory roots ts a (e.UnknownType n) h = let listed : is_listed ts (string_bytes n) ≡ true = all-at (is_listed ts) (all_names ts) (string_bytes n) a.names_listed h.0 in let not_listed : is_listed ts (string_bytes n) ≡ false = h.1 in cc
accepted-memory roots ts a (e.UnionMemberNotObject n) h = let object : is_object_listed ts (string_bytes n) ≡ true = all-at (is_object_listed ts) (all_members ts) (string_bytes n) a.members_objects h.0 in let none : is_object_listed ts (string_bytes n) ≡ false = h.2 in cc
accepted-memory roots ts a (e.NotInputType n) h = let input : is_input_listed ts (string_bytes n) ≡ true = all-at (is_input_listed ts) (all_inputs ts) (string_bytes n) a.inputs_input h.0 in let none : is_input_listed ts (string_bytes n) ≡ false = h.2 in cc

pub refused-memory : {T S C : Type 0} (roots : Roots) (ts : List (MetaTypeOf S C)) (r : Result T SchemaError) → IfErr r (IsTrueRefusal roots ts) → IsAccepted roots ts → IsOkUnless r e.OutOfMemory
refused-memory roots ts (Ok x) h a = tt
refused-memory roots ts (Err x) h a = accepted-memory roots ts a x h

pub ok-memory : {T S C : Type 0} (roots : Roots) (ts : List (MetaTypeOf S C)) (r : Result T SchemaError) → OnOk r (IsAccepted roots ts) → OnOk r ((x : SchemaError) → IsTrueRefusal roots ts x → x ≡ e.OutOfMemory)
ok-memory roots ts (Ok t) a = accepted-memory roots ts a
ok-memory roots ts (Err t) a = tt
