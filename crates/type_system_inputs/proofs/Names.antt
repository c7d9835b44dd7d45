-- The names of the types of a list are different.
use Rattle.std.proofs.Common.{◌≡◌, ℕ, ◌<◌, ◌≤◌, List, [], ◌∷◌, Bool, true, false, ◌||◌, not, length, refl, sym, ap, arith, Option, None, Some, is_some, zero, suc, slice_get, ◌∙◌}
use Rattle.std.specs.List.{list_any}
use Rattle.std.specs.Option.{option_map_or}
use Rattle.std.specs.Str.{bytes_eq}
use Rattle.std.proofs.lemmas.Bool.{and_parts}
use Rattle.std.proofs.lemmas.Slice.Eq.{bytes_eq-Decides}
use Rattle.fragment_graph.proofs.Lists.{contains_at, get_some, none_some, same_some}
use Rattle.meta.specs.declared.kinds.MetaTypeOf.{MetaTypeOf}
use Rattle.meta.specs.Kinds.{name_of_meta}
use Rattle.schema_validation.specs.Named.{are_distinct, are_named, is_any_called, is_called}
use Rattle.schema_validation.proofs.Finds.{all-at}
use Rattle.schema_validation.proofs.KindLemmas.{first-alone}
use Rattle.type_system_inputs.specs.Graph.{name_at, type_name}
use Rattle.type_system_inputs.specs.Inputs.{IsNoLater}

or_right : (a b : Bool) → b ≡ true → (a || b) ≡ true
or_right true b h = refl
or_right false b h = h

any_at : {X : Type 0} (p : X → Bool) (xs : List X) (k : ℕ) (x : X) → slice_get xs k ≡ Some x → p x ≡ true → list_any p xs ≡ true
any_at p [] k x h e = absurd (none_some x h)
any_at p (y ∷ xs) zero x h e = ap (λ b. b || list_any p xs) (ap p (same_some y x h) ∙ e)
any_at p (y ∷ xs) (suc k) x h e = or_right (p y) (list_any p xs) (any_at p xs k x h e)

is_present : {A : Type 0} (o : Option A) → is_some o ≡ true → (x : A) × (o ≡ Some x)
is_present None h = cc
is_present (Some x) h = (x, refl)

module _ {S C : Type 0} where
  called : (t : MetaTypeOf S C) (n : List ℕ) → name_of_meta t ≡ Some n → is_called name_of_meta n t ≡ true
  called t n h = ap (λ o. option_map_or (λ m. bytes_eq m n) o false) h ∙ (bytes_eq-Decides n n).1 refl

  -- two places of one name are one
  pub same_place : (ts : List (MetaTypeOf S C)) (n : List ℕ) (v w : ℕ) (t u : MetaTypeOf S C) → are_distinct name_of_meta ts ≡ true
      → slice_get ts v ≡ Some t → slice_get ts w ≡ Some u → name_of_meta t ≡ Some n → name_of_meta u ≡ Some n → v ≡ w
  same_place [] n v w t u d at_v at_w is_t is_u = absurd (none_some t at_v)
  same_place (x ∷ ts) n zero zero t u d at_v at_w is_t is_u = refl
  same_place (x ∷ ts) n zero (suc w) t u d at_v at_w is_t is_u =
      let own : is_called name_of_meta n x ≡ true = ap (is_called name_of_meta n) (same_some x t at_v) ∙ called t n is_t in
      let none : is_any_called name_of_meta ts n ≡ false = first-alone name_of_meta x ts n d own in
      let some : is_any_called name_of_meta ts n ≡ true = any_at (is_called name_of_meta n) ts w u at_w (called u n is_u) in
      cc
  same_place (x ∷ ts) n (suc v) zero t u d at_v at_w is_t is_u =
      let own : is_called name_of_meta n x ≡ true = ap (is_called name_of_meta n) (same_some x u at_w) ∙ called u n is_u in
      let none : is_any_called name_of_meta ts n ≡ false = first-alone name_of_meta x ts n d own in
      let some : is_any_called name_of_meta ts n ≡ true = any_at (is_called name_of_meta n) ts v t at_v (called t n is_t) in
      cc
  same_place (x ∷ ts) n (suc v) (suc w) t u d at_v at_w is_t is_u =
      let rest : are_distinct name_of_meta ts ≡ true = (and_parts (option_map_or (λ q. not (is_any_called name_of_meta ts q)) (name_of_meta x) true) (are_distinct name_of_meta ts) d).1 in
      ap suc (same_place ts n v w t u rest at_v at_w is_t is_u)

  module _ (ts : List (MetaTypeOf S C)) (named : are_named name_of_meta ts ≡ true) where
    -- the type at a place has the name of the place
    pub named_at : (v : ℕ) (t : MetaTypeOf S C) → slice_get ts v ≡ Some t → name_of_meta t ≡ Some (name_at ts v)
    named_at v t h =
        let some = is_present (name_of_meta t) (all-at (λ (u : MetaTypeOf S C). is_some (name_of_meta u)) ts t named (contains_at ts v t h)) in
        some.1
        ∙ ap Some (sym (ap (λ o. option_map_or type_name o []) h ∙ ap (λ o. option_map_or (λ (n : List ℕ). n) o []) some.1))

    -- and a type that has a name gives it to its place
    pub place_named : (v : ℕ) (t : MetaTypeOf S C) (n : List ℕ) → slice_get ts v ≡ Some t → name_of_meta t ≡ Some n → name_at ts v ≡ n
    place_named v t n h is = same_some (name_at ts v) n (sym (named_at v t h) ∙ is)

    module _ (distinct : are_distinct name_of_meta ts ≡ true) where
      pub one_place : (v w : ℕ) → v < length ts → w < length ts → name_at ts v ≡ name_at ts w → v ≡ w
      one_place v w inside_v inside_w same =
          let t = get_some ts v inside_v in
          let u = get_some ts w inside_w in
          same_place ts (name_at ts w) v w t.0 u.0 distinct t.1 u.1 (named_at v t.0 t.1 ∙ ap Some same) (named_at w u.0 u.1)

      -- places and their names have one order
      pub no_later : (v w : ℕ) → v < length ts → w < length ts → v ≤ w → IsNoLater ts (name_at ts v) (name_at ts w)
      no_later v w inside_v inside_w le = λ i j at_i at_j.
          let t = get_some ts v inside_v in
          let u = get_some ts w inside_w in
          let first : i ≡ v = same_place ts (name_at ts v) i v at_i.0 t.0 distinct at_i.1 t.1 at_i.2 (named_at v t.0 t.1) in
          let second : j ≡ w = same_place ts (name_at ts w) j w at_j.0 u.0 distinct at_j.1 u.1 at_j.2 (named_at w u.0 u.1) in
          omega (arith, le, first, second)
