-- In a list of distinct names, what is found by name decides which kinds a name has.
use Rattle.std.proofs.Common.{◌≡◌, ℕ, List, [], ◌∷◌, Bool, true, false, cond, not, ◌&&◌, ◌||◌, Option, Some, None, refl, ap, subst, ◌∙◌}
use Rattle.std.specs.Prelude.{find}
use Rattle.std.specs.List.{list_any}
use Rattle.std.specs.Option.{option_map_or}
use Rattle.std.specs.Str.{bytes_eq}
use Rattle.std.proofs.Math.Bool.{or-false}
use Rattle.std.proofs.lemmas.Bool.{and_parts, or_parts, or_from}
use Rattle.std.proofs.lemmas.Slice.Eq.{bytes_eq-Decides}
use Rattle.schema_validation.specs.Named.{is_called, is_any_called, are_distinct}
use Rattle.schema_validation.proofs.Finds.{not-true}

module _ {T : Type 0} (name_of : T → Option (List ℕ)) where
  alone_at : (o : Option (List ℕ)) (ts : List T) (n : List ℕ) → option_map_or (λ k. not (is_any_called name_of ts k)) o true ≡ true → option_map_or (λ k. bytes_eq k n) o false ≡ true → is_any_called name_of ts n ≡ false
  alone_at None ts n h k = cc
  alone_at (Some q) ts n h k =
      let same : q ≡ n = (bytes_eq-Decides q n).0 k in
      subst (λ w. is_any_called name_of ts w ≡ false) same (not-true (is_any_called name_of ts q) h)

  -- no other entry has the first one's name
  pub first-alone : (t : T) (ts : List T) (n : List ℕ) → are_distinct name_of (t ∷ ts) ≡ true → is_called name_of n t ≡ true → is_any_called name_of ts n ≡ false
  first-alone t ts n h k =
      alone_at (name_of t) ts n (and_parts (option_map_or (λ q. not (is_any_called name_of ts q)) (name_of t) true) (are_distinct name_of ts) h).0 k

-- a type of a kind is listed where the type of the name has it
module _ {T : Type 0} (name_of : T → Option (List ℕ)) (kind : T → Bool) (n : List ℕ) where
  none-of-kind : (ts : List T) → is_any_called name_of ts n ≡ false → list_any (λ t. is_called name_of n t && kind t) ts ≡ false
  none-of-kind [] h = refl
  none-of-kind (t ∷ ts) h =
      let parts = or_parts (is_called name_of n t) (is_any_called name_of ts n) h in
      or_from (is_called name_of n t && kind t) (list_any (λ u. is_called name_of n u && kind u) ts) (ap (λ b. b && kind t) parts.0) (none-of-kind ts parts.1)

  kind_step : (b : Bool) (t : T) (ts : List T) → is_called name_of n t ≡ b → are_distinct name_of (t ∷ ts) ≡ true → list_any (λ u. is_called name_of n u && kind u) ts ≡ option_map_or kind (find (is_called name_of n) ts) false
      → ((b && kind t) || list_any (λ u. is_called name_of n u && kind u) ts) ≡ option_map_or kind (cond b (Some t) (find (is_called name_of n) ts)) false
  kind_step true t ts e h rest = ap (λ r. kind t || r) (none-of-kind ts (first-alone name_of t ts n h e)) ∙ or-false (kind t)
  kind_step false t ts e h rest = rest

  pub kind-found : (ts : List T) → are_distinct name_of ts ≡ true → list_any (λ t. is_called name_of n t && kind t) ts ≡ option_map_or kind (find (is_called name_of n) ts) false
  kind-found [] h = refl
  kind-found (t ∷ ts) h =
      kind_step (is_called name_of n t) t ts refl h (kind-found ts (and_parts (option_map_or (λ k. not (is_any_called name_of ts k)) (name_of t) true) (are_distinct name_of ts) h).1)
