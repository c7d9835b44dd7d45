-- The last fragment of a name, by the place that is kept for it.
use Rattle.std.proofs.Common.{◌≡◌, ◌≤◌, ℕ, suc, zero, List, [], ◌∷◌, Bool, true, false, Option, Some, None, if◌then◌else◌, slice_get, option_and_then, sym, ap, ◌∙◌, refl, subst, arith}
use Rattle.std.specs.Option.{option_or}
use Rattle.std.specs.Str.{bytes_eq}
use Rattle.language_types.specs.Position.{Placed}
use Rattle.language.specs.declared.tree.Definition.{Definition}
use Rattle.language.specs.declared.tree.Definition.TheVariants as definition
use Rattle.language.specs.declared.tree.Fragment.{Fragment}
use Rattle.fragment_graph.specs.Numbers.{Defines, IsNamed}
use Rattle.merge_graph.specs.Definitions.{AreLast, IsLast}
use Rattle.rules_specified.specs.Collected.{fragment_if_named, last_fragment}
use Rattle.rules_specified.specs.Collecting.{fragment_in}
use Rattle.std.specs.List.{Contains}
use Rattle.std.proofs.lemmas.Option.{slice_get_within, get_or_from_slice_get}
use Rattle.language_values.proofs.Members.{bytes_eq-refl, bytes_eq-same}

module _ {S : Type 0} (name : List ℕ) where
  abbrev Only : Bool → Placed (Fragment S) → Option (Placed (Fragment S))
  Only b f = if b then Some f else None

  only_none : (b : Bool) (f : Placed (Fragment S)) → (b ≡ true → ⊥) → Only b f ≡ None
  only_none true f never = absurd (never refl)
  only_none false f never = refl

  is_named : (f : Placed (Fragment S)) → f.item.name.item.now ≡ name → fragment_if_named name (definition.Fragment f) ≡ Some f
  is_named f e = ap (λ b. Only b f) (subst (λ z. bytes_eq z name ≡ true) (sym e) (bytes_eq-refl name))

  has_none : (d : Definition S) → (IsNamed name d → ⊥) → fragment_if_named name d ≡ None
  has_none (definition.Operation o) never = refl
  has_none (definition.Fragment f) never = only_none _ f (λ e. never (bytes_eq-same f.item.name.item.now name e))

  -- no definition at any place has the name
  abbrev Nowhere : List (Definition S) → Type 0
  Nowhere ds = (k : ℕ) (d : Definition S) → slice_get ds k ≡ Some d → IsNamed name d → ⊥

  none_last : (ds : List (Definition S)) → Nowhere ds → last_fragment ds name ≡ None
  none_last [] never = refl
  none_last (d ∷ ds) never =
      ap (λ z. option_or z (fragment_if_named name d)) (none_last ds (λ k e at. never (suc k) e at)) ∙ has_none d (never 0 d refl)

  pub undefined_last : (ds : List (Definition S)) → (Defines ds name → ⊥) → last_fragment ds name ≡ None
  undefined_last ds never = none_last ds (λ k d at named. never (d, (k, slice_get_within ds k d at, get_or_from_slice_get ds k d d at), named))

  at_last : (ds : List (Definition S)) (place : ℕ) (f : Placed (Fragment S)) → slice_get ds place ≡ Some (definition.Fragment f)
      → f.item.name.item.now ≡ name → ((k : ℕ) (d : Definition S) → slice_get ds k ≡ Some d → IsNamed name d → k ≤ place) → last_fragment ds name ≡ Some f
  at_last [] place f at e last = cc
  at_last (d ∷ ds) zero f at e last =
      let first : d ≡ definition.Fragment f = cc in
      let later = none_last ds (λ k x there named. absurd (omega (arith, last (suc k) x there named))) in
      ap (λ z. option_or z (fragment_if_named name d)) later ∙ ap (λ z. fragment_if_named name z) first ∙ is_named f e
  at_last (d ∷ ds) (suc place) f at e last =
      ap (λ z. option_or z (fragment_if_named name d)) (at_last ds place f at e (λ k x there named. omega (arith, last (suc k) x there named)))

  -- the definition at the last place is the last fragment
  pub placed_last : (ds : List (Definition S)) (place : ℕ) (f : Placed (Fragment S)) (l : IsLast ds name place)
      → slice_get ds place ≡ Some (definition.Fragment f) → last_fragment ds name ≡ Some f
  placed_last ds place f l at =
      let stands = l.stands in
      let same : l.is ≡ definition.Fragment f = cc in
      at_last ds place f at (subst (IsNamed name) same l.named) l.last

  -- a definition where a fragment is the last of the name
  fragment_of_last : (ds : List (Definition S)) (place : ℕ) (l : IsLast ds name place) (d : Definition S) → l.is ≡ d → fragment_in (slice_get ds place) ≡ last_fragment ds name
  fragment_of_last ds place l (definition.Operation o) e = absurd (subst (IsNamed name) e l.named)
  fragment_of_last ds place l (definition.Fragment f) e =
      let at : slice_get ds place ≡ Some (definition.Fragment f) = l.stands ∙ ap Some e in
      ap fragment_in at ∙ sym (placed_last ds place f l at)

  -- what stands at the kept place is the last fragment
  pub last_by_place : (ds : List (Definition S)) (place_of : List ℕ → Option ℕ) (o : Option ℕ) → AreLast ds place_of → place_of name ≡ o
      → option_and_then (λ place. fragment_in (slice_get ds place)) o ≡ last_fragment ds name
  last_by_place ds place_of None a e = sym (undefined_last ds (a.none_other name e))
  last_by_place ds place_of (Some place) a e = let l = a.each name place e in fragment_of_last ds place l l.is refl
