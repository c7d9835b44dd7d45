-- The places of names, as they are noted definition by definition.
use Rattle.std.proofs.Common.{◌≡◌, ℕ, ◌+◌, ◌<◌, List, [], ◌∷◌, ◌++◌, Bool, arith, get_or, take, true, false, length, refl, sym, subst, ap, Option, None, Some, inl, inr, ◌⊎◌, if◌then◌else◌, ◌∙◌}
use Rattle.std.specs.Str.{bytes_eq}
use Rattle.std.proofs.lemmas.List.{length-take-le, take_more}
use Rattle.std.proofs.lemmas.Option.{slice_get_within}
use Rattle.std.proofs.lemmas.Slice.Eq.{bytes_eq-Decides}
use Rattle.fragment_graph.proofs.Lists.{get_end, get_more, get_snoc, none_some, same_some}
use Rattle.graphql_reader.specs.declared.type_system.TypeSystemDefinition.{TypeSystemDefinition}
use Rattle.name_tables.specs.Adding.{or_else}
use Rattle.name_tables.specs.declared.map.NameMap.{NameMap}
use Rattle.name_tables.specs.Maps.{entries_of, index_of, value_at, value_of}
use Rattle.sdl_directive_circles.specs.declared.names.NameOf.TheVariants as n
use Rattle.sdl_directive_circles.specs.declared.places.Places.{Places}
use Rattle.sdl_directive_circles.specs.Graph.{AreWithin, HasPlaces, IsAt, IsNoted, IsNotedAt, place_of}
use Rattle.sdl_directive_circles.specs.Uses.{Name, defined_name}

unvalued : (m : NameMap ℕ) (x : List ℕ) → index_of m x ≡ None → value_of m x ≡ None
unvalued m x none = ap (λ (o : Option ℕ). value_at (entries_of m) o) none

pub no_places : (places : Places) → ((x : List ℕ) → index_of places.directives x ≡ None) → ((x : List ℕ) → index_of places.types x ≡ None)
    → HasPlaces [] places
no_places places directives types = record {
  real = λ a v h. absurd (none_some v (sym (unplaced a) ∙ h));
  whole = λ a v at. absurd (none_some at.0 at.1);
}
  where
    unplaced : (a : Name) → place_of places a ≡ None
    unplaced (n.Directive x) = unvalued places.directives x (directives x)
    unplaced (n.Type x) = unvalued places.types x (types x)

-- a name is noted in one of the maps
abbrev pub Notes : List ℕ → ℕ → NameMap ℕ → NameMap ℕ → Type 0
Notes own place old new =
    (other : List ℕ) → value_of new other ≡ or_else (value_of old other) (if bytes_eq own other then Some place else None)

module _ (own : List ℕ) (place : ℕ) (old new : NameMap ℕ) (noted : Notes own place old new) where
  note_real : (x : List ℕ) (v : ℕ) → value_of new x ≡ Some v → (value_of old x ≡ Some v) ⊎ ((v ≡ place) × (x ≡ own))
  note_real x v h = step (value_of old x) (bytes_eq own x) refl refl (sym (noted x) ∙ h)
    where
      step : (o : Option ℕ) (b : Bool) → value_of old x ≡ o → bytes_eq own x ≡ b → or_else o (if b then Some place else None) ≡ Some v
          → (value_of old x ≡ Some v) ⊎ ((v ≡ place) × (x ≡ own))
      step (Some w) b is test e = inl (is ∙ e)
      step None true is test e = inr (sym (same_some place v e), sym ((bytes_eq-Decides own x).0 test))
      step None false is test e = absurd (none_some v e)

  note_kept : (x : List ℕ) (v : ℕ) → value_of old x ≡ Some v → value_of new x ≡ Some v
  note_kept x v h = noted x ∙ ap (λ (o : Option ℕ). or_else o (if bytes_eq own x then Some place else None)) h

  note_own : (v : ℕ) × (value_of new own ≡ Some v)
  note_own = step (value_of old own) refl
    where
      step : (o : Option ℕ) → value_of old own ≡ o → (v : ℕ) × (value_of new own ≡ Some v)
      step (Some w) is = (w, note_kept own w is)
      step None is = (
        place,
        noted own
            ∙ ap (λ (o : Option ℕ). or_else o (if bytes_eq own own then Some place else None)) is
            ∙ ap (λ (b : Bool). if b then Some place else None) ((bytes_eq-Decides own own).1 refl),
      )

module _ (own : List ℕ) (place : ℕ) (old new : Places) where
  pub directive_noted : Notes own place old.directives new.directives → new.types ≡ old.types
      → IsNotedAt (n.Directive own) place old new
  directive_noted noted same = record { real = real; kept = kept; noted = note_own own place old.directives new.directives noted }
    where
      real : (b : Name) (v : ℕ) → place_of new b ≡ Some v → (place_of old b ≡ Some v) ⊎ ((v ≡ place) × (b ≡ n.Directive own))
      real (n.Directive x) v h = elim (note_real own place old.directives new.directives noted x v h) [
        | inl was ↦ inl was
        | inr e ↦ inr (e.0, ap (λ (y : List ℕ). n.Directive y) e.1)
      ]
      real (n.Type x) v h = inl (subst (λ (m : NameMap ℕ). value_of m x ≡ Some v) same h)

      kept : (b : Name) (v : ℕ) → place_of old b ≡ Some v → place_of new b ≡ Some v
      kept (n.Directive x) v h = note_kept own place old.directives new.directives noted x v h
      kept (n.Type x) v h = subst (λ (m : NameMap ℕ). value_of m x ≡ Some v) (sym same) h

  pub type_noted : Notes own place old.types new.types → new.directives ≡ old.directives
      → IsNotedAt (n.Type own) place old new
  type_noted noted same = record { real = real; kept = kept; noted = note_own own place old.types new.types noted }
    where
      real : (b : Name) (v : ℕ) → place_of new b ≡ Some v → (place_of old b ≡ Some v) ⊎ ((v ≡ place) × (b ≡ n.Type own))
      real (n.Directive x) v h = inl (subst (λ (m : NameMap ℕ). value_of m x ≡ Some v) same h)
      real (n.Type x) v h = elim (note_real own place old.types new.types noted x v h) [
        | inl was ↦ inl was
        | inr e ↦ inr (e.0, ap (λ (y : List ℕ). n.Type y) e.1)
      ]

      kept : (b : Name) (v : ℕ) → place_of old b ≡ Some v → place_of new b ≡ Some v
      kept (n.Directive x) v h = subst (λ (m : NameMap ℕ). value_of m x ≡ Some v) (sym same) h
      kept (n.Type x) v h = note_kept own place old.types new.types noted x v h

kept_at : (xs : List TypeSystemDefinition) (x : TypeSystemDefinition) (a : Name) (v : ℕ) → IsAt xs a v → IsAt (xs ++ x ∷ []) a v
kept_at xs x a v at = (at.0, get_more xs (x ∷ []) v at.0 at.1, at.2)

-- the next definition of a list
places_more : (xs : List TypeSystemDefinition) (x : TypeSystemDefinition) (old new : Places) → HasPlaces xs old → (o : Option Name)
    → defined_name x ≡ o → IsNoted o (length xs) old new
    → HasPlaces (xs ++ x ∷ []) new
places_more xs x old new h None is same = subst (HasPlaces (xs ++ x ∷ [])) (sym same) (record {
  real = λ a v p. kept_at xs x a v (h.real a v p);
  whole = λ a v at. elim (get_snoc xs x v at.0 at.1) [
    | inl before ↦ h.whole a v (at.0, before, at.2)
    | inr last ↦ absurd (none_some a (sym is ∙ ap defined_name last.1 ∙ at.2))
  ];
})
places_more xs x old new h (Some b) is noted = record {
  real = λ a v p. elim (noted.real a v p) [
    | inl was ↦ kept_at xs x a v (h.real a v was)
    | inr e ↦ (x, get_end xs x v e.0, is ∙ ap (λ (c : Name). Some c) (sym e.1))
  ];
  whole = λ a v at. elim (get_snoc xs x v at.0 at.1) [
    | inl before ↦ let w = h.whole a v (at.0, before, at.2) in (w.0, noted.kept a w.0 w.1)
    | inr last ↦
        let same : b ≡ a = same_some b a (sym is ∙ ap defined_name last.1 ∙ at.2) in
        subst (λ (c : Name). (w : ℕ) × (place_of new c ≡ Some w)) same noted.noted
  ];
}

pub places_next : (xs : List TypeSystemDefinition) (i : ℕ) (x d : TypeSystemDefinition) (old new : Places) → i < length xs
    → x ≡ get_or xs i d
    → HasPlaces (take i xs) old → IsNoted (defined_name x) i old new → HasPlaces (take (i + 1) xs) new
places_next xs i x d old new room is h noted =
    let many : length (take i xs) ≡ i = length-take-le i xs (omega (arith, room)) in
    let more : take (i + 1) xs ≡ take i xs ++ x ∷ [] = take_more xs i d room ∙ ap (λ (y : TypeSystemDefinition). take i xs ++ y ∷ [])
    (sym is) in
    subst (λ (ys : List TypeSystemDefinition). HasPlaces ys new) (sym more)
    (places_more (take i xs) x old new h (defined_name x) refl (subst (λ (k : ℕ). IsNoted (defined_name x) k old new) (sym many) noted))

-- each place is the index of a definition
pub within : (xs : List TypeSystemDefinition) (places : Places) → HasPlaces xs places → AreWithin places (length xs)
within xs places h a v is = let at = h.real a v is in slice_get_within xs v at.0 at.1
