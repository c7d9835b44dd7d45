-- The places of input objects, as they are noted type by type.
use Rattle.std.proofs.Common.{◌≡◌, ℕ, ◌+◌, ◌<◌, List, [], ◌∷◌, ◌++◌, Bool, Bor, arith, get_or, take, string_bytes, true, false, length, refl, sym, subst, ap, Option, None, Some, inl, inr, ◌⊎◌, if◌then◌else◌, ◌∙◌}
use Rattle.std.specs.Str.{bytes_eq}
use Rattle.std.proofs.lemmas.List.{length-map, length-take-le, map_push, take_more}
use Rattle.std.proofs.lemmas.Slice.Eq.{bytes_eq-Decides}
use Rattle.fragment_graph.proofs.Lists.{get_end, get_more, get_snoc, none_some, same_some}
use Rattle.language_types.specs.References.{list_copied}
use Rattle.meta.specs.declared.kinds.MetaTypeOf.{MetaTypeOf}
use Rattle.meta.specs.declared.kinds.MetaTypeOf.TheVariants as m
use Rattle.meta.specs.declared.kinds.TypeKind.TheVariants as k
use Rattle.meta.specs.Kinds.{kind_of_meta, name_of_meta}
use Rattle.name_tables.specs.Adding.{or_else}
use Rattle.name_tables.specs.declared.map.NameMap.{NameMap}
use Rattle.name_tables.specs.Maps.{entries_of, index_of, value_at, value_of}
use Rattle.type_system_inputs.specs.Graph.{HasPlaces, IsInputAt, IsNoted}

module _ {S C : Type 0} where
  pub no_places : (places : NameMap ℕ) → ((n : List ℕ) → index_of places n ≡ None) → HasPlaces {S = S} {C = C} [] places
  no_places places none = record {
    real = λ n v h. absurd (none_some v (sym (ap (λ o. value_at (entries_of places) o) (none n)) ∙ h));
    whole = λ n v at. absurd (none_some at.object at.there);
  }

  kept_at : (ts : List (MetaTypeOf S C)) (t : MetaTypeOf S C) (n : List ℕ) (v : ℕ) → IsInputAt ts n v → IsInputAt (ts ++ t ∷ []) n v
  kept_at ts t n v at = record { object = at.object; there = get_more ts (t ∷ []) v at.object at.there; named = at.named; input = at.input }

  -- a type that is no input object
  pub places_other : (ts : List (MetaTypeOf S C)) (t : MetaTypeOf S C) (places : NameMap ℕ) → HasPlaces ts places → (kind_of_meta t ≡ Some k.InputObject → ⊥) → HasPlaces (ts ++ t ∷ []) places
  places_other ts t places h other = record {
    real = λ n v is. kept_at ts t n v (h.real n v is);
    whole = λ n v at. elim (get_snoc ts t v at.object at.there) [
      | inl before ↦ h.whole n v (record { object = at.object; there = before; named = at.named; input = at.input })
      | inr last ↦ absurd (other (ap kind_of_meta last.1 ∙ at.input))
    ];
  }

  module _ (ts : List (MetaTypeOf S C)) (t : MetaTypeOf S C) (own : List ℕ) (old new : NameMap ℕ) (h : HasPlaces ts old)
      (named : name_of_meta t ≡ Some own) (input : kind_of_meta t ≡ Some k.InputObject)
      (noted : (other : List ℕ) → value_of new other ≡ or_else (value_of old other) (if bytes_eq own other then Some (length ts) else None)) where
    real_noted : (n : List ℕ) (v : ℕ) (o : Option ℕ) (b : Bool) → value_of old n ≡ o → bytes_eq own n ≡ b → or_else o (if b then Some (length ts) else None) ≡ Some v → IsInputAt (ts ++ t ∷ []) n v
    real_noted n v (Some w) b is test e = kept_at ts t n v (h.real n v (is ∙ e))
    real_noted n v None true is test e =
        let place : length ts ≡ v = same_some (length ts) v e in
        record {
          object = t;
          there = get_end ts t v (sym place);
          named = named ∙ ap Some ((bytes_eq-Decides own n).0 test);
          input = input;
        }
    real_noted n v None false is test e = absurd (none_some v e)

    whole_noted : (n : List ℕ) (o : Option ℕ) (b : Bool) → value_of old n ≡ o → bytes_eq own n ≡ b → ((w : ℕ) × (value_of old n ≡ Some w)) ⊎ (own ≡ n)
        → (w : ℕ) × (or_else o (if b then Some (length ts) else None) ≡ Some w)
    whole_noted n (Some w) b is test e = (w, refl)
    whole_noted n None true is test e = (length ts, refl)
    whole_noted n None false is test (inl was) = absurd (none_some was.0 (sym is ∙ was.1))
    whole_noted n None false is test (inr same) = let yes : bytes_eq own n ≡ true = (bytes_eq-Decides own n).1 same in cc

    -- an input object that is noted
    pub places_more : HasPlaces (ts ++ t ∷ []) new
    places_more = record {
      real = λ n v is. real_noted n v (value_of old n) (bytes_eq own n) refl refl (sym (noted n) ∙ is);
      whole = λ n v at.
          let before : ((w : ℕ) × (value_of old n ≡ Some w)) ⊎ (own ≡ n) = elim (get_snoc ts t v at.object at.there) [
            | inl there ↦ inl (h.whole n v (record { object = at.object; there = there; named = at.named; input = at.input }))
            | inr last ↦ inr (same_some own n (sym named ∙ ap name_of_meta last.1 ∙ at.named))
          ] in
          let w = whole_noted n (value_of old n) (bytes_eq own n) refl refl before in
          (w.0, noted n ∙ w.1);
    }

  -- the next type of a list
  step : (ts : List (MetaTypeOf S C)) (t : MetaTypeOf S C) (old new : NameMap ℕ) → HasPlaces ts old → IsNoted t (length ts) old new → HasPlaces (ts ++ t ∷ []) new
  step ts (m.InputObject x) old new h e = places_more ts (m.InputObject x) (string_bytes x.name) old new h refl refl e
  step ts (m.Scalar x) old new h e = subst (HasPlaces (ts ++ m.Scalar x ∷ [])) (sym e) (places_other ts (m.Scalar x) old h (λ q. cc))
  step ts (m.List x) old new h e = subst (HasPlaces (ts ++ m.List x ∷ [])) (sym e) (places_other ts (m.List x) old h (λ q. cc))
  step ts (m.Nullable x) old new h e = subst (HasPlaces (ts ++ m.Nullable x ∷ [])) (sym e) (places_other ts (m.Nullable x) old h (λ q. cc))
  step ts (m.Object x) old new h e = subst (HasPlaces (ts ++ m.Object x ∷ [])) (sym e) (places_other ts (m.Object x) old h (λ q. cc))
  step ts (m.Enum x) old new h e = subst (HasPlaces (ts ++ m.Enum x ∷ [])) (sym e) (places_other ts (m.Enum x) old h (λ q. cc))
  step ts (m.Interface x) old new h e = subst (HasPlaces (ts ++ m.Interface x ∷ [])) (sym e) (places_other ts (m.Interface x) old h (λ q. cc))
  step ts (m.Union x) old new h e = subst (HasPlaces (ts ++ m.Union x ∷ [])) (sym e) (places_other ts (m.Union x) old h (λ q. cc))
  step ts (m.Placeholder x) old new h e = subst (HasPlaces (ts ++ m.Placeholder x ∷ [])) (sym e) (places_other ts (m.Placeholder x) old h (λ q. cc))

  pub places_next : (xs : List (Bor (MetaTypeOf S C))) (i : ℕ) (x d : Bor (MetaTypeOf S C)) (old new : NameMap ℕ) → i < length xs → x ≡ get_or xs i d
      → HasPlaces (list_copied (take i xs)) old → IsNoted x.now i old new → HasPlaces (list_copied (take (i + 1) xs)) new
  places_next xs i x d old new room is h noted =
      let seen : List (MetaTypeOf S C) = list_copied (take i xs) in
      let many : length seen ≡ i = length-map (take i xs) (λ (r : Bor (MetaTypeOf S C)). r.now) ∙ length-take-le i xs (omega (arith, room)) in
      let more : list_copied (take (i + 1) xs) ≡ seen ++ x.now ∷ [] =
      ap (λ (ys : List (Bor (MetaTypeOf S C))). list_copied ys) (take_more xs i d room)
      ∙ map_push (λ (r : Bor (MetaTypeOf S C)). r.now) (take i xs) (get_or xs i d)
      ∙ ap (λ (r : Bor (MetaTypeOf S C)). seen ++ r.now ∷ []) (sym is) in
      subst (λ (ts : List (MetaTypeOf S C)). HasPlaces ts new) (sym more)
      (step seen x.now old new h (subst (λ (n : ℕ). IsNoted x.now n old new) (sym many) noted))
