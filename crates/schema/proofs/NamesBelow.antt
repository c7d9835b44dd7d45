-- Which names are subtypes of which.
use Rattle.std.proofs.Common.{◌≡◌, ℕ, List, [], ◌∷◌, Bool, true, false, cond, ◌&&◌, ◌||◌, Option, Some, None, is_some, ◌<◌, zero, suc, length, get_or, arith, map, string_bytes, refl, subst, sym, ◌∙◌}
use Rattle.std.specs.Prelude.{find, Contains}
use Rattle.std.specs.List.{flat_map, list_any}
use Rattle.std.specs.Option.{option_map_or}
use Rattle.std.specs.Str.{bytes_eq}
use Rattle.std.proofs.lemmas.Bool.{and_parts, or_cases, or_left}
use Rattle.std.proofs.lemmas.List.Elements.{Contains-append_left, Contains-append_right}
use Rattle.std.proofs.lemmas.List.Folds.{Any-from_list_any}
use Rattle.std.proofs.lemmas.Slice.Eq.{bytes_eq-Decides}
use Rattle.std.proofs.Common.{inl, inr}
use Rattle.meta.specs.declared.kinds.MetaTypeOf.{MetaTypeOf}
use Rattle.meta.specs.declared.kinds.MetaTypeOf.TheVariants as k
use Rattle.schema_validation.specs.Accepted.{Roots, IsAccepted, is_named, is_listed, is_object_listed}
use Rattle.meta.specs.Kinds.{name_of_meta, is_object_meta, is_abstract_meta}
use Rattle.schema_validation.specs.Names.{interfaces_of, members_of, all_members}
use Rattle.schema.specs.Possible.{is_among, is_implementer, possible_names}
use Rattle.schema.specs.Subtype.{may_be, is_name_below}
use Rattle.schema.proofs.AcceptedLemmas.{find-kind}
use Rattle.schema_validation.proofs.Finds.{all-at, found-among}
use Rattle.schema.proofs.PossibleLemmas.{among-filter}

-- an element of one of the parts of a list
in-part : {A B : Type 0} (f : A → List B) (xs : List A) (i : ℕ) (d x : A) (b : B) → i < length xs → get_or xs i d ≡ x → Contains (f x) b → Contains (flat_map f xs) b
in-part f [] i d x b h e k = absurd (omega arith)
in-part f (y ∷ ys) zero d x b h e k = Contains-append_left (f y) (flat_map f ys) b (subst (λ w. Contains (f w) b) (sym e) k)
in-part f (y ∷ ys) (suc i) d x b h e k = Contains-append_right (f y) (flat_map f ys) b (in-part f ys i d x b (omega arith) e k)

among-contains : (ns : List (List ℕ)) (n : List ℕ) → is_among ns n ≡ true → Contains ns n
among-contains ns n h =
    let a = Any-from_list_any (λ w. bytes_eq w n) ns h in
    let same : a.1 ≡ n = (bytes_eq-Decides a.1 n).0 a.4 in
    subst (Contains ns) same (a.0, a.2, a.3)

module _ {S C : Type 0} (roots : Roots) (ts : List (MetaTypeOf S C)) (accepted : IsAccepted roots ts) where
  found_object : (i b : List ℕ) (o : Option (MetaTypeOf S C)) → find (is_named b) ts ≡ o → option_map_or (is_implementer i) o false ≡ true → (w : MetaTypeOf S C) × (find (is_named b) ts ≡ Some w) × (is_object_meta w ≡ true)
  found_object i b None e h = cc
  found_object i b (Some w) e h = (w, e, (and_parts (is_object_meta w) (is_among (interfaces_of w) i) h).0)

  -- what an interface or a union of the schema may be is an object
  pub possible-object : (n b : List ℕ) (u : MetaTypeOf S C) → find (is_named n) ts ≡ Some u → is_abstract_meta u ≡ true → is_among (possible_names ts u) b ≡ true → (w : MetaTypeOf S C) × (find (is_named b) ts ≡ Some w) × (is_object_meta w ≡ true)
  possible-object n b (k.Union x) e a h =
      let member : Contains (all_members ts) b = (let at = found-among (is_named n) ts (k.Union x) (sym e) in in-part members_of ts at.0 (k.Union x) (k.Union x) b at.1 at.2) (among-contains (map string_bytes x.of_type_names.items) b h) in
      find-kind name_of_meta is_object_meta b ts accepted.distinct (all-at (is_object_listed ts) (all_members ts) b accepted.members_objects member)
  possible-object n b (k.Interface x) e a h =
      found_object (string_bytes x.name) b (find (is_named b) ts) refl (sym (among-filter name_of_meta (is_implementer (string_bytes x.name)) b ts accepted.distinct) ∙ h)
  possible-object n b _ e a h = cc

  no_both : (t : MetaTypeOf S C) → is_object_meta t ≡ true → is_abstract_meta t ≡ true → ⊥
  no_both (k.Object x) h e = cc
  no_both _ h e = cc

  abstract_at : (a b : List ℕ) (o : Option (MetaTypeOf S C)) → find (is_named b) ts ≡ o → option_map_or (λ t. is_abstract_meta t && is_among (possible_names ts t) a) o false ≡ true
      → (t : MetaTypeOf S C) × (find (is_named b) ts ≡ Some t) × (is_abstract_meta t ≡ true) × (is_among (possible_names ts t) a ≡ true)
  abstract_at a b None e h = cc
  abstract_at a b (Some t) e h = let parts = and_parts (is_abstract_meta t) (is_among (possible_names ts t) a) h in (t, e, parts.0, parts.1)

  -- an interface or a union is not possible for another
  no_chain : (a b c : List ℕ) → may_be ts b a ≡ true → may_be ts c b ≡ true → ⊥
  no_chain a b c h e =
      let t = abstract_at a b (find (is_named b) ts) refl h in
      let u = abstract_at b c (find (is_named c) ts) refl e in
      let w = possible-object c b u.0 u.1 u.2 u.3 in
      let first : find (is_named b) ts ≡ Some t.0 = t.1 in
      let second : find (is_named b) ts ≡ Some w.0 = w.1 in
      let same : w.0 ≡ t.0 = cc in
      no_both t.0 (subst (λ x. is_object_meta x ≡ true) same w.2) t.2

  pub names-trans : (a b c : List ℕ) → is_name_below ts a b ≡ true → is_name_below ts b c ≡ true → is_name_below ts a c ≡ true
  names-trans a b c h e =
      elim (or_cases (bytes_eq a b) (is_listed ts a && may_be ts b a) h) [
        | inl p ↦ subst (λ w. is_name_below ts w c ≡ true) (sym ((bytes_eq-Decides a b).0 p)) e
        | inr p ↦ elim (or_cases (bytes_eq b c) (is_listed ts b && may_be ts c b) e) [
          | inl q ↦ subst (λ w. is_name_below ts a w ≡ true) ((bytes_eq-Decides b c).0 q) h
          | inr q ↦ absurd (no_chain a b c (and_parts (is_listed ts a) (may_be ts b a) p).1 (and_parts (is_listed ts b) (may_be ts c b) q).1)
        ]
      ]

module _ {S C : Type 0} (ts : List (MetaTypeOf S C)) where
  pub names-same : (a b : List ℕ) → a ≡ b → is_name_below ts a b ≡ true
  names-same a b e = or_left (bytes_eq a b) (is_listed ts a && may_be ts b a) ((bytes_eq-Decides a b).1 e)

-- known is found
pub any-found : {A : Type 0} (p : A → Bool) (xs : List A) → list_any p xs ≡ is_some (find p xs)
any-found p [] = refl
any-found p (x ∷ xs) = step (p x) (any-found p xs)
  where
    step : (b : Bool) → list_any p xs ≡ is_some (find p xs) → (b || list_any p xs) ≡ is_some (cond b (Some x) (find p xs))
    step true e = refl
    step false e = e
