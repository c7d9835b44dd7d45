-- Fragments that no operation reaches, definition by definition.
use Rattle.std.proofs.Common.{◌≡◌, ◌↔◌, ℕ, List, [], ◌∷◌, ◌++◌, map, refl, sym, subst, ap, arith, inl, inr, ◌⊎◌, Some, slice_get, ◌∙◌, Bool, true, false}
use Rattle.std.specs.List.{Contains}
use Rattle.std.proofs.lemmas.List.{append-nil, map-append}
use Rattle.std.proofs.lemmas.List.Elements.{Contains-append_left, Contains-append_right, Contains-append_cases, Contains-push, Contains-push_cases}
use Rattle.language.specs.declared.tree.Definition.{Definition}
use Rattle.language.specs.declared.tree.Definition.TheVariants as definition
use Rattle.language.specs.declared.tree.Fragment.{Fragment}
use Rattle.events.specs.Node.{Placed}
use Rattle.fragment_graph.specs.Numbers.{Defines}
use Rattle.fragment_graph.proofs.Lists.{none_some, get_snoc, contains_at}
use Rattle.fragment_reach.specs.Reach.{IsReached}
use Rattle.fragment_reach.specs.ReachedFragments.{ReachedOf}
use Rattle.fragment_reach.specs.declared.reached.ReachedFragments.{ReachedFragments}
use Rattle.walk.specs.ContextState.{ContextState, with_errors}
use Rattle.walk.specs.ErrorValue.{ErrorValue}
use Rattle.walk.proofs.Kept.{with_more, with_none}
use Rattle.fragment_graph.specs.declared.numbers.Numbers.{Numbers}
use Rattle.rules_document.specs.declared.met_fragments.MetFragments.{MetFragments}
use Rattle.rules_document.specs.declared.no_unused_fragments.NoUnusedFragments.{NoUnusedFragments}
use Rattle.rules_document.specs.MetFragments.{NameAndSpan, name_and_span, IsMet}
use Rattle.rules_document.specs.NoUnusedFragments.{unused_error, IsSame, Stands, UnusedAmong, AddsFragment, AddsUnused}

once_push : (fs : List NameAndSpan) (p : NameAndSpan) → ((i j : ℕ) (q : NameAndSpan) → slice_get fs i ≡ Some q → slice_get fs j ≡ Some q → i ≡ j) → (Contains fs p → ⊥)
    → (i j : ℕ) (q : NameAndSpan) → slice_get (fs ++ p ∷ []) i ≡ Some q → slice_get (fs ++ p ∷ []) j ≡ Some q → i ≡ j
once_push fs p once new i j q h k = elim (get_snoc fs p i q h) [
  | inl a ↦ elim (get_snoc fs p j q k) [
    | inl b ↦ once i j q a b
    | inr b ↦ absurd (new (contains_at fs i p (a ∙ ap Some (sym b.1))))
  ]
  | inr a ↦ elim (get_snoc fs p j q k) [
    | inl b ↦ absurd (new (contains_at fs j p (b ∙ ap Some (sym a.1))))
    | inr b ↦ a.0 ∙ sym b.0
  ]
]

module _ {S : Type 0} (document earlier : List (Definition S)) (fs : List NameAndSpan) (u : UnusedAmong document earlier fs) where
  stands_more : (d : Definition S) (p : NameAndSpan) → Stands earlier p → Stands (earlier ++ d ∷ []) p
  stands_more d p s = (s.0, Contains-append_left earlier (d ∷ []) s.0 s.1, s.2)

  stands_split : (d : Definition S) (p : NameAndSpan) → Stands (earlier ++ d ∷ []) p → Stands earlier p ⊎ IsSame d p
  stands_split d p s = elim (Contains-push_cases earlier d s.0 s.1) [
    | inl c ↦ inl (s.0, c, s.2)
    | inr e ↦ inr (subst (λ (z : Definition S). IsSame z p) (sym e) s.2)
  ]

  -- a definition that adds nothing
  same_on : (d : Definition S) → ((p : NameAndSpan) → IsSame d p → Stands earlier p ⊎ IsReached document p.0) → UnusedAmong document (earlier ++ d ∷ []) fs
  same_on d known = record {
    once = u.once;
    are = λ p. (
      λ c. let r = (u.are p).0 c in (stands_more d p r.0, r.1),
      λ s. elim (stands_split d p s.0) [
        | inl before ↦ (u.are p).1 (before, s.1)
        | inr is ↦ elim (known p is) [ inl before ↦ (u.are p).1 (before, s.1) | inr r ↦ absurd (s.1 r) ]
      ],
    );
  }

  -- and one that adds itself
  more_on : (d : Definition S) (p : NameAndSpan) → IsSame d p → ((q : NameAndSpan) → IsSame d q → p ≡ q) → (Stands earlier p → ⊥) → (IsReached document p.0 → ⊥) → UnusedAmong document (earlier ++ d ∷ []) (fs ++ p ∷ [])
  more_on d p is one new unreached = record {
    once = once_push fs p u.once (λ c. new ((u.are p).0 c).0);
    are = λ q. (
      λ c. elim (Contains-push_cases fs p q c) [
        | inl before ↦ let r = (u.are q).0 before in (stands_more d q r.0, r.1)
        | inr e ↦ subst (λ (z : NameAndSpan). Stands (earlier ++ d ∷ []) z × (IsReached document z.0 → ⊥)) e ((d, Contains-push earlier d, is), unreached)
      ],
      λ s. elim (stands_split d q s.0) [
        | inl before ↦ Contains-append_left fs (p ∷ []) q ((u.are q).1 (before, s.1))
        | inr same ↦ subst (λ (z : NameAndSpan). Contains (fs ++ p ∷ []) z) (one q same) (Contains-push fs p)
      ],
    );
  }

  -- those that were met are those that were added
  abbrev pub Meets : Numbers → MetFragments → Type 0
  Meets n met = (q : NameAndSpan) → IsMet n met q ↔ Contains fs q

  module _ (r : ReachedFragments) (m : ReachedOf document r) (old new : MetFragments) (known : Meets r.graph.now.numbers old) where
    added_on : (f : Placed (Fragment S)) (gs : List NameAndSpan) → Contains document (definition.Fragment f) → AddsFragment r old new (name_and_span f) gs → UnusedAmong document (earlier ++ definition.Fragment f ∷ []) (fs ++ gs)
    added_on f gs c a =
        let p = name_and_span f in
        let defined : Defines document p.0 = (definition.Fragment f, c, refl) in
        elim a.added [
          | inl none ↦
              subst (λ (zs : List NameAndSpan). UnusedAmong document (earlier ++ definition.Fragment f ∷ []) zs) (sym (append-nil fs) ∙ ap (λ zs. fs ++ zs) (sym none.1))
              (same_on (definition.Fragment f) (λ q is. elim none.0 [
                | inl marked ↦ inr (subst (λ (z : NameAndSpan). IsReached document z.0) is ((m p.0 defined).0 marked))
                | inr met ↦ inl (subst (λ (z : NameAndSpan). Stands earlier z) is ((u.are p).0 ((known p).0 met)).0)
              ]))
          | inr more ↦
              let unreached : IsReached document p.0 → ⊥ = λ reached. more.0 ((m p.0 defined).1 reached) in
              subst (λ (zs : List NameAndSpan). UnusedAmong document (earlier ++ definition.Fragment f ∷ []) zs) (ap (λ zs. fs ++ zs) (sym more.2))
              (more_on (definition.Fragment f) p refl (λ q is. is) (λ before. more.1 ((known p).1 ((u.are p).1 (before, unreached)))) unreached)
        ]

    pub unused_next : (d : Definition S) (gs : List NameAndSpan) → Contains document d → AddsUnused r old new d gs → UnusedAmong document (earlier ++ d ∷ []) (fs ++ gs)
    unused_next (definition.Operation o) gs c e =
        subst (λ (zs : List NameAndSpan). UnusedAmong document (earlier ++ definition.Operation o ∷ []) zs) (sym (append-nil fs) ∙ ap (λ zs. fs ++ zs) (sym e.1))
        (same_on (definition.Operation o) (λ p is. absurd is))
    unused_next (definition.Fragment f) gs c a = added_on f gs c a

    pub met_next : (d : Definition S) (gs : List NameAndSpan) → AddsUnused r old new d gs → (q : NameAndSpan) → IsMet r.graph.now.numbers new q ↔ Contains (fs ++ gs) q
    met_next (definition.Operation o) gs e q =
        let none : fs ++ gs ≡ fs = ap (λ zs. fs ++ zs) e.1 ∙ append-nil fs in (
          λ h. subst (λ (zs : List NameAndSpan). Contains zs q) (sym none) ((known q).0 (subst (λ (z : MetFragments). IsMet r.graph.now.numbers z q) e.0 h)),
          λ c. subst (λ (z : MetFragments). IsMet r.graph.now.numbers z q) (sym e.0) ((known q).1 (subst (λ (zs : List NameAndSpan). Contains zs q) none c)),
        )
    met_next (definition.Fragment f) gs a q = (
      λ h. elim ((a.met q).0 h) [ inl was ↦ Contains-append_left fs gs q ((known q).0 was) | inr now ↦ Contains-append_right fs gs q now ],
      λ c. elim (Contains-append_cases fs gs q c) [ inl was ↦ (a.met q).1 (inl ((known q).1 was)) | inr now ↦ (a.met q).1 (inr now) ],
    )

pub unused_none : {S : Type 0} (document : List (Definition S)) → UnusedAmong document [] []
unused_none document = record {
  once = λ i j p h k. absurd (none_some p h);
  are = λ p. (λ c. absurd (omega (arith, c.1)), λ s. let l = s.0.1.1 in absurd (omega (arith, l)));
}

-- what was reported, and then more
pub reports_more : {S C : Type 0} (fs gs : List NameAndSpan) (w w₁ w₂ : ContextState S C) → w₁ ≡ with_errors w (map unused_error fs) → w₂ ≡ with_errors w₁ (map unused_error gs) → w₂ ≡ with_errors w (map unused_error (fs ++ gs))
reports_more fs gs w w₁ w₂ seen more =
    more
    ∙ ap (λ z. with_errors z (map unused_error gs)) seen
    ∙ with_more w (map unused_error fs) (map unused_error gs)
    ∙ ap (λ zs. with_errors w zs) (sym (map-append unused_error fs gs))

-- nothing was reported
pub reports_nothing : {S C : Type 0} (w : ContextState S C) → w ≡ with_errors w (map unused_error [])
reports_nothing w = with_none w

pub both : (b : Bool) → b ≡ true → b ≡ false → ⊥
both b t f = cc
