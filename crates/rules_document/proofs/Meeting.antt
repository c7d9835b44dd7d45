-- Fragments that were met, by name and span.
use Rattle.std.proofs.Common.{◌≡◌, ◌↔◌, ℕ, List, [], ◌∷◌, Bool, true, false, cond, refl, ap, sym, subst, ◌∙◌, inl, inr, ◌⊎◌, arith}
use Rattle.std.specs.List.{Contains, list_any}
use denote.Ref.{Bor}
use Rattle.std.specs.BTreeSet.{contains_by, Updates}
use Rattle.std.specs.Cmp.{IsTotalOrder}
use Rattle.std.specs.Cmp.Lexicographic.{slice_cmp}
use Rattle.std.specs.Ordering.{nat_cmp, on, then_cmp, ordering_then, is_eq, is_lt, is_gt}
use Rattle.std.specs.declared.cmp.Ordering.{Ordering}
use Rattle.std.specs.declared.cmp.Ordering.TheVariants.{Less, Equal, Greater}
use Rattle.std.proofs.lemmas.Bool.{true≢false}
use Rattle.std.proofs.lemmas.Cmp.{nat_cmp_total, nat_list_cmp_total, on_total, then_total, tied_itself}
use Rattle.std.proofs.lemmas.List.Elements.{Contains-push, Contains-push_cases}
use Rattle.std.proofs.lemmas.Map.Lookups.{CmpEqualImpliesEq, exact_unsigned, exact_bytes}
use Rattle.language_types.specs.Position.{index_of, line_of, column_of}
use Rattle.language_types.specs.declared.position.SourcePosition.{SourcePosition}
use Rattle.walk.specs.ErrorValue.{position_cmp}
use Rattle.fragment_reach.specs.ReachedFragments.{IsNameMarked}
use Rattle.fragment_reach.specs.declared.reached.ReachedFragments.{ReachedFragments}
use Rattle.rules_document.specs.declared.met_fragments.MetFragments.{MetFragments}
use Rattle.rules_document.specs.MetFragments.{NameAndSpan, name_and_span_cmp, IsMet, IsOther, Others}
use Rattle.rules_document.specs.NoUnusedFragments.{AddsFragment}

both_equal : (a b : Ordering) → ordering_then a b ≡ Equal → (a ≡ Equal) × (b ≡ Equal)
both_equal Less b e = absurd (true≢false (ap is_lt e))
both_equal Equal b e = (refl, e)
both_equal Greater b e = absurd (true≢false (ap is_gt e))

equal_of : (o : Ordering) → is_eq o ≡ true → o ≡ Equal
equal_of Less e = absurd (true≢false (sym e))
equal_of Equal e = refl
equal_of Greater e = absurd (true≢false (sym e))

exact_places : CmpEqualImpliesEq position_cmp
exact_places p q e =
    let k = both_equal (nat_cmp (index_of p) (index_of q)) (then_cmp (on line_of nat_cmp) (on column_of nat_cmp) p q) e in
    let m = both_equal (nat_cmp (line_of p) (line_of q)) (nat_cmp (column_of p) (column_of q)) k.1 in
    λ i. record { index = exact_unsigned p.index q.index k.0 i; line = exact_unsigned p.line q.line m.0 i; column = exact_unsigned p.column q.column m.1 i }

places_total : IsTotalOrder position_cmp
places_total = then_total (on_total index_of nat_cmp_total) (then_total (on_total line_of nat_cmp_total) (on_total column_of nat_cmp_total))

names_and_spans_total : IsTotalOrder name_and_span_cmp
names_and_spans_total =
    then_total (then_total (on_total (λ p. p.0) nat_list_cmp_total) (on_total (λ p. p.1.start) places_total)) (on_total (λ p. p.1.end) places_total)

-- what compares as equal is the same
same_by : (p q : NameAndSpan) → name_and_span_cmp p q ≡ Equal → p ≡ q
same_by p q e =
    let k = both_equal (ordering_then (slice_cmp nat_cmp p.0 q.0) (position_cmp p.1.start q.1.start)) (position_cmp p.1.end q.1.end) e in
    let m = both_equal (slice_cmp nat_cmp p.0 q.0) (position_cmp p.1.start q.1.start) k.0 in
    λ i. (exact_bytes p.0 q.0 m.0 i, record { start = exact_places p.1.start q.1.start m.1 i; end = exact_places p.1.end q.1.end k.1 i })

pub is_same : (p q : NameAndSpan) → (is_eq (name_and_span_cmp p q) ≡ true) ↔ (p ≡ q)
is_same p q = (
  λ e. same_by p q (equal_of (name_and_span_cmp p q) e),
  λ e. subst (λ z. is_eq (name_and_span_cmp p z) ≡ true) e (ap is_eq (tied_itself names_and_spans_total p)),
)

either : (b c : Bool) → (cond b true c ≡ true) ↔ ((c ≡ true) ⊎ (b ≡ true))
either true c = (λ e. inr refl, λ h. refl)
either false c = (λ e. inl e, λ h. elim h [ inl e ↦ e | inr e ↦ absurd (true≢false (sym e)) ])

abbrev Key : Type 0
Key = Bor (List ℕ) × SourcePosition × SourcePosition

abbrev key_cmp : Key → Key → Ordering
key_cmp x y = ordering_then (ordering_then (slice_cmp nat_cmp x.0.now y.0.now) (position_cmp x.1 y.1)) (position_cmp x.2 y.2)

abbrev met_as : Key → NameAndSpan
met_as k = (k.0.now, record { start = k.1; end = k.2 })

by_test : (b : Bool) → ((b ≡ true → ⊥) → ⊥) → b ≡ true
by_test true h = refl
by_test false h = absurd (h (λ e. true≢false (sym e)))

-- one more
pub others_more : (k : Key) (old new : Others) → Updates key_cmp old new k true → (q : NameAndSpan) → IsOther new q ↔ (IsOther old q ⊎ (met_as k ≡ q))
others_more k old new h q =
    let at = h.0 (record { ref_ptr = k.0.ref_ptr; now = q.0 }, q.1.start, q.1.end) in
    let both = either (is_eq (name_and_span_cmp (met_as k) q)) (contains_by (λ m. name_and_span_cmp q (met_as m)) old) in
    let same = is_same (met_as k) q in (
      λ met. elim (both.0 (sym at ∙ met)) [ inl was ↦ inl was | inr e ↦ inr (same.0 e) ],
      λ c. at ∙ both.1 (elim c [ inl was ↦ inl was | inr e ↦ inr (same.1 e) ]),
    )

-- none
pub none_other : (others : Others) → others.keys ≡ [] → (q : NameAndSpan) → IsOther others q → ⊥
none_other others e q h = true≢false (sym h ∙ ap (λ ks. list_any (λ k. is_eq (name_and_span_cmp q (met_as k))) ks) e)

-- what a test of a meeting says where it fails
pub other_before : (others : Others) (p : NameAndSpan) → ((IsOther others p → ⊥) → ⊥) → IsOther others p
other_before others p h = by_test (contains_by (λ k. name_and_span_cmp p (met_as k)) others) h

module _ (r : ReachedFragments) (old new : MetFragments) (p : NameAndSpan) where
  -- a fragment with a mark
  pub adds_marked : IsNameMarked r p.0 → AddsFragment r old old p []
  adds_marked marked = record { met = λ q. (λ h. inl h, λ s. elim s [ inl h ↦ h | inr c ↦ absurd (omega (arith, c.1)) ]); added = inl (inl marked, refl) }

  module _ (more : (q : NameAndSpan) → IsMet r.graph.now.numbers new q ↔ (IsMet r.graph.now.numbers old q ⊎ (p ≡ q))) where
    -- one that was met
    pub adds_none : IsMet r.graph.now.numbers old p → AddsFragment r old new p []
    adds_none met = record {
      met = λ q. (
        λ h. inl (elim ((more q).0 h) [ inl was ↦ was | inr e ↦ subst (λ z. IsMet r.graph.now.numbers old z) e met ]),
        λ s. (more q).1 (elim s [ inl was ↦ inl was | inr c ↦ absurd (omega (arith, c.1)) ]),
      );
      added = inl (inr met, refl);
    }

    -- any other
    pub adds_one : (IsNameMarked r p.0 → ⊥) → (IsMet r.graph.now.numbers old p → ⊥) → AddsFragment r old new p (p ∷ [])
    adds_one unmarked new_one = record {
      met = λ q. (
        λ h. elim ((more q).0 h) [ inl was ↦ inl was | inr e ↦ inr (subst (λ z. Contains (p ∷ []) z) e (Contains-push [] p)) ],
        λ s. (more q).1 (elim s [
          | inl was ↦ inl was
          | inr c ↦ elim (Contains-push_cases [] p q c) [ inl none ↦ absurd (omega (arith, none.1)) | inr e ↦ inr e ]
        ]),
      );
      added = inr (unmarked, new_one, refl);
    }
