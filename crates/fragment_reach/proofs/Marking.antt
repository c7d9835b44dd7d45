-- Marks, as they are set.
use Rattle.std.proofs.Common.{◌≡◌, ℕ, ◌+◌, ◌<◌, List, [], ◌∷◌, ◌++◌, length, length-set, length-append, refl, sym, subst, ap, arith, inl, inr, ◌⊎◌, zero, suc, Bool, true, false, Some, slice_get, slice_set, ◌∙◌, replicate}
use Rattle.std.proofs.lemmas.Bool.{cases_eq}
use Rattle.std.proofs.lemmas.List.{length-replicate}
use Rattle.std.proofs.lemmas.List.Elements.{Contains-append_left, Contains-append_right}
use Rattle.fragment_graph.specs.declared.graph.Spread.{Spread}
use Rattle.fragment_graph.proofs.Lists.{same_some, none_some, get_more, get_snoc, get_end, get_some, set_same, set_keep, set_other, contains_at, contains_get, contains_one}
use Rattle.fragment_reach.specs.Search.{IsClear, IsMarked, unmarked, WellMarked, Marks}

false_true : false ≡ true → ⊥
false_true e = cc

unmarked-set : (marks : List Bool) (v : ℕ) → slice_get marks v ≡ Some false → unmarked (slice_set marks v true) + 1 ≡ unmarked marks
unmarked-set [] v h = absurd (none_some false h)
unmarked-set (b ∷ bs) zero h = subst (λ (c : Bool). unmarked bs + 1 ≡ unmarked (c ∷ bs)) (sym (same_some b false h)) (omega arith)
unmarked-set (true ∷ bs) (suc v) h = unmarked-set bs v h
unmarked-set (false ∷ bs) (suc v) h = omega (arith, unmarked-set bs v h)

-- a node's mark, and its place at the end of the list
module _ (order : List ℕ) (marks : List Bool) (x : Spread) (w : WellMarked order marks) (new : slice_get marks x.target ≡ Some false) where
  marks_now : (v : ℕ) → IsMarked (slice_set marks x.target true) v → IsMarked marks v ⊎ (x.target ≡ v)
  marks_now v h = elim (cases_eq v x.target) [
    | inl e ↦ inr (sym e)
    | inr ne ↦ inl (sym (set_other marks x.target v true ne) ∙ h)
  ]

  mark_here : IsMarked (slice_set marks x.target true) x.target
  mark_here = set_same marks x.target false true new

  mark_kept : (v : ℕ) → IsMarked marks v → IsMarked (slice_set marks x.target true) v
  mark_kept v h = set_keep marks x.target v false true true new false_true h

  -- it was not listed
  not_listed : (i v : ℕ) → slice_get order i ≡ Some v → x.target ≡ v → ⊥
  not_listed i v a e = false_true (same_some false true (sym new ∙ subst (λ (u : ℕ). IsMarked marks u) (sym e) (w.marked i v a)))

  pub marks_one : Marks (x ∷ []) order marks (order ++ x.target ∷ []) (slice_set marks x.target true)
  marks_one = record {
    sized = length-set marks x.target true;
    kept = mark_kept;
    listed = λ i v h. get_more order (x.target ∷ []) i v h;
    here = λ y c l. subst (λ (z : Spread). IsMarked (slice_set marks x.target true) z.target) (contains_one x y c) mark_here;
    only = λ v h. elim (marks_now v h) [ inl m ↦ inl m | inr e ↦ inr (x, contains_at (x ∷ []) 0 x refl, e) ];
  }

  pub well_one : WellMarked (order ++ x.target ∷ []) (slice_set marks x.target true)
  well_one = record {
    listed = λ v h. elim (marks_now v h) [
      | inl m ↦ let i = w.listed v m in (i.0, get_more order (x.target ∷ []) i.0 v i.1)
      | inr e ↦ (length order, get_end order x.target (length order) refl ∙ ap Some e)
    ];
    marked = λ i v h. elim (get_snoc order x.target i v h) [
      | inl g ↦ mark_kept v (w.marked i v g)
      | inr e ↦ subst (λ (u : ℕ). IsMarked (slice_set marks x.target true) u) e.1 mark_here
    ];
    counted =
        let c = w.counted in
        omega (arith, c, unmarked-set marks x.target new, length-append order (x.target ∷ []), length-set marks x.target true);
    once = λ i j v h k. elim (get_snoc order x.target i v h) [
      | inl a ↦ elim (get_snoc order x.target j v k) [ inl b ↦ w.once i j v a b | inr b ↦ absurd (not_listed i v a b.1) ]
      | inr a ↦ elim (get_snoc order x.target j v k) [ inl b ↦ absurd (not_listed j v b a.1) | inr b ↦ a.0 ∙ sym b.0 ]
    ];
  }

-- nothing to mark
pub marks_none : (order : List ℕ) (marks : List Bool) → Marks [] order marks order marks
marks_none order marks = record {
  sized = refl;
  kept = λ v h. h;
  listed = λ i v h. h;
  here = λ x c l. absurd (omega (arith, c.1));
  only = λ v h. inl h;
}

has_mark : (marks : List Bool) (v : ℕ) (b : Bool) → slice_get marks v ≡ Some b → (slice_get marks v ≡ Some false → ⊥) → IsMarked marks v
has_mark marks v true h not_new = h
has_mark marks v false h not_new = absurd (not_new h)

-- a spread whose target has a mark or is no node
pub marks_seen : (order : List ℕ) (marks : List Bool) (x : Spread) → (slice_get marks x.target ≡ Some false → ⊥) → Marks (x ∷ []) order marks order marks
marks_seen order marks x not_new = record {
  sized = refl;
  kept = λ v h. h;
  listed = λ i v h. h;
  here = λ y c l.
      let e : x ≡ y = contains_one x y c in
      let inside : x.target < length marks = subst (λ (z : Spread). z.target < length marks) (sym e) l in
      let g = get_some marks x.target inside in
      subst (λ (z : Spread). IsMarked marks z.target) e (has_mark marks x.target g.0 g.1 not_new);
  only = λ v h. inl h;
}

-- more spreads after others
pub marks_then : (xs : List Spread) (x : Spread) (o p q : List ℕ) (m n k : List Bool) → Marks xs o m p n → Marks (x ∷ []) p n q k → Marks (xs ++ x ∷ []) o m q k
marks_then xs x o p q m n k f g = record {
  sized = g.sized ∙ f.sized;
  kept = λ v h. g.kept v (f.kept v h);
  listed = λ i v h. g.listed i v (f.listed i v h);
  here = λ y c l.
      let at = contains_get (xs ++ x ∷ []) y c in
      elim (get_snoc xs x at.0 y at.1) [
        | inl front ↦ g.kept y.target (f.here y (contains_at xs at.0 y front) l)
        | inr last ↦ g.here y (contains_at (x ∷ []) 0 y (ap Some last.1)) (let sized = f.sized in omega (arith, l, sized))
      ];
  only = λ v h. elim (g.only v h) [
    | inl was ↦ elim (f.only v was) [
      | inl first ↦ inl first
      | inr y ↦ inr (y.0, Contains-append_left xs (x ∷ []) y.0 y.1, y.2)
    ]
    | inr y ↦ inr (y.0, Contains-append_right xs (x ∷ []) y.0 y.1, y.2)
  ];
}

none_marked : (n v : ℕ) → IsMarked (replicate n false) v → ⊥
none_marked zero v h = none_some true h
none_marked (suc n) zero h = false_true (same_some false true h)
none_marked (suc n) (suc v) h = none_marked n v h

all_unmarked : (marks : List Bool) → ((v : ℕ) → IsMarked marks v → ⊥) → unmarked marks ≡ length marks
all_unmarked [] h = refl
all_unmarked (true ∷ bs) h = absurd (h 0 refl)
all_unmarked (false ∷ bs) h = omega (arith, all_unmarked bs (λ v. h (suc v)))

-- at first there are no marks
pub clear_first : (n : ℕ) (order : List ℕ) (marks : List Bool) → order ≡ [] → marks ≡ replicate n false → IsClear n order marks
clear_first n order marks none e = record {
  none_listed = none;
  sized = ap length e ∙ length-replicate n false;
  none_marked = λ v h. none_marked n v (subst (λ (zs : List Bool). IsMarked zs v) e h);
}

pub well_first : (n : ℕ) (order : List ℕ) (marks : List Bool) → IsClear n order marks → WellMarked order marks
well_first n order marks c = record {
  listed = λ v h. absurd (c.none_marked v h);
  marked = λ i v h. absurd (none_some v (ap (λ (zs : List ℕ). slice_get zs i) (sym c.none_listed) ∙ h));
  counted =
      let none : length order ≡ 0 = ap length c.none_listed in
      omega (arith, none, all_unmarked marks c.none_marked);
  once = λ i j v h k. absurd (none_some v (ap (λ (zs : List ℕ). slice_get zs i) (sym c.none_listed) ∙ h));
}
