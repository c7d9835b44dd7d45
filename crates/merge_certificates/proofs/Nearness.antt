-- Places by the names that are listed there.
use Rattle.std.proofs.Common.{◌≡◌, ◌<◌, ◌+◌, ◌∙◌, ℕ, List, Some, Vec, true, ap, arith, inl, inr, subst, sym}
use Rattle.std.specs.List.{All, Contains}
use Rattle.std.specs.declared.alloc.Global.{Global}
use Rattle.std.proofs.lemmas.Bool.{cases_eq}
use Rattle.std.proofs.lemmas.List.Elements.{All-contains, All-weaker}
use Rattle.bit_matrix.specs.Set.{has}
use Rattle.bit_matrix.specs.declared.set.BitSet.{BitSet}
use Rattle.merge_sets.specs.declared.node.Entry.{Entry}
use Rattle.merge_certificates.specs.declared.touched.Touched.{Touched}
use Rattle.merge_certificates.specs.Near.{IsApartRow, IsNear, listed_at}
use Rattle.merge_certificates.specs.Touched.{told_at}
use Rattle.merge_sets.proofs.Laws.{clash}

module _ (touched : Touched) (l : ℕ) (untold : BitSet) (old : List Entry) (before : IsNear touched l untold old) where
  -- one more place that is told
  pub one_near : (new : List Entry) (v : Vec ℕ Global) → told_at touched l ≡ Some v → ((a : Entry) → Contains old a → Contains new a)
      → All (λ (n : ℕ). Contains new (listed_at n l)) v.items → IsNear touched (l + 1) untold new
  one_near new v told kept added m less = elim (cases_eq m l) [
    | inl same ↦ inr (v, ap (λ k. told_at touched k) same ∙ told, subst (λ (k : ℕ). All (λ (n : ℕ). Contains new (listed_at n k)) v.items) (sym same) added)
    | inr apart ↦ elim (before m (omega (arith, less, apart))) [
      | inl is ↦ inl is
      | inr at ↦ inr (at.0, at.1, All-weaker (λ (n : ℕ). Contains old (listed_at n m)) (λ (n : ℕ). Contains new (listed_at n m)) (λ n h. kept (listed_at n m) h) at.0.items at.2)
    ]
  ]

  -- one more place of which nothing is told
  pub one_untold : (more : BitSet) → has more l ≡ true → ((m : ℕ) → has untold m ≡ true → has more m ≡ true) → IsNear touched (l + 1) more old
  one_untold more there kept m less = elim (cases_eq m l) [
    | inl same ↦ inl (subst (λ (k : ℕ). has more k ≡ true) (sym same) there)
    | inr apart ↦ elim (before m (omega (arith, less, apart))) [
      | inl is ↦ inl (kept m is)
      | inr at ↦ inr at
    ]
  ]

-- a place that isn't in a row which has all places with one of the names
pub row_apart : (touched : Touched) (k count : ℕ) (untold row : BitSet) (index : List Entry) (v : Vec ℕ Global) → told_at touched k ≡ Some v
    → IsNear touched count untold index → ((m : ℕ) → m < count → has untold m ≡ true → has row m ≡ true)
    → All (λ (n : ℕ). (m : ℕ) → Contains index (listed_at n m) → has row m ≡ true) v.items → IsApartRow touched k count row
row_apart touched k count untold row index v told near all listed l less not = elim (near l less) [
  | inl is ↦ absurd (clash (has row l) (all l less is) not)
  | inr at ↦ record {
    left = v;
    right = at.0;
    told_left = told;
    told_right = at.1;
    apart = λ n p q. clash (has row l)
        (All-contains (λ (x : ℕ). (m : ℕ) → Contains index (listed_at x m) → has row m ≡ true) v.items n listed p l
        (All-contains (λ (x : ℕ). Contains index (listed_at x l)) at.0.items n at.2 q)) not;
  }
]
