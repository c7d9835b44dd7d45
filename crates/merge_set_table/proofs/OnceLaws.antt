-- Numbers without repeats, one more at a time.
use Rattle.std.proofs.Common.{◌≡◌, ℕ, ◌+◌, ◌<◌, List, [], ◌∷◌, ◌++◌, length, length-append, arith, take, get_or, Some, slice_get, refl, sym, ap, subst, ◌∙◌, inl, inr, true, false, Bool, ◌||◌, ◌==◌}
use Rattle.std.proofs.lemmas.List.{take_more}
use Rattle.std.proofs.lemmas.List.Folds.{list_any-append}
use Rattle.std.proofs.Common.{eq-eqb, ne_eqb}
use Rattle.std.proofs.lemmas.Bool.{cases_eq, eqb-true}
use Rattle.bit_matrix.specs.Set.{has}
use Rattle.bit_matrix.specs.declared.set.BitSet.{BitSet}
use Rattle.merge_set_table.specs.Once.{is_among, IsEachOnce}
use Rattle.merge_set_table.proofs.Lists.{get_snoc, among_from_get}

pub once_none : IsEachOnce [] []
once_none = record { same = λ x. refl; distinct = λ i j x h k. cc; few = omega arith }

among_more : (xs : List ℕ) (x y : ℕ) → is_among (xs ++ x ∷ []) y ≡ (is_among xs y || ((x == y) || false))
among_more xs x y = list_any-append (λ z. z == y) xs (x ∷ [])

pub once_more : (xs once : List ℕ) (x : ℕ) → is_among once x ≡ false → IsEachOnce xs once → IsEachOnce (xs ++ x ∷ []) (once ++ x ∷ [])
once_more xs once x new h = record {
  same = λ y. among_more once x y ∙ ap (λ b. b || ((x == y) || false)) (h.same y) ∙ sym (among_more xs x y);
  distinct = λ i j y a b.
      let absent : (k : ℕ) → slice_get once k ≡ Some y → y ≡ x → ⊥ = λ k there e. clash (is_among once x) new (subst (λ z. is_among once z ≡ true) e (among_from_get once k y there)) in
      elim (get_snoc once x i y a) [
        | inl p ↦ elim (get_snoc once x j y b) [ inl q ↦ h.distinct i j y p q | inr q ↦ absurd (absent i p q.1) ]
        | inr p ↦ elim (get_snoc once x j y b) [ inl q ↦ absurd (absent j q p.1) | inr q ↦ p.0 ∙ sym q.0 ]
      ];
  few = let few = h.few in omega (arith, few, length-append xs (x ∷ []), length-append once (x ∷ []));
}
  where
    clash : (b : Bool) → b ≡ false → b ≡ true → ⊥
    clash b p q = cc

pub once_again : (xs once : List ℕ) (x : ℕ) → is_among once x ≡ true → IsEachOnce xs once → IsEachOnce (xs ++ x ∷ []) once
once_again xs once x there h = record {
  same = λ y. either y (x == y) refl ∙ sym (among_more xs x y);
  distinct = h.distinct;
  few = let few = h.few in omega (arith, few, length-append xs (x ∷ []));
}
  where
    both : (b : Bool) → (b || true) ≡ true
    both true = refl
    both false = refl

    plain : (b : Bool) → b ≡ (b || false)
    plain true = refl
    plain false = refl

    either : (y : ℕ) (b : Bool) → (x == y) ≡ b → is_among once y ≡ (is_among xs y || (b || false))
    either y true e = subst (λ z. is_among once z ≡ true) (eqb-true x y e) there ∙ sym (both (is_among xs y))
    either y false e = h.same y ∙ plain (is_among xs y)

pub once_step : (xs : List ℕ) (i : ℕ) (once new : List ℕ) → i < length xs → IsEachOnce (take i xs) once → is_among once (get_or xs i 0) ≡ false → new ≡ once ++ get_or xs i 0 ∷ [] → IsEachOnce (take (i + 1) xs) new
once_step xs i once new l h absent e =
    subst (λ z. IsEachOnce z new) (sym (take_more xs i 0 l)) (subst (λ z. IsEachOnce (take i xs ++ get_or xs i 0 ∷ []) z) (sym e) (once_more (take i xs) once (get_or xs i 0) absent h))

pub once_stay : (xs : List ℕ) (i : ℕ) (once : List ℕ) → i < length xs → IsEachOnce (take i xs) once → is_among once (get_or xs i 0) ≡ true → IsEachOnce (take (i + 1) xs) once
once_stay xs i once l h there = subst (λ z. IsEachOnce z once) (sym (take_more xs i 0 l)) (once_again (take i xs) once (get_or xs i 0) there h)

-- the members of a set of bits are the numbers of a list
abbrev pub HaveBits : BitSet → List ℕ → Type 0
HaveBits seen once = (x : ℕ) → has seen x ≡ is_among once x

module _ (old new : BitSet) (once : List ℕ) (n : ℕ) (h : HaveBits old once) (there : has new n ≡ true) (others : (m : ℕ) → (m ≡ n → ⊥) → has new m ≡ has old m) where
  last : (b : Bool) → (b || (true || false)) ≡ true
  last true = refl
  last false = refl

  no_last : (b : Bool) → b ≡ (b || (false || false))
  no_last true = refl
  no_last false = refl

  pub bits_more : HaveBits new (once ++ n ∷ [])
  bits_more x = elim (cases_eq x n) [
    | inl is ↦ subst (λ (y : ℕ). has new y ≡ true) (sym is) there
        ∙ sym (among_more once n x ∙ ap (λ b. is_among once x || (b || false)) (eq-eqb n x (sym is)) ∙ last (is_among once x))
    | inr other ↦ others x other ∙ h x ∙ no_last (is_among once x)
        ∙ sym (among_more once n x ∙ ap (λ b. is_among once x || (b || false)) (ne_eqb n x (λ e. other (sym e))))
  ]

  pub bits_stay : has old n ≡ true → HaveBits new once
  bits_stay stood x = elim (cases_eq x n) [
    | inl is ↦ subst (λ (y : ℕ). has new y ≡ has old y) (sym is) (there ∙ sym stood) ∙ h x
    | inr other ↦ others x other ∙ h x
  ]
