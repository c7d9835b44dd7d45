-- Numbers that each stand once.
use Rattle.std.proofs.Common.{◌≡◌, ◌==◌, ◌≤◌, ◌||◌, ◌∙◌, Bool, true, false, ℕ, List, get_or, length, Some, ap, arith, refl, subst, sym}
use Rattle.std.specs.Cmp.{IsEquivalence}
use Rattle.std.proofs.lemmas.Map.Keys.{IsDistinct-from_apart}
use Rattle.std.proofs.lemmas.Map.Made.{length-le_from_is_member}
use Rattle.std.proofs.lemmas.Option.{slice_get-get_or}
use Rattle.merge_sets.proofs.Laws.{not_true}
use Rattle.merge_set_table.specs.Once.{IsEachOnce, is_among}

is_same : (a b : ℕ) → (b == a) ≡ true → b ≡ a
is_same a b h = grind arith

same_laws : IsEquivalence (λ a b. b == a)
same_laws = record {
  refl = λ x. grind arith;
  symm = λ x y. grind arith;
  congr = λ x y z h. grind (arith, h);
}

-- numbers that each stand once are no more than those among which they are
pub no_more : (to once ys : List ℕ) → IsEachOnce to once → ((x : ℕ) → is_among to x ≡ true → is_among ys x ≡ true) → length once ≤ length ys
no_more to once ys each among =
    length-le_from_is_member same_laws once ys
    (IsDistinct-from_apart (λ a b. b == a) once (λ i j d less short. not_true (get_or once j d == get_or once i d) (λ h.
    let eq = is_same (get_or once i d) (get_or once j d) h in
    let one = each.distinct i j (get_or once i d) (slice_get-get_or once i d (omega (arith, less, short))) (slice_get-get_or once j d short ∙ ap (λ (x : ℕ). Some x) eq) in
    absurd (omega (arith, one, less)))))
    (λ x h. among x (sym (each.same x) ∙ h))

pub joined : (a b c d : Bool) → (a ≡ true → c ≡ true) → (b ≡ true → d ≡ true) → (a || b) ≡ true → (c || d) ≡ true
joined true b c d f g h = let z = f refl in subst (λ y. (y || d) ≡ true) (sym z) refl
joined false b true d f g h = refl
joined false b false d f g h = g h
