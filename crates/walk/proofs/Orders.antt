-- Orders in which only what is the same is equal.
use Rattle.std.proofs.Common.{◌≡◌, [], ◌∷◌, refl, ap, subst}
use Rattle.std.specs.declared.cmp.Ordering.{Ordering}
use Rattle.std.specs.declared.cmp.Ordering.TheVariants.{Less, Equal, Greater}
use Rattle.std.specs.Cmp.{IsTotalOrder}
use Rattle.std.specs.Cmp.Lexicographic.{slice_cmp}
use Rattle.std.specs.Ordering.{nat_cmp, on, then_cmp, ordering_then, is_lt, is_gt}
use Rattle.std.proofs.lemmas.Bool.{true≢false}
use Rattle.std.proofs.lemmas.Cmp.{nat_cmp_total, nat_list_cmp_total, on_total, then_total, lists_total, tied_itself}
use Rattle.std.proofs.lemmas.Map.Lookups.{CmpEqualImpliesEq, exact_unsigned, exact_bytes}
use Rattle.language_types.specs.Position.{index_of, line_of, column_of}
use Rattle.walk.specs.ErrorValue.{position_cmp, error_cmp, EqualMeansSame}

both_equal : (a b : Ordering) → ordering_then a b ≡ Equal → (a ≡ Equal) × (b ≡ Equal)
both_equal Less b e = absurd (true≢false (ap is_lt e))
both_equal Equal b e = (refl, e)
both_equal Greater b e = absurd (true≢false (ap is_gt e))

exact_lists : {X : Type 0} (R : X → X → Ordering) → CmpEqualImpliesEq R → CmpEqualImpliesEq (slice_cmp R)
exact_lists R h [] [] e = refl
exact_lists R h [] (y ∷ ys) e = absurd (true≢false (ap is_lt e))
exact_lists R h (x ∷ xs) [] e = absurd (true≢false (ap is_gt e))
exact_lists R h (x ∷ xs) (y ∷ ys) e =
    let k = both_equal (R x y) (slice_cmp R xs ys) e in λ i. h x y k.0 i ∷ exact_lists R h xs ys k.1 i

exact_positions : CmpEqualImpliesEq position_cmp
exact_positions p q e =
    let k = both_equal (nat_cmp (index_of p) (index_of q)) (then_cmp (on line_of nat_cmp) (on column_of nat_cmp) p q) e in
    let m = both_equal (nat_cmp (line_of p) (line_of q)) (nat_cmp (column_of p) (column_of q)) k.1 in
    λ i. record { index = exact_unsigned p.index q.index k.0 i; line = exact_unsigned p.line q.line m.0 i; column = exact_unsigned p.column q.column m.1 i }

exact_errors : CmpEqualImpliesEq error_cmp
exact_errors a b e =
    let k = both_equal (slice_cmp position_cmp a.locations b.locations) (slice_cmp nat_cmp a.message b.message) e in
    λ i. record { locations = exact_lists position_cmp exact_positions a.locations b.locations k.0 i; message = exact_bytes a.message b.message k.1 i }

positions_total : IsTotalOrder position_cmp
positions_total = then_total (on_total index_of nat_cmp_total) (then_total (on_total line_of nat_cmp_total) (on_total column_of nat_cmp_total))

errors_total : IsTotalOrder error_cmp
errors_total = then_total (on_total (λ e. e.locations) (lists_total positions_total)) (on_total (λ e. e.message) nat_list_cmp_total)

-- errors that compare as equal are the same, and an error compares as equal with itself
pub equal_means_same : EqualMeansSame
equal_means_same a b = (exact_errors a b, λ e. subst (λ c. error_cmp a c ≡ Equal) e (tied_itself errors_total a))
