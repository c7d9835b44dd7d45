use Rattle.std.proofs.Common.{◌≡◌, ◌⊎◌, ℕ, true, None, inl, inr, ap, get_or, sym, subst, ◌∙◌}
use Rattle.std.proofs.lemmas.Bool.{cases_eq}
use Rattle.std.proofs.lemmas.Option.{get_or_from_slice_get}
use Rattle.bit_matrix.specs.Set.{has}
use Rattle.bit_matrix.specs.declared.set.BitSet.{BitSet}
use Rattle.merge_sets.specs.declared.node.Entry.{Entry}
use Rattle.merge_sets.proofs.OneName.{no_entry}
use Rattle.merge_certificates.proofs.clear.rows_of_both.Goals as goal
use Rattle.merge_certificates.proofs.clear.rows_of_both.Goals.{then-is_of_both+in_ok-insert, else-is_of_both}

pub loop-k-preserved : goal.loop-k-preserved
loop-k-preserved c = elim c.if-is_of_both.branch [
  | then-is_of_both+in_ok-insert w ↦
      let n = c.loop-k.k in
      let there = c.is_of_both.ensures w.if-is_of_both.true in
      let was : (k : ℕ) → (k ≡ n → ⊥) → has c.if-is_of_both.both k ≡ true → has c.loop-k.both k ≡ true =
      λ k apart h. sym (ap (λ (r : BitSet). has r k) w.both-is ∙ w.insert.ensures.others k apart) ∙ h in (
        λ k a p h. elim (cases_eq k n) [
          | inl same ↦
              let field = ap (λ (m : ℕ). get_or c.args.fields.now m no_entry) (sym same) ∙ get_or_from_slice_get c.args.fields.now k a no_entry p in
              subst (λ (m : ℕ). (has c.args.rows.now m ≡ true) × ((a.below ≡ None) ⊎ (has c.args.below.now m ≡ true))) (sym same)
              (subst (λ (x : Entry). (has c.args.rows.now n ≡ true) × ((x.below ≡ None) ⊎ (has c.args.below.now n ≡ true))) field there)
          | inr apart ↦ c.loop-k.invariant.0 k a p (was k apart h)
        ],
        λ k h. elim (cases_eq k n) [
          | inl same ↦ subst (λ (m : ℕ). has c.args.rows.now m ≡ true) (sym same) there.0
          | inr apart ↦ c.loop-k.invariant.1 k (was k apart h)
        ],
      )
  | else-is_of_both w ↦ (
    λ k a p h. c.loop-k.invariant.0 k a p (ap (λ (r : BitSet). has r k) (sym w.both-is) ∙ h),
    λ k h. c.loop-k.invariant.1 k (ap (λ (r : BitSet). has r k) (sym w.both-is) ∙ h),
  )
]
