use Rattle.std.proofs.Common.{◌∙◌, ℕ, inl, inr, ap, subst, sym}
use Rattle.std.proofs.lemmas.Bool.{cases_eq}
use Rattle.bit_matrix.specs.Set.{has}
use Rattle.bit_matrix.specs.declared.set.BitSet.{BitSet}
use Rattle.std.specs.Option.{IfSome}
use Rattle.merge_certificates.specs.Touched.{AreListedAt, IsFreeOf}
use Rattle.merge_sets.proofs.Laws.{clash}
use Rattle.merge_certificates.proofs.Touching.{free_apart}
use Rattle.merge_certificates.proofs.touched.rows_apart.Goals as goal
use Rattle.merge_certificates.proofs.touched.rows_apart.Goals.{then-is_free_of+in_ok-insert, else-is_free_of}

pub returns-in_default : goal.returns-in_default
returns-in_default c = λ k l h. absurd (clash (has c.new-rows.result k) h (c.new-rows.ensures k))

pub loop-k-init : goal.loop-k-init
loop-k-init c = λ k h. absurd (clash (has c.new-rows.result k) h (c.new-rows.ensures k))

pub loop-k-preserved : goal.loop-k-preserved
loop-k-preserved c = λ k h. elim c.if-is_free_of.branch [
  | then-is_free_of+in_ok-insert w ↦ elim (cases_eq k c.loop-k.k) [
    | inl same ↦ subst (λ (m : ℕ). IsFreeOf c.args.touched.now m c.in-Some.names) (sym same) w.if-is_free_of.ensures
    | inr apart ↦ c.loop-k.invariant k (sym (ap (λ (r : BitSet). has r k) w.rows-is ∙ w.insert.ensures.others k apart) ∙ h)
  ]
  | else-is_free_of w ↦ c.loop-k.invariant k (ap (λ (r : BitSet). has r k) (sym w.rows-is) ∙ h)
]

pub returns : goal.returns
returns c = λ k l h more less.
    let listed = subst (λ o. IfSome o (AreListedAt c.args.touched.now c.args.count c.args.end)) c.in-Some.is c.in_ok-names.ensures in
    free_apart c.args.touched.now c.args.count c.args.end c.in-Some.names listed k l (c.loop-k.invariant k h) more less
