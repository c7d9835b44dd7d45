use Rattle.std.proofs.Common.{List, ◌∷◌, [], length, length-append, ap, ◌∙◌, arith}
use Rattle.bit_matrix.specs.declared.set.BitSet.{BitSet}
use Rattle.bit_matrix.specs.Rows.{marked}
use Rattle.bit_matrix.proofs.RowLemmas.{holds, holds-push}
use Rattle.bit_matrix.proofs.rows.BitRows.grow.Goals as goal

pub loop-self-preserved : goal.loop-self-preserved
unfolding marked
loop-self-preserved c = (
  λ i j. ap (λ (xs : List BitSet). holds xs i j) c.in_ok-push.ensures.items
      ∙ (holds-push c.loop-self.self.rows.items c.new.result i j (c.new.ensures j) ∙ c.loop-self.invariant.0 i j),
  let longer = ap length c.in_ok-push.ensures.items ∙ length-append c.loop-self.self.rows.items (c.new.result ∷ []) in
      omega (arith, longer, c.loop-self.invariant.1),
)

pub returns-in_err-push-clause-same : goal.returns-in_err-push-clause-same
unfolding marked
returns-in_err-push-clause-same c = λ i j. ap (λ (xs : List BitSet). holds xs i j) c.in_err-push.ensures.items ∙ c.loop-self.invariant.0 i j
