use Rattle.std.proofs.Common.{inl, inr}
use Rattle.bit_matrix.specs.Set.{has}
use Rattle.merge_sets.proofs.Laws.{clash}
use Rattle.merge_certificates.proofs.Touching.{none_at}
use Rattle.merge_certificates.proofs.below.all_or_nothing.Goals as goal

pub returns-clause-all : goal.returns-clause-all
returns-clause-all c = λ k l known. elim known [
  | inl all ↦ all
  | inr some ↦ elim some [
    | inl both ↦ absurd (clash (has c.new.result k) both.0 (c.new.ensures k))
    | inr at ↦ absurd (none_at c.none_touched.result c.none_touched.ensures k l at)
  ]
]
