use Rattle.std.proofs.Common.{arith, inl, inr, subst, sym}
use Rattle.merge_certificates.specs.Failing.{AgreesBy, NoneAgrees}
use Rattle.merge_sets.specs.Merging.{merges}
use Rattle.merge_certificates.proofs.below.others_from.Goals as goal

pub returns-clause-ticks : goal.returns-clause-ticks
returns-clause-ticks g c unclear less = elim (c.in_ok-agreeing.ensures.ticks unclear) [
  | inl none ↦
      let every = c.in_ok-others.ensures.every (subst (λ zs. NoneAgrees zs c.in_ok-agreeing.agreeing) (sym c.as_slice-numbers.ensures.value) none) in
      absurd (omega (arith, every, less))
  | inr moved ↦ moved
]

pub returns-clause-rest : goal.returns-clause-rest
returns-clause-rest g c knows l a b more p q = elim (c.in_ok-others.ensures.rest knows.indexed l b more q) [
  | inl there ↦ inl there
  | inr known ↦ inr (merges {a = a} {b = b}
      (c.in_ok-agreeing.ensures.agree knows.kinds l a b p q (subst (λ zs. AgreesBy zs c.in_ok-agreeing.agreeing l) c.as_slice-numbers.ensures.value known.1))
      (knows.below c.args.k l a b known.0 p q))
]
