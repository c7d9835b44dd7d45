use Rattle.merge_certificates.specs.Touched.{AreListedAt}
use Rattle.merge_certificates.proofs.touched.names_from.Given as goal

abbrev pub invariant-loop-l : goal.invariant-loop-l
invariant-loop-l l = AreListedAt l.touched l.from l.l l.names
