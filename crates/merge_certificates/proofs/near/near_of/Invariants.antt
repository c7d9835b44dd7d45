use Rattle.merge_certificates.specs.Near.{IsNear}
use Rattle.merge_certificates.proofs.near.near_of.Given as goal

abbrev pub invariant-loop-l : goal.invariant-loop-l
invariant-loop-l l = IsNear l.touched l.l l.untold l.entries.items
