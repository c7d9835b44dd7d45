use Rattle.merge_certificates.specs.Failing.{AgreeKinds}
use Rattle.merge_certificates.proofs.failing.agreeing_kinds.Given as goal

abbrev pub invariant-loop-i : goal.invariant-loop-i
invariant-loop-i g l = AgreeKinds (g.J.Judge.judgement l.graph.judge) l.e l.one l.kinds l.set
