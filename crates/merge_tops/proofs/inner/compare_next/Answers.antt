use Rattle.std.proofs.Common.{false}
use Rattle.merge_sets.specs.World.{world}
use Rattle.merge_search.specs.Reports.{AtPlaces}
use Rattle.merge_search.proofs.Adding.{adds_none}
use Rattle.merge_search.proofs.Work.{did_none}
use Rattle.merge_tops.proofs.inner.compare_next.Goals as goal

pub returns-then-place-next-clause-done : goal.returns-then-place-next-clause-done
returns-then-place-next-clause-done g c = did_none (world g.J.Judge.judgement c.args.graph.now) _ c.args.search.now (λ M k. tt)

pub returns-then-place-next-clause-real : goal.returns-then-place-next-clause-real
returns-then-place-next-clause-real g c = adds_none (world g.J.Judge.judgement c.args.graph.now) false (AtPlaces (world g.J.Judge.judgement c.args.graph.now) c.args.s) _
