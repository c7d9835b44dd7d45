use Rattle.std.proofs.Common.{false}
use Rattle.merge_sets.specs.World.{world}
use Rattle.merge_search.specs.Reports.{AtPlaces}
use Rattle.merge_search.proofs.Adding.{adds_none}
use Rattle.merge_search.proofs.Work.{did_none}
use Rattle.merge_tops.proofs.inner.search_inner.Goals as goal

pub returns-then-is_empty-clause-done : goal.returns-then-is_empty-clause-done
returns-then-is_empty-clause-done g c = did_none (world g.J.Judge.judgement c.args.graph.now) _ c.args.search.now (λ M k. tt)

pub returns-then-is_empty-clause-real : goal.returns-then-is_empty-clause-real
returns-then-is_empty-clause-real g c = adds_none (world g.J.Judge.judgement c.args.graph.now) false (AtPlaces (world g.J.Judge.judgement c.args.graph.now) c.args.s) _
