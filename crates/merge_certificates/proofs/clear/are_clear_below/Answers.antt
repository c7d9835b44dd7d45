use Rattle.merge_sets.specs.World.{world}
use Rattle.merge_certificates.proofs.ClearLists.{lefts_below}
use Rattle.merge_certificates.proofs.clear.are_clear_below.Goals as goal

pub returns-then-are_leaves-clause-clear : goal.returns-then-are_leaves-clause-clear
returns-then-are_leaves-clause-clear g c = lefts_below (world g.J.Judge.judgement c.args.graph.now) c.args.e c.args.fields.now c.args.fields.now c.if-are_leaves.ensures
