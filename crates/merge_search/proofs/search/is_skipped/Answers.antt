use Rattle.merge_sets.specs.World.{world}
use Rattle.merge_sets.proofs.Laws.{on_true_weaker}
use Rattle.merge_search.proofs.Steps.{skipped}
use Rattle.merge_search.proofs.search.is_skipped.Goals as goal

pub returns-in_default : goal.returns-in_default
returns-in_default g c =
    let v = world g.J.Judge.judgement c.args.graph.now in
    on_true_weaker c.is_full.result (λ full. skipped v c.args.task.now c.args.search.now full c.in_default.not-Close c.in_default.not-Mark) c.is_full.ensures
