use Rattle.merge_sets.specs.World.{world}
use Rattle.merge_certificates.proofs.ClearLists.{both_clear, rows_below}
use Rattle.merge_certificates.proofs.clear.clear_rows.Goals as goal

pub returns-then-branch-clause-rows : goal.returns-then-branch-clause-rows
returns-then-branch-clause-rows g c =
    let v = world g.J.Judge.judgement c.args.graph.now in
    rows_below v c.args.e _ c.args.left.now c.args.right.now c.in_ok-rows.rows c.in_ok-rows.ensures.rows c.in_ok-are_clear_between.ensures.clear c.if-branch.true

pub returns-clause-rows : goal.returns-clause-rows
returns-clause-rows g c =
    let v = world g.J.Judge.judgement c.args.graph.now in
    both_clear v c.args.e c.args.left.now c.args.right.now c.in_ok-rows.rows c.in_ok-below.below c.in_ok-both.both c.in_ok-rows.ensures.rows c.in_ok-below.ensures.rows c.in_ok-both.ensures.both
