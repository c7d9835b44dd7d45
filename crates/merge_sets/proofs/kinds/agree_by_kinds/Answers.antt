use Rattle.merge_sets.proofs.OneOfKind.{rows_all}
use Rattle.merge_sets.proofs.kinds.agree_by_kinds.Goals as goal

pub returns-clause-agree : goal.returns-clause-agree
returns-clause-agree g c =
    let j = g.J.Judge.judgement c.args.graph.now.judge in
    rows_all j c.args.e c.args.left.now c.args.right.now c.in_ok-rows.rows c.in_ok-rows.ensures.rows c.are_all_in.result c.are_all_in.ensures
