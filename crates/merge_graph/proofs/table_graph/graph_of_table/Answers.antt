use Rattle.std.proofs.Common.{length, ap, arith}
use Rattle.merge_graph.proofs.SetLaws.{falling, listed}
use Rattle.merge_graph.proofs.Shares.{equally_large}
use Rattle.merge_graph.proofs.table_graph.graph_of_table.Goals as goal

pub invariant_of-result : goal.invariant_of-result
invariant_of-result g c =
    let same = c.in_ok-sets.ensures in
    record {
      falling = falling c.in_ok-sets.sets.items c.args.table.sets.items same c.args.fragments.items c.requires.falling;
      listed = listed c.args.fragments.items c.args.order.items c.requires.listed;
    }

pub returns-clause-size : goal.returns-clause-size
returns-clause-size g c =
    omega (arith, equally_large c.in_ok-sets.sets.items c.args.table.sets.items c.in_ok-sets.ensures, ap (λ v. length v.items) c.judge_fields.ensures.fields)
