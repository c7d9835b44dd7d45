use Rattle.std.proofs.Common.{arith, length, length-drop}
use Rattle.merge_search.proofs.Budgets.{asks_upto, counts_one}
use Rattle.merge_search.proofs.passing.ask_others.Goals as goal

pub returns-clause-counts : goal.returns-clause-counts
returns-clause-counts g c =
    let rows = c.args.rows.now in
    asks_upto _ _ _ _ c.count_fields.ensures (omega (arith, length-drop (length rows.left.items) rows.fields.items))

pub returns-clause-ticks : goal.returns-clause-ticks
returns-clause-ticks g c =
    λ listed less. counts_one _ _ _ c.count_fields.ensures (omega (arith, c.in_ok-others.ensures.ticks listed less))

pub returns-clause-others : goal.returns-clause-others
returns-clause-others g c = c.in_ok-others.ensures.others

pub returns-clause-once : goal.returns-clause-once
returns-clause-once g c = c.in_ok-others.ensures.once
