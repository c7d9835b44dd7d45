use Rattle.std.proofs.Common.{arith}
use Rattle.merge_sets.proofs.Laws.{on_true_weaker}
use Rattle.merge_search.proofs.Budgets.{asks_upto, counts_one}
use Rattle.merge_search.proofs.passing.ask_clear.Goals as goal

pub returns-clause-counts : goal.returns-clause-counts
returns-clause-counts g c = asks_upto _ _ _ _ c.count_fields.ensures (omega arith)

pub returns-clause-ticks : goal.returns-clause-ticks
returns-clause-ticks g c =
    on_true_weaker c.in_ok-is_clear.is_clear
    (λ ticks some. counts_one _ _ _ c.count_fields.ensures (omega (arith, ticks some)))
    c.in_ok-is_clear.ensures.ticks
