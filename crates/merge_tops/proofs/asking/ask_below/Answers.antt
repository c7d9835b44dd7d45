use Rattle.std.proofs.Common.{arith, inl, inr}
use Rattle.merge_search.proofs.Budgets.{asks_upto, counts_one}
use Rattle.merge_tops.proofs.asking.ask_below.Goals as goal

pub returns-clause-counts : goal.returns-clause-counts
returns-clause-counts g c = asks_upto _ _ _ _ c.count_fields.ensures (omega arith)

pub returns-clause-ticks : goal.returns-clause-ticks
returns-clause-ticks g c = λ some. elim (c.in_ok-below.ensures.ticks some) [
  | inl leaves ↦ inl leaves
  | inr ticks ↦ inr (counts_one _ _ _ c.count_fields.ensures (omega (arith, ticks)))
]
