use Rattle.std.proofs.Common.{arith, inl, inr}
use Rattle.merge_search.proofs.Budgets.{asks_upto, counts_one}
use Rattle.merge_search.proofs.passing.ask_pairs.Goals as goal

pub returns-clause-counts : goal.returns-clause-counts
returns-clause-counts g c = asks_upto _ _ _ _ c.count_fields.ensures (omega arith)

pub returns-clause-below : goal.returns-clause-below
returns-clause-below g c = λ some. elim (c.in_ok-rows.ensures.below some) [
  | inl leaves ↦ inl leaves
  | inr ticks ↦ inr (counts_one _ _ _ c.count_fields.ensures (omega (arith, ticks)))
]

pub returns-clause-kinds : goal.returns-clause-kinds
returns-clause-kinds g c = λ some. counts_one _ _ _ c.count_fields.ensures (omega (arith, c.in_ok-rows.ensures.kinds some))

pub returns-clause-left : goal.returns-clause-left
returns-clause-left g c = c.in_ok-rows.ensures.left

pub returns-clause-right : goal.returns-clause-right
returns-clause-right g c = c.in_ok-rows.ensures.right

pub returns-clause-knows : goal.returns-clause-knows
returns-clause-knows g c = c.in_ok-rows.ensures.knows
