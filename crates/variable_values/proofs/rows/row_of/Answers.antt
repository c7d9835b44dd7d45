use Rattle.std.proofs.Common.{◌∙◌}
use Rattle.variable_values.proofs.rows.row_of.Goals as goal

pub returns-in-Decides-clause-row : goal.returns-in-Decides-clause-row
returns-in-Decides-clause-row g c = λ schema fs says. c.loop-row.invariant.0 schema fs (c.in-Decides.ensures.step schema fs says)

pub loop-row-preserved : goal.loop-row-preserved
loop-row-preserved g c =
    (λ schema fs j. c.loop-row.invariant.0 schema fs (c.in-Passes.ensures.step schema fs j), c.in-Passes.ensures.name ∙ c.loop-row.invariant.1)
