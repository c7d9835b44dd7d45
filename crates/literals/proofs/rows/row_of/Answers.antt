use Rattle.std.proofs.Common.{◌∙◌}
use Rattle.literals.proofs.rows.row_of.Goals as goal

pub returns-in-Decides-clause-row : goal.returns-in-Decides-clause-row
returns-in-Decides-clause-row g c = λ schema fault says. c.loop-row.invariant.0 schema fault (c.in-Decides.ensures.step schema fault says)

pub loop-row-preserved : goal.loop-row-preserved
loop-row-preserved g c =
    (λ schema fault j. c.loop-row.invariant.0 schema fault (c.in-Passes.ensures.step schema fault j), c.in-Passes.ensures.metadata ∙ c.loop-row.invariant.1)
