use Rattle.rules_positions.specs.FirstVariables.{kept_first}
use Rattle.rules_positions.specs.JudgedUses.{JudgedIfDefined}
use Rattle.rules_positions.proofs.Giving.{appended_mapped}
use Rattle.rules_positions.proofs.judged_uses.report_uses.Goals as goal

pub loop-found-preserved : goal.loop-found-preserved
loop-found-preserved g c =
    appended_mapped (λ types v fs. JudgedIfDefined g.J.Judge.judged types (kept_first c.args.variables.now (g.J.Judge.variable_of v)) v fs) c.args.ctx.now g.J.Judge.value c.args.uses.now c.loop-found.found-index c.found-item.result c.found-item.result
    c.loop-found.ctx c.report_use.new.ctx c.found-item.is c.loop-found-test.true c.loop-found.invariant c.in_ok-report_use.ensures.ok
