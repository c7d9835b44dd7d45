use Rattle.std.proofs.Common.{map, take}
use Rattle.walk.specs.Rule.{Appended}
use Rattle.rules_positions.specs.FirstVariables.{kept_first}
use Rattle.rules_positions.specs.JudgedUses.{UsesGive}
use Rattle.rules_positions.proofs.judged_uses.report_uses.Given as goal

-- those that were seen are judged
abbrev pub invariant-loop-found : goal.invariant-loop-found
invariant-loop-found g l =
    Appended (UsesGive g.J.Judge.variable_of g.J.Judge.judged l.fn.ctx.schema.types (kept_first l.variables) (map g.J.Judge.value (take l.found-index l.uses))) l.fn.ctx l.ctx
