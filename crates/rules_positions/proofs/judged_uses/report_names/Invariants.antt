use Rattle.std.proofs.Common.{take}
use Rattle.walk.specs.Entering.{EachGives}
use Rattle.walk.specs.Rule.{Appended}
use Rattle.operation_scopes.specs.Index.{operation_names}
use Rattle.operation_scopes.specs.Searches.{IsReady}
use Rattle.rules_positions.specs.JudgedUses.{OperationsGive, values_in}
use Rattle.rules_positions.proofs.judged_uses.report_names.Given as goal

-- those of the names that were seen are judged
abbrev pub invariant-loop-number : goal.invariant-loop-number
invariant-loop-number g l =
    IsReady l.index l.search
    × Appended (EachGives (OperationsGive g.J.Judge.variable_of g.J.Judge.judged l.fn.ctx.schema.types l.document (values_in g.J.Judge.value l.uses)) (take l.number (operation_names l.index))) l.fn.ctx l.ctx
