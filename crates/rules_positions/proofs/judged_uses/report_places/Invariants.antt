use Rattle.std.proofs.Common.{take}
use Rattle.walk.specs.Entering.{EachGives}
use Rattle.walk.specs.Rule.{Appended}
use Rattle.rules_positions.specs.FirstVariables.{kept_first}
use Rattle.rules_positions.specs.JudgedUses.{UsesGive, uses_in, values_in}
use Rattle.rules_positions.proofs.judged_uses.report_places.Given as goal

-- those that were seen are judged
abbrev pub invariant-loop-place : goal.invariant-loop-place
invariant-loop-place g l =
    Appended (EachGives (λ place fs. UsesGive g.J.Judge.variable_of g.J.Judge.judged l.fn.ctx.schema.types (kept_first l.variables) (uses_in (values_in g.J.Judge.value l.uses) place) fs) (take l.place-index l.places)) l.fn.ctx l.ctx
