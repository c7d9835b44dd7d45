use Rattle.std.proofs.Common.{◌≡◌, List, drop}
use Rattle.walk.specs.ContextState.{with_errors}
use Rattle.walk.specs.ErrorValue.{ErrorValue}
use Rattle.rules_specified.proofs.Telling.{Goes}
use Rattle.rules_specified.proofs.single_root_field.report_each.Given as goal

-- what is told of the rest comes after what was reported
abbrev pub invariant-loop-definition : goal.invariant-loop-definition
invariant-loop-definition g l =
    (es : List ErrorValue) × (l.ctx ≡ with_errors l.initial.ctx es)
    × Goes g.S.ScalarValue.bool_of l.initial.ctx.schema l.root.document.now l.definitions (drop l.definition-index l.definitions) es
