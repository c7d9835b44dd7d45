use Rattle.std.proofs.Common.{◌≡◌, map, take}
use Rattle.walk.specs.ContextState.{with_errors}
use Rattle.variable_usages.specs.Unused.{unused_of}
use Rattle.rules_document.specs.NoUnusedVariables.{unused_variable_error}
use Rattle.rules_document.proofs.no_unused_variables.report_all.Given as goal

-- those that were seen are reported
abbrev pub invariant-loop-variable : goal.invariant-loop-variable
invariant-loop-variable g l = l.ctx ≡ with_errors l.fn.ctx (map unused_variable_error (map unused_of (take l.variable-index l.found)))
