use Rattle.std.proofs.Common.{◌≡◌, map, take}
use Rattle.walk.specs.ContextState.{with_errors}
use Rattle.variable_usages.specs.Undefined.{undefined_of}
use Rattle.rules_document.specs.NoUndefinedVariables.{undefined_error}
use Rattle.rules_document.proofs.no_undefined_variables.report_all.Given as goal

-- those that were seen are reported
abbrev pub invariant-loop-variable : goal.invariant-loop-variable
invariant-loop-variable g l = l.ctx ≡ with_errors l.fn.ctx (map undefined_error (map undefined_of (take l.variable-index l.found)))
