use Rattle.std.proofs.Common.{◌≡◌, List, map, take}
use Rattle.operation_scopes.specs.Index.{operation_names}
use Rattle.operation_scopes.specs.Searches.{IsReady}
use Rattle.walk.specs.ContextState.{with_errors}
use Rattle.variable_usages.specs.InReachUses.{InTurn}
use Rattle.variable_usages.specs.Undefined.{Undefined, UndefinedIn}
use Rattle.rules_document.specs.NoUndefinedVariables.{undefined_error}
use Rattle.rules_document.proofs.no_undefined_variables.report_undefined.Given as goal

-- the variables of the names that were seen are reported
abbrev pub invariant-loop-number : goal.invariant-loop-number
invariant-loop-number g l =
    (found : List Undefined) × InTurn (UndefinedIn l.document) (take l.number (operation_names l.index.scopes)) found
    × (l.ctx ≡ with_errors l.fn.ctx (map undefined_error found)) × IsReady l.index.scopes l.search.search
