use Rattle.std.proofs.Common.{◌≡◌, ◌≤◌, take, length}
use Rattle.rules_operations.specs.LoneAnonymousOperation.{operations}
use Rattle.rules_operations.proofs.lone_anonymous_operation.operation_count.Given as goal

-- those that were seen are counted
abbrev pub invariant-loop-definition : goal.invariant-loop-definition
invariant-loop-definition g l =
    (l.count ≡ length (operations (take l.definition-index l.document))) × (l.count ≤ l.definition-index)
