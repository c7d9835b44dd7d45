use Rattle.std.proofs.Common.{[], take}
use Rattle.jagged_lists.specs.Lists.{Holds}
use Rattle.fragment_reach.specs.OperationSpreads.{resolved_lists}
use Rattle.fragment_reach.proofs.reached.operation_spreads.Given as goal

abbrev pub invariant-loop-definition : goal.invariant-loop-definition
invariant-loop-definition g l = Holds (resolved_lists l.numbers (take l.definition-index l.document)) [] l.found
