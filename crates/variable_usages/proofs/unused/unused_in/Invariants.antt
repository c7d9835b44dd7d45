use Rattle.std.proofs.Common.{map, take}
use Rattle.operation_scopes.specs.Index.{operation_names}
use Rattle.operation_scopes.specs.Searches.{IsReady}
use Rattle.variable_usages.specs.InReachUses.{InTurn}
use Rattle.variable_usages.specs.Unused.{UnusedIn, unused_of}
use Rattle.variable_usages.proofs.unused.unused_in.Given as goal

-- the variables of the names that were seen are reported
abbrev pub invariant-loop-number : goal.invariant-loop-number
invariant-loop-number g l = InTurn (UnusedIn l.document) (take l.number (operation_names l.index.scopes)) (map unused_of l.found.items) × IsReady l.index.scopes l.search.search
