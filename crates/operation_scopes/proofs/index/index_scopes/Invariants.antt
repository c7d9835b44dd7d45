use Rattle.std.proofs.Common.{take}
use Rattle.operation_scopes.proofs.Indexing.{Indexed}
use Rattle.operation_scopes.proofs.index.index_scopes.Given as goal

-- the definitions that were seen are listed
abbrev pub invariant-loop-place : goal.invariant-loop-place
invariant-loop-place g l = Indexed l.document (take l.place l.document) l.numbers l.index
