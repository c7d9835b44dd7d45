use Rattle.std.proofs.Common.{◌≡◌, ◌+◌, drop}
use Rattle.graphql_lexer.specs.Scanning.{block_length}
use Rattle.graphql_lexer.proofs.lexer.block_length.Given as goal

-- what is left to count
abbrev pub invariant-loop-index : goal.invariant-loop-index
invariant-loop-index l = l.index + block_length l.escaped (drop l.index l.body) ≡ block_length 0 l.body
