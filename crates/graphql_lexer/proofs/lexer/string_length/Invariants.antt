use Rattle.std.proofs.Common.{◌≡◌, ◌+◌, drop, false}
use Rattle.graphql_lexer.specs.Scanning.{string_length}
use Rattle.graphql_lexer.proofs.lexer.string_length.Given as goal

-- what is counted, and what is left to count
abbrev pub invariant-loop-byte : goal.invariant-loop-byte
invariant-loop-byte l = record {
  counted : l.length ≡ l.byte-index;
  left : l.length + string_length l.is_escaped (drop l.byte-index l.body) ≡ string_length false l.body;
}
