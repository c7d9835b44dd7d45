use Rattle.std.proofs.Common.{◌≡◌, ◌+◌, take}
use Rattle.graphql_lexer.specs.Places.{after_all, Counts}
use Rattle.graphql_lexer.proofs.cursor.after_all.Given as goal

abbrev pub invariant-loop-byte : goal.invariant-loop-byte
invariant-loop-byte l = record {
  so_far : l.cursor ≡ after_all l.fn.before (take l.byte-index l.bytes);
  index : l.cursor.index ≡ l.fn.before.index + l.byte-index;
  counts : Counts l.cursor;
}
