use Rattle.std.proofs.Common.{◌≡◌, ◌+◌, length}
use Rattle.graphql_lexer.specs.Places.{Counts}
use Rattle.graphql_lexer.specs.Scan.{ahead, start_at}
use Rattle.graphql_lexer.proofs.ignored.skip.Given as goal

-- the next token is the same, at the same place
abbrev pub invariant-loop-more : goal.invariant-loop-more
invariant-loop-more l = record {
  same_start : start_at l.cursor l.ahead ≡ start_at l.fn.cursor l.fn.text;
  same_ahead : ahead l.ahead ≡ ahead l.fn.text;
  index : l.cursor.index + length l.ahead ≡ l.fn.cursor.index + length l.fn.text;
  counts : Counts l.cursor;
}

abbrev pub decreases-loop-more : goal.decreases-loop-more
decreases-loop-more l = length l.ahead
