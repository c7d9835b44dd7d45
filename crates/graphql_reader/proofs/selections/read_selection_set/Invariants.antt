use Rattle.std.proofs.Common.{length, reverse}
use Rattle.graphql_lexer.specs.Ahead.{left}
use Rattle.graphql_reader.specs.OpenSets.{Standing}
use Rattle.graphql_reader.proofs.selections.read_selection_set.Given as goal

-- what was taken spells the sets that are begun, and what is left of them comes next
abbrev pub invariant-loop-turn : goal.invariant-loop-turn
invariant-loop-turn l = record {
  standing : Standing l.fn.max_depth l.fn.tokens (reverse l.open.firsts.items) l.open.nodes.items l.tokens;
}

abbrev pub decreases-loop-turn : goal.decreases-loop-turn
decreases-loop-turn l = length (left l.tokens)
