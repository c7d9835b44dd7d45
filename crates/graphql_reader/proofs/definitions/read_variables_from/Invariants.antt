use Rattle.std.proofs.Common.{length, map}
use Rattle.graphql_lexer.specs.Ahead.{left}
use Rattle.graphql_reader.specs.Documents.{SpellsVariableDefinition, variable_seen}
use Rattle.graphql_reader.specs.Languages.{Anything, BegunVariables, Leaves}
use Rattle.graphql_reader.proofs.ArgumentLaws.{Reached}
use Rattle.graphql_reader.proofs.definitions.read_variables_from.Given as goal

-- the tokens behind the parenthesis spell the variables so far, and another comes next
abbrev pub invariant-loop-items : goal.invariant-loop-items
invariant-loop-items l = record {
  tree : Reached (SpellsVariableDefinition l.fn.max_depth) (left l.fn.tokens) (map variable_seen l.items.items) (left l.tokens);
  leaves : Leaves l.fn.max_depth Anything BegunVariables BegunVariables l.fn.tokens l.tokens;
}

abbrev pub decreases-loop-items : goal.decreases-loop-items
decreases-loop-items l = length (left l.tokens)
