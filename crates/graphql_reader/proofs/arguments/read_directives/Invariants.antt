use Rattle.std.proofs.Common.{◌≡◌, length, [], map}
use Rattle.graphql_lexer.specs.Ahead.{ahead_of, left}
use Rattle.graphql_lexer.specs.Lexical.{punctuator}
use Rattle.graphql_lexer.specs.declared.lexer.Punctuator.TheVariants.{At}
use Rattle.value_reader.specs.Seen.{rules_of}
use Rattle.graphql_reader.specs.Arguments.{directive_seen, SpellsDirective, SpellsEach}
use Rattle.graphql_reader.specs.Languages.{Leaves, Marks, NoMarks}
use Rattle.graphql_reader.specs.Passed.{Reads}
use Rattle.graphql_reader.proofs.arguments.read_directives.Given as goal

-- the tokens spell the directives so far, and where there is none yet, one comes next
abbrev pub invariant-loop-variables : goal.invariant-loop-variables
invariant-loop-variables l = record {
  reached : Reads (SpellsEach (SpellsDirective (rules_of l.fn.variables l.fn.max_depth)) (map directive_seen l.directives.items)) l.fn.tokens l.tokens;
  leaves : Leaves l.fn.max_depth NoMarks (Marks l.fn.variables) (Marks l.fn.variables) l.fn.tokens l.tokens;
  begun : map directive_seen l.directives.items ≡ [] → (ahead_of l.tokens).token ≡ punctuator At;
}

abbrev pub decreases-loop-variables : goal.decreases-loop-variables
decreases-loop-variables l = length (left l.tokens)
