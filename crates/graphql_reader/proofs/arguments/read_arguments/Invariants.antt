use Rattle.std.proofs.Common.{length, map}
use Rattle.graphql_lexer.specs.Ahead.{left}
use Rattle.graphql_reader.specs.Arguments.{SpellsArgument, argument_seen}
use Rattle.graphql_reader.specs.Languages.{InParens, Leaves, NoParen, Perhaps}
use Rattle.value_reader.specs.Seen.{rules_of}
use Rattle.graphql_reader.proofs.ArgumentLaws.{Reached}
use Rattle.graphql_reader.proofs.LanguageLaws.{BegunArguments}
use Rattle.graphql_reader.proofs.arguments.read_arguments.Given as goal

-- the tokens behind the parenthesis spell the arguments so far, and another comes next
abbrev pub invariant-loop-items : goal.invariant-loop-items
invariant-loop-items l = record {
  tree : Reached (SpellsArgument (rules_of l.fn.variables l.fn.max_depth)) (left l.initial.tokens) (map argument_seen l.items.items) (left l.tokens);
  leaves : Leaves l.fn.max_depth NoParen (Perhaps (InParens l.fn.variables)) (BegunArguments l.fn.variables) l.fn.tokens l.tokens;
}

abbrev pub decreases-loop-items : goal.decreases-loop-items
decreases-loop-items l = length (left l.tokens)
