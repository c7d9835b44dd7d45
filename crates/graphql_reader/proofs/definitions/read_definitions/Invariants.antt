use Rattle.std.proofs.Common.{length, map}
use Rattle.graphql_lexer.specs.Ahead.{left}
use Rattle.graphql_reader.specs.Arguments.{SpellsEach}
use Rattle.graphql_reader.specs.Documents.{SpellsDefinition, definition_seen}
use Rattle.graphql_reader.specs.Languages.{ADocument, AtEnd, Leaves}
use Rattle.graphql_reader.specs.Passed.{Reads}
use Rattle.graphql_reader.proofs.LanguageLaws.{DocumentParts}
use Rattle.graphql_reader.proofs.definitions.read_definitions.Given as goal

-- the tokens spell the definitions so far, and another comes next
abbrev pub invariant-loop-definitions : goal.invariant-loop-definitions
invariant-loop-definitions l = record {
  tree : Reads (SpellsEach (SpellsDefinition l.fn.max_depth) (map definition_seen l.definitions.items)) l.initial.tokens l.tokens;
  leaves : Leaves l.fn.max_depth AtEnd ADocument DocumentParts l.initial.tokens l.tokens;
}

abbrev pub decreases-loop-definitions : goal.decreases-loop-definitions
decreases-loop-definitions l = length (left l.tokens)
