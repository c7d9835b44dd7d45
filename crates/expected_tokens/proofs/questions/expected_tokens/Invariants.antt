use Rattle.std.proofs.Common.{List, take}
use Rattle.expected_tokens.specs.Answers.{Chosen}
use Rattle.expected_tokens.specs.Stops.{Begun}
use Rattle.expected_tokens.proofs.Laws.{Sifted}
use Rattle.graphql_lexer.specs.Lexemes.{Lexeme}
use Rattle.graphql_lexer.specs.declared.cursor.Cursor.{Cursor}
use Rattle.expected_tokens.proofs.questions.expected_tokens.Given as goal

-- of those asked for so far the ones that may follow are found, in order
abbrev pub invariant-loop-candidate : goal.invariant-loop-candidate
invariant-loop-candidate l = record {
  sifted : (before : List Lexeme) (p : Cursor) → Begun l.front before p
      → Sifted (take l.candidate-index l.candidates) l.found.items before p;
  order : Chosen (take l.candidate-index l.candidates) l.found.items;
}
