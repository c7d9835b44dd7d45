use Rattle.graphql_lexer.specs.Ahead.{ahead_of}
use Rattle.graphql_reader.proofs.ConstantLaws.{not_so}
use Rattle.graphql_reader.proofs.DocumentLeaveLaws.{no_definition}
use Rattle.graphql_reader.proofs.LeavesLaws.{placed_fault}
use Rattle.graphql_reader.proofs.definitions.read_definition.Goals as goal

pub returns-clause-stuck : goal.returns-clause-stuck
returns-clause-stuck c =
    no_definition (not_so c.is.result _ c.is.ensures c.if-is.false) c.in_default.ensures.other (not_so c.is_word.result _ c.is_word.ensures c.if-is_word.false) (placed_fault (ahead_of c.args.tokens.now) c.fault.result c.fault.ensures)
