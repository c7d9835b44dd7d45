use Rattle.graphql_lexer.specs.Ahead.{ahead_of}
use Rattle.graphql_reader.proofs.LeavesLaws.{placed_fault}
use Rattle.graphql_reader.proofs.expected.name.Goals as goal

pub returns-in_default-clause-placed : goal.returns-in_default-clause-placed
returns-in_default-clause-placed c = placed_fault (ahead_of c.args.tokens.now) c.fault.result c.fault.ensures
