use Rattle.graphql_lexer.specs.Ahead.{ahead_of}
use Rattle.graphql_reader.proofs.LeavesLaws.{placed_fault}
use Rattle.graphql_reader.proofs.expected.expect.Goals as goal

pub returns-else-take-clause-placed : goal.returns-else-take-clause-placed
returns-else-take-clause-placed c = placed_fault (ahead_of c.take.new.self) c.fault.result c.fault.ensures
