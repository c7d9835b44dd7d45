use Rattle.graphql_lexer.proofs.Unique.{one_token}
use Rattle.graphql_lexer.proofs.laws.one_token.Goals as goal

pub returns : goal.returns
returns c = one_token
