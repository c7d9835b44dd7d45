use Rattle.graphql_lexer.specs.Seen.{seen}
use Rattle.graphql_lexer.proofs.Inline.{token_within}
use Rattle.graphql_lexer.proofs.scan.Scanned.advance.Goals as goal

pub on_line-requires-clause-within : goal.on_line-requires-clause-within
on_line-requires-clause-within c = token_within c.skip-ahead.result.now (seen c.in-Some.token) c.in-Some.count c.in-Some.ensures.exact
