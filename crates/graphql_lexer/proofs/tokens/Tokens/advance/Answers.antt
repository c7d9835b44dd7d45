use Rattle.std.proofs.Common.{◌∙◌}
use Rattle.graphql_lexer.specs.Lexemes.{is_last}
use Rattle.graphql_lexer.specs.Scan.{tokens_from}
use Rattle.graphql_lexer.specs.Seen.{seen}
use Rattle.graphql_lexer.proofs.Progress.{joined, not_last}
use Rattle.graphql_lexer.proofs.tokens.Tokens.advance.Goals as goal

pub returns-clause-left : goal.returns-clause-left
returns-clause-left c more =
    let before = c.args.self.now.scanned in
    let after = c.advance.new.self in
    joined before.stop after.start after.stop before.rest.now after.rest.now (seen after.token) c.advance.ensures.token c.advance.ensures.start c.advance.ensures.stop c.advance.ensures.rest
    ∙ not_last (is_last (seen before.token)) (tokens_from before.stop before.rest.now) more
