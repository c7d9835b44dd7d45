use Rattle.std.proofs.Common.{◌∙◌}
use Rattle.graphql_lexer.specs.Seen.{seen}
use Rattle.graphql_lexer.proofs.Inline.{stop_inline}
use Rattle.graphql_lexer.proofs.scan.on_line.Goals as goal

pub returns-clause-stop : goal.returns-clause-stop
returns-clause-stop c =
    c.along.ensures.exact ∙ stop_inline c.args.start c.args.text.now (seen c.args.token) c.args.count c.requires.front c.requires.inline
