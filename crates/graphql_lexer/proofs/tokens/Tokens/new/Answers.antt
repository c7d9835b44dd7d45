use Rattle.std.proofs.Common.{List, sym, subst, ◌∙◌}
use Rattle.graphql_lexer.specs.Lexemes.{Lexeme, AreLexemes, origin}
use Rattle.graphql_lexer.specs.Seen.{seen}
use Rattle.graphql_lexer.proofs.Lists.{tokens_are}
use Rattle.graphql_lexer.proofs.Progress.{joined}
use Rattle.graphql_lexer.proofs.Unique.{only_tokens}
use Rattle.graphql_lexer.proofs.tokens.Tokens.new.Goals as goal

pub returns : goal.returns
returns c =
    let text = c.args.text.now in
    let same = joined origin c.scan.result.start c.scan.result.stop text c.scan.result.rest.now (seen c.scan.result.token) c.scan.ensures.token c.scan.ensures.start c.scan.ensures.stop c.scan.ensures.rest in
    let P : List Lexeme → Type 0 = λ ls. AreLexemes text ls in
    record {
      lexemes = subst P (sym same) (tokens_are text);
      only = λ ls h. only_tokens text ls h ∙ sym same;
    }
