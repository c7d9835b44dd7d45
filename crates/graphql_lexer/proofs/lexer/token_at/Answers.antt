use Rattle.std.proofs.Common.{ℕ, sym, subst, ap, ◌∙◌}
use Rattle.graphql_lexer.specs.Lexemes.{IsFront}
use Rattle.graphql_lexer.specs.Lexical.{Token}
use Rattle.graphql_lexer.specs.Scanning as spec
use Rattle.graphql_lexer.proofs.Found.{tokens_found}
use Rattle.graphql_lexer.proofs.Read.{tokens_read}
use Rattle.graphql_lexer.proofs.lexer.token_at.Goals as goal

pub returns : goal.returns
returns c =
    let text = c.args.text.now in
    let P : Token × ℕ → Type 0 = λ x. IsFront text x in
    record {
      found = subst P (sym c.scanned_at.ensures) (tokens_found text);
      only = λ t s r h k. c.scanned_at.ensures ∙ ap spec.token_at k ∙ tokens_read t s r h;
    }
