use Rattle.std.proofs.Common.{sym, ◌∙◌}
use Rattle.graphql_lexer.proofs.Unique.{only_tokens}
use Rattle.graphql_lexer.proofs.laws.one_list.Goals as goal

pub returns : goal.returns
returns c text xs ys h k = only_tokens text xs h ∙ sym (only_tokens text ys k)
