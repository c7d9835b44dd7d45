use Rattle.std.proofs.Common.{sym, ap, ◌∙◌}
use Rattle.graphql_lexer.specs.Lexical.{name as name_token}
use Rattle.graphql_lexer.specs.Seen.{seen}
use Rattle.graphql_reader.proofs.definitions.operation_type_ahead.Goals as goal

pub returns-in-Name-subscription-clause-kind : goal.returns-in-Name-subscription-clause-kind
returns-in-Name-subscription-clause-kind c =
    sym c.ahead.ensures ∙ ap seen c.in-Name-subscription.is ∙ ap name_token c.in-Name-subscription.is-subscription
