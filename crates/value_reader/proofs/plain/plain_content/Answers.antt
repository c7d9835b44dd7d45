use Rattle.std.proofs.lemmas.Result.{IfOk-weaker, MatchResult-weaker}
use Rattle.graphql_lexer.specs.Ahead.{ahead_of}
use Rattle.value_reader.specs.Seen.{content_seen}
use Rattle.value_reader.proofs.Turns.{string_content, string_refusal, block_string_refusal}
use Rattle.value_reader.proofs.plain.plain_content.Goals as goal

pub returns-in-String-clause-value : goal.returns-in-String-clause-value
returns-in-String-clause-value c =
    IfOk-weaker c.string_content.result _ _ (λ v h. string_content (ahead_of c.args.tokens.now).token (content_seen v) h) c.string_content.ensures.value

pub returns-in-String-clause-refused : goal.returns-in-String-clause-refused
returns-in-String-clause-refused c =
    MatchResult-weaker c.string_content.result c.string_content.ensures.refused (λ v h. h) (λ e h. string_refusal (ahead_of c.args.tokens.now) _ e c.in-String.ensures h)

pub returns-in-BlockString-clause-value : goal.returns-in-BlockString-clause-value
returns-in-BlockString-clause-value c =
    IfOk-weaker c.string_content-in-BlockString.result _ _ (λ v h. string_content (ahead_of c.args.tokens.now).token (content_seen v) h) c.string_content-in-BlockString.ensures.value

pub returns-in-BlockString-clause-refused : goal.returns-in-BlockString-clause-refused
returns-in-BlockString-clause-refused c =
    MatchResult-weaker c.string_content-in-BlockString.result c.string_content-in-BlockString.ensures.refused (λ v h. h) (λ e h. block_string_refusal (ahead_of c.args.tokens.now) _ e c.in-BlockString.ensures h)
