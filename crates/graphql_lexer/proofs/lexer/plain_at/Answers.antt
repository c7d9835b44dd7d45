use Rattle.std.proofs.Common.{◌≡◌, ◌∙◌, true, arith}
use Rattle.std.proofs.lemmas.Grind.{common_steps}
use Rattle.graphql_strings.specs.Characters.{at}
use Rattle.graphql_lexer.specs.Lexical.{is_name_start}
use Rattle.graphql_lexer.proofs.Names.{named}
use Rattle.graphql_lexer.proofs.lexer.plain_at.Goals as goal

pub returns-in-Some-clause-exact : goal.returns-in-Some-clause-exact
returns-in-Some-clause-exact c =
    let start : is_name_start (at c.args.text.now 0) ≡ true = grind (arith, common_steps) in
    c.name_at.ensures ∙ named c.args.text.now start
