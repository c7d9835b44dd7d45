use Rattle.std.proofs.Common.{◌≤◌, length, arith}
use Rattle.std.proofs.lemmas.Grind.{common_steps}
use Rattle.graphql_strings.proofs.EscapeLaws.{escape_short}
use Rattle.graphql_strings.proofs.escapes.escape_at.Goals as goal

pub returns-in-None-clause-exact : goal.returns-in-None-clause-exact
returns-in-None-clause-exact c =
    let short : length c.args.text.now ≤ 1 = first_of (grind (arith, common_steps), omega (arith, c.in-None.ensures.lookup)) in
    escape_short c.args.text.now short
