use Rattle.std.proofs.Common.{◌≡◌, ◌≤◌, length, take, sym, subst, ◌∙◌, arith}
use Rattle.std.proofs.lemmas.Grind.{common_steps}
use Rattle.std.specs.Str.{IsUtf8}
use Rattle.graphql_lexer.proofs.Written.{front_there, front_bad}
use Rattle.graphql_lexer.proofs.lexer.front.Goals as goal

pub returns-in-Ok : goal.returns-in-Ok
returns-in-Ok c =
    let within : c.args.count ≤ length c.args.text.now = grind (arith, common_steps) in
    let same : c.in-Some.bytes.now ≡ take c.args.count c.args.text.now = grind (arith, common_steps) in
    front_there c.args.text.now c.in-Ok.written.now c.args.count within (c.in-Ok.ensures.cases.0 ∙ same) (subst IsUtf8 same c.in-Ok.ensures.cases.1)

pub returns-in-Err : goal.returns-in-Err
returns-in-Err c =
    let same : c.in-Some.bytes.now ≡ take c.args.count c.args.text.now = grind (arith, common_steps) in
    front_bad c.args.text.now c.args.count (λ u. c.in-Err.ensures.cases.0 (subst IsUtf8 (sym same) u))
