use Rattle.std.proofs.Common.{◌≡◌, ◌≤◌, ℕ, Option, false, nat_lt, sym, subst, arith}
use Rattle.std.proofs.lemmas.Bool.Decides.{nat_tests}
use Rattle.graphql_lexer.specs.Ahead.{ahead_of}
use Rattle.value_reader.specs.Grammar.{may_nest}
use Rattle.graphql_reader.proofs.LeavesLaws.{placed_start}
use Rattle.graphql_reader.proofs.depth.check_depth.Goals as goal

none_more : (levels limit : ℕ) → limit ≤ levels → nat_lt levels limit ≡ false
none_more levels limit h = grind (arith, nat_tests)

pub returns-in-Some-clause-deep : goal.returns-in-Some-clause-deep
returns-in-Some-clause-deep c =
    let reached : c.in-Some.limit ≤ c.args.levels = omega arith in
    subst (λ (m : Option ℕ). may_nest m c.args.levels ≡ false) (sym c.in-Some.is) (none_more c.args.levels c.in-Some.limit reached)

pub returns-in-Some-clause-placed : goal.returns-in-Some-clause-placed
returns-in-Some-clause-placed c = placed_start (ahead_of c.args.tokens.now) c.too_deep.result c.too_deep.ensures
