use Rattle.std.proofs.Common.{◌≡◌, ◌<◌, ◌∙◌, refl, sym, arith}
use Rattle.graphql_lexer.specs.Scanning.{ignored_at}
use Rattle.graphql_lexer.proofs.Skipped.{passes, passed_inline, none_there}
use Rattle.graphql_lexer.proofs.ignored.past_run.Goals as goal

pub returns-then-count-eq0 : goal.returns-then-count-eq0
returns-then-count-eq0 c =
    (none_there c.args.text.now (sym c.ignored_at-count.ensures.exact ∙ c.if-count-eq0.true), refl)

pub returns : goal.returns
returns c =
    let text = c.args.text.now in
    let p = c.args.cursor.now in
    let n = c.ignored_at-count.result in
    let some : 0 < n = omega arith in
    let taken : ignored_at text ≡ n = sym c.ignored_at-count.ensures.exact in
    let after = c.along.ensures.exact ∙ passed_inline p text n taken some c.requires.line in
    passes p c.along.new.self text c.rest.result.now n taken some after c.rest.ensures c.along.ensures.index c.along.ensures.counts
