use Rattle.std.proofs.Common.{rules, ◌≡◌, ◌∙◌, refl, sym, arith}
use Rattle.std.proofs.lemmas.Grind.{common_steps}
use Rattle.graphql_strings.specs.Characters.{at}
use Rattle.graphql_lexer.specs.Scanning.{ignored_at}
use Rattle.graphql_lexer.proofs.Passed.{ignored_within}
use Rattle.graphql_lexer.proofs.Skipped.{passes, passed_line, none_there, nothing_ignored}
use Rattle.graphql_lexer.proofs.ignored.past_other.Goals as goal

pub returns-in-None : goal.returns-in-None
unfolding ignored_at
returns-in-None c = (none_there c.args.text.now (search rules), refl)

pub returns-in-Some-eq10 : goal.returns-in-Some-eq10
unfolding ignored_at
returns-in-Some-eq10 c =
    let text = c.args.text.now in
    let p = c.args.cursor.now in
    let taken : ignored_at text ≡ 1 = search rules in
    let within = ignored_within text in
    let first : at text 0 ≡ 10 = grind (arith, common_steps) in
    let after = c.line_feed.ensures.exact ∙ passed_line p text 10 (omega arith) first in
    passes p c.line_feed.new.self text c.rest.result.now 1 taken (omega arith) after c.rest.ensures c.line_feed.ensures.index c.line_feed.ensures.counts

pub returns-in-Some-eq13 : goal.returns-in-Some-eq13
unfolding ignored_at
returns-in-Some-eq13 c =
    let text = c.args.text.now in
    let p = c.args.cursor.now in
    let taken : ignored_at text ≡ 1 = search rules in
    let within = ignored_within text in
    let first : at text 0 ≡ 13 = grind (arith, common_steps) in
    let after = c.carriage_return.ensures.exact ∙ passed_line p text 13 (omega arith) first in
    passes p c.carriage_return.new.self text c.rest-in-Some-eq13.result.now 1 taken (omega arith) after c.rest-in-Some-eq13.ensures c.carriage_return.ensures.index c.carriage_return.ensures.counts

pub returns-in-Some : goal.returns-in-Some
returns-in-Some c =
    let text = c.args.text.now in
    let first : at text 0 ≡ c.in-Some.field-0.now = grind (arith, common_steps) in
    let test = c.in-Some.field-0-test in
    (nothing_ignored text c.requires.other (λ e. test.0.0.0.1 (sym first ∙ e)) (λ e. test.0.0.1 (sym first ∙ e)) (λ e. test.0.1 (sym first ∙ e)) (λ e. test.1 (sym first ∙ e)), refl)
