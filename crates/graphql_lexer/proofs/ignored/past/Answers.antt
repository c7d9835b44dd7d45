use Rattle.std.proofs.Common.{rules, ◌≡◌, ◌∙◌, ◌&&◌, ◌||◌, ◌==◌, not, true, false, refl, arith}
use Rattle.std.proofs.lemmas.Grind.{common_steps}
use Rattle.graphql_strings.specs.Characters.{at, is_line_end}
use Rattle.graphql_lexer.specs.Lexical.{is_blank}
use Rattle.graphql_lexer.specs.Scanning.{ignored_at}
use Rattle.graphql_lexer.proofs.Skipped.{passes, passed_inline, blank_taken, space_inline, none_there, nothing_else}
use Rattle.graphql_lexer.proofs.ignored.past.Goals as goal

pub returns-in-Some : goal.returns-in-Some
returns-in-Some c =
    let text = c.args.text.now in
    let p = c.args.cursor.now in
    let space : (is_blank (at text 0) && not (is_line_end (at text 0))) ≡ true = grind (arith, common_steps) in
    let taken : ignored_at text ≡ 1 = blank_taken text space in
    let after = c.along.ensures.exact ∙ passed_inline p text 1 taken (omega arith) (space_inline (at text 0) space) in
    passes p c.along.new.self text c.rest.result.now 1 taken (omega arith) after c.rest.ensures c.along.ensures.index c.along.ensures.counts

pub returns-in-None : goal.returns-in-None
unfolding ignored_at
returns-in-None c = (none_there c.args.text.now (search rules), refl)

pub returns-in-Some-3 : goal.returns-in-Some-3
returns-in-Some-3 c =
    let text = c.args.text.now in
    let space : (is_blank (at text 0) && not (is_line_end (at text 0))) ≡ false = grind (arith, common_steps) in
    let other : (is_line_end (at text 0) || ((at text 0 == 35) || (at text 0 == 239))) ≡ false = grind (arith, common_steps) in
    (nothing_else text space other, refl)
