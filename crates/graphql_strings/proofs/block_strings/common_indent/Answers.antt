use Rattle.std.proofs.Common.{◌<◌, ◌++◌, List, [], ◌∷◌, ℕ, Bor, length, get_or, take, map, min, refl, sym, ap, ◌∙◌, arith}
use Rattle.std.proofs.lemmas.List.{get_or-map, take_more, length-map}
use Rattle.std.specs.List.{reduce}
use Rattle.graphql_strings.specs.BlockStrings.{is_blank_line}
use Rattle.graphql_strings.proofs.BlockLaws.{indents, indent_more}
use Rattle.graphql_strings.proofs.block_strings.common_indent.Goals as goal

pub loop-line-preserved : goal.loop-line-preserved
loop-line-preserved c =
    let text : Bor (List ℕ) → List ℕ = λ x. x.now in
    let none : Bor (List ℕ) = record { ref_ptr = (0, 0); now = [] } in
    let others = c.unwrap_or-others.result.now in
    let i = c.loop-line.line-index in
    let ls = map text others in
    let line = text (get_or others i none) in
    let lt : i < length others = omega arith in
    let inside : i < length ls = omega (arith, length-map others text) in
    let one = indent_more (take i ls) line c.loop-line.common c.lesser_indent-common.result (is_blank_line line) refl c.loop-line.invariant c.lesser_indent-common.ensures.blank c.lesser_indent-common.ensures.written in
    one ∙ ap (λ x. reduce min (indents (take i ls ++ x ∷ []))) (sym (get_or-map text others i none [] lt)) ∙ ap (λ x. reduce min (indents x)) (sym (take_more ls i [] inside))
