use Rattle.std.proofs.Common.{arith, sym, ap, ◌∙◌}
use Rattle.std.specs.Cmp.Lexicographic.{pointwise}
use Rattle.std.proofs.lemmas.Grind.{common_steps}
use Rattle.language_values.specs.ValuesEqual.{unlocated_eq}
use Rattle.language_values.proofs.ValueLemmas.{unlocated_eq-at-List, unlocated_eq-at-Object}
use Rattle.language_values.proofs.value.compare_values.Goals as goal

pub returns-in-List-List : goal.returns-in-List-List
returns-in-List-List g c =
    let E = g.S.PartialEq.eq in
    ap (λ z. pointwise (λ x y. unlocated_eq E x.item y.item) z c.as_slice-in-List-List.result.now) c.as_slice.ensures.value
    ∙ ap (pointwise (λ x y. unlocated_eq E x.item y.item) c.in-List-List.xs.items) c.as_slice-in-List-List.ensures.value
    ∙ sym (unlocated_eq-at-List E c.args.left.now c.args.right.now c.in-List-List.xs c.in-List-List.ys c.in-List-List.is-0 c.in-List-List.is-1)

pub returns-else-len : goal.returns-else-len
returns-else-len g c =
    grind (arith, common_steps, unlocated_eq-at-Object g.S.PartialEq.eq c.args.left.now c.args.right.now c.in-Object-Object.xs c.in-Object-Object.ys c.in-Object-Object.is-0 c.in-Object-Object.is-1)
