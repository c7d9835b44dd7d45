use Rattle.std.proofs.Common.{length, ◌&&◌, nat_eq, string_bytes, sym, ap, ◌∙◌}
use Rattle.std.specs.List.{list_all}
use Rattle.std.specs.Cmp.Lexicographic.{pointwise}
use Rattle.std.proofs.lemmas.Bool.{OnTrue_at, OnTrue_from}
use Rattle.language_values.specs.ValuesEqual.{unlocated_eq, entry_in}
use Rattle.language_values.proofs.ValueLemmas.{unlocated_eq-at-List, unlocated_eq-at-Object}
use Rattle.merge_field_pairs.proofs.equal_values.+equal_values.Goals as goal

pub are_plainly_equal-returns-then-levels-gt0-clause-value : goal.are_plainly_equal-returns-then-levels-gt0-clause-value
are_plainly_equal-returns-then-levels-gt0-clause-value g t c =
    OnTrue_from c.are_items_equal.result _ (λ equal.
    unlocated_eq-at-List g.S.PartialEq.eq c.args.left.now c.args.right.now c.in-List-List.xs c.in-List-List.ys c.in-List-List.is-0 c.in-List-List.is-1
    ∙ ap (λ xs. pointwise (λ x y. unlocated_eq g.S.PartialEq.eq x.item y.item) xs c.in-List-List.ys.items) (sym c.as_slice.ensures.value)
    ∙ ap (λ ys. pointwise (λ x y. unlocated_eq g.S.PartialEq.eq x.item y.item) c.as_slice.result.now ys) (sym c.as_slice-then-levels-gt0.ensures.value)
    ∙ OnTrue_at equal c.are_items_equal.ensures)

pub are_plainly_equal-returns-then-levels-gt0-2-clause-value : goal.are_plainly_equal-returns-then-levels-gt0-2-clause-value
are_plainly_equal-returns-then-levels-gt0-2-clause-value g t c =
    OnTrue_from c.are_entries_equal.result _ (λ equal.
    unlocated_eq-at-Object g.S.PartialEq.eq c.args.left.now c.args.right.now c.in-Object-Object.xs c.in-Object-Object.ys c.in-Object-Object.is-0 c.in-Object-Object.is-1
    ∙ ap (λ xs. nat_eq (length xs) (length c.in-Object-Object.ys.items) && list_all (λ x. entry_in (unlocated_eq g.S.PartialEq.eq x.1.item) (string_bytes x.0.item) c.in-Object-Object.ys.items) xs) (sym c.as_slice-then-levels-gt0-2.ensures.value)
    ∙ ap (λ ys. nat_eq (length c.as_slice-then-levels-gt0-2.result.now) (length ys) && list_all (λ x. entry_in (unlocated_eq g.S.PartialEq.eq x.1.item) (string_bytes x.0.item) ys) c.as_slice-then-levels-gt0-2.result.now) (sym c.as_slice-then-levels-gt0-2-2.ensures.value)
    ∙ OnTrue_at equal c.are_entries_equal.ensures)
