use Rattle.std.proofs.Common.{sym, ap, ◌∙◌}
use Rattle.std.specs.Cmp.Lexicographic.{pointwise}
use Rattle.language_values.specs.SameLaws.{same_value-List, same_value-Object}
use Rattle.language_values.specs.ValuesSame.{same_value, same_item, same_entry}
use Rattle.std.proofs.Common.{true, false}
use Rattle.std.proofs.lemmas.Bool.{and_from}
use Rattle.language_values.proofs.Steps.{pairs_at, pairs_end, pairs_of_lengths, and_left_false, and_right_false}
use Rattle.language_values.proofs.value_same.+values_same.Goals as goal

pub values_same-returns-in-List-List : goal.values_same-returns-in-List-List
values_same-returns-in-List-List g t c =
    let E = g.S.PartialEq.eq in
    c.items_same.ensures
    ∙ ap (λ z. pointwise (same_item (same_value E)) z c.as_slice-in-List-List.result.now) c.as_slice.ensures.value
    ∙ ap (pointwise (same_item (same_value E)) c.in-List-List.xs.items) c.as_slice-in-List-List.ensures.value
    ∙ sym (same_value-List E c.args.left.now c.args.right.now c.in-List-List.xs c.in-List-List.ys c.in-List-List.is-0 c.in-List-List.is-1)

pub values_same-returns-in-Object-Object : goal.values_same-returns-in-Object-Object
values_same-returns-in-Object-Object g t c =
    let E = g.S.PartialEq.eq in
    c.entries_same.ensures
    ∙ ap (λ z. pointwise (same_entry (same_value E)) z c.as_slice-in-Object-Object-2.result.now) c.as_slice-in-Object-Object.ensures.value
    ∙ ap (pointwise (same_entry (same_value E)) c.in-Object-Object.xs.items) c.as_slice-in-Object-Object-2.ensures.value
    ∙ sym (same_value-Object E c.args.left.now c.args.right.now c.in-Object-Object.xs c.in-Object-Object.ys c.in-Object-Object.is-0 c.in-Object-Object.is-1)

pub items_same-loop-i-preserved : goal.items_same-loop-i-preserved
items_same-loop-i-preserved g t c =
    let same = and_from _ _ (sym c.spans_same.ensures ∙ c.if-not-spans_same.false) (sym c.values_same.ensures
    ∙ c.if-not-values_same.false) in
    c.loop-i.invariant
    ∙ pairs_at (same_item (same_value g.S.PartialEq.eq)) c.args.left.now c.args.right.now c.loop-i.i c.index-left-i.result
    c.index-right-i.result true c.loop-i-test.true c.if-left-right.false c.index-left-i.is c.index-right-i.is same

pub items_same-returns : goal.items_same-returns
items_same-returns g t c =
    sym (c.loop-i.invariant ∙ pairs_end (same_item (same_value g.S.PartialEq.eq)) c.args.left.now c.args.right.now c.loop-i.i
    c.if-left-right.false c.loop-i-test.false)

pub items_same-returns-then-left-right : goal.items_same-returns-then-left-right
items_same-returns-then-left-right g t c =
    sym (pairs_of_lengths (same_item (same_value g.S.PartialEq.eq)) c.args.left.now c.args.right.now c.if-left-right.true)

pub items_same-returns-then-not-spans_same : goal.items_same-returns-then-not-spans_same
items_same-returns-then-not-spans_same g t c =
    let other = and_left_false _ _ (sym c.spans_same.ensures ∙ c.if-not-spans_same.true) in
    sym (c.loop-i.invariant
    ∙ pairs_at (same_item (same_value g.S.PartialEq.eq)) c.args.left.now c.args.right.now c.loop-i.i c.index-left-i.result
    c.index-right-i.result false c.loop-i-test.true c.if-left-right.false c.index-left-i.is c.index-right-i.is other)

pub items_same-returns-then-not-values_same : goal.items_same-returns-then-not-values_same
items_same-returns-then-not-values_same g t c =
    let other = and_right_false _ _ (sym c.values_same.ensures ∙ c.if-not-values_same.true) in
    sym (c.loop-i.invariant
    ∙ pairs_at (same_item (same_value g.S.PartialEq.eq)) c.args.left.now c.args.right.now c.loop-i.i c.index-left-i.result
    c.index-right-i.result false c.loop-i-test.true c.if-left-right.false c.index-left-i.is c.index-right-i.is other)

pub entries_same-loop-i-preserved : goal.entries_same-loop-i-preserved
entries_same-loop-i-preserved g t c =
    let same = and_from _ _ (sym c.places_same.ensures ∙ c.if-not-places_same.false) (sym c.values_same.ensures
    ∙ c.if-not-values_same.false) in
    c.loop-i.invariant
    ∙ pairs_at (same_entry (same_value g.S.PartialEq.eq)) c.args.left.now c.args.right.now c.loop-i.i c.index-left-i.result
    c.index-right-i.result true c.loop-i-test.true c.if-left-right.false c.index-left-i.is c.index-right-i.is same

pub entries_same-returns : goal.entries_same-returns
entries_same-returns g t c =
    sym (c.loop-i.invariant ∙ pairs_end (same_entry (same_value g.S.PartialEq.eq)) c.args.left.now c.args.right.now c.loop-i.i
    c.if-left-right.false c.loop-i-test.false)

pub entries_same-returns-then-left-right : goal.entries_same-returns-then-left-right
entries_same-returns-then-left-right g t c =
    sym (pairs_of_lengths (same_entry (same_value g.S.PartialEq.eq)) c.args.left.now c.args.right.now c.if-left-right.true)

pub entries_same-returns-then-not-places_same : goal.entries_same-returns-then-not-places_same
entries_same-returns-then-not-places_same g t c =
    let other = and_left_false _ _ (sym c.places_same.ensures ∙ c.if-not-places_same.true) in
    sym (c.loop-i.invariant
    ∙ pairs_at (same_entry (same_value g.S.PartialEq.eq)) c.args.left.now c.args.right.now c.loop-i.i c.index-left-i.result
    c.index-right-i.result false c.loop-i-test.true c.if-left-right.false c.index-left-i.is c.index-right-i.is other)

pub entries_same-returns-then-not-values_same : goal.entries_same-returns-then-not-values_same
entries_same-returns-then-not-values_same g t c =
    let other = and_right_false _ _ (sym c.values_same.ensures ∙ c.if-not-values_same.true) in
    sym (c.loop-i.invariant
    ∙ pairs_at (same_entry (same_value g.S.PartialEq.eq)) c.args.left.now c.args.right.now c.loop-i.i c.index-left-i.result
    c.index-right-i.result false c.loop-i-test.true c.if-left-right.false c.index-left-i.is c.index-right-i.is other)
