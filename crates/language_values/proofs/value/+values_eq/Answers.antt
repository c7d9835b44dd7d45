use Rattle.std.proofs.Common.{arith}
use Rattle.std.proofs.lemmas.Grind.{common_steps}
use Rattle.std.specs.Cmp.Lexicographic.{pointwise}
use Rattle.language_values.proofs.ValueLemmas.{unlocated_eq-at-List, unlocated_eq-at-Object}
use Rattle.std.proofs.Common.{true, false, ◌≡◌, ◌∙◌, sym, ap, nat_eq, string_bytes}
use Rattle.language_values.specs.ValuesEqual.{unlocated_eq}
use Rattle.std.proofs.lemmas.Bool.{and_from}
use Rattle.language_values.proofs.Steps.{pairs_at, pairs_end, pairs_of_lengths, all_at, any_at, any_end, and_left_false}
use Rattle.language_values.proofs.Steps.{and_right_false}
use Rattle.language_values.proofs.ValueLemmas.{same_items, is_found, is_entry}
use Rattle.language_values.proofs.value.+values_eq.Goals.{has_entry-else-eq-via-then-eq+else-values_eq, has_entry-else-eq-via-else-eq}
use Rattle.language_values.proofs.value.+values_eq.Goals as goal

pub values_eq-returns-in-List-List : goal.values_eq-returns-in-List-List
values_eq-returns-in-List-List g t c =
    c.lists_eq.ensures
    ∙ ap (λ z. pointwise (same_items g.S.PartialEq.eq) z c.as_slice-in-List-List.result.now) c.as_slice.ensures.value
    ∙ ap (pointwise (same_items g.S.PartialEq.eq) c.in-List-List.xs.items) c.as_slice-in-List-List.ensures.value
    ∙ sym (unlocated_eq-at-List g.S.PartialEq.eq c.args.left.now c.args.right.now c.in-List-List.xs c.in-List-List.ys c.in-List-List.is-0
    c.in-List-List.is-1)

pub values_eq-returns-then-len : goal.values_eq-returns-then-len
values_eq-returns-then-len g t c =
    grind (arith, common_steps, unlocated_eq-at-Object g.S.PartialEq.eq c.args.left.now c.args.right.now c.in-Object-Object.xs c.in-Object-Object.ys c.in-Object-Object.is-0 c.in-Object-Object.is-1)

pub values_eq-returns-then-not-has_entry : goal.values_eq-returns-then-not-has_entry
values_eq-returns-then-not-has_entry g t c =
    grind (arith, common_steps, unlocated_eq-at-Object g.S.PartialEq.eq c.args.left.now c.args.right.now c.in-Object-Object.xs c.in-Object-Object.ys c.in-Object-Object.is-0 c.in-Object-Object.is-1)

pub values_eq-returns-after-loop-key : goal.values_eq-returns-after-loop-key
values_eq-returns-after-loop-key g t c =
    grind (arith, common_steps, unlocated_eq-at-Object g.S.PartialEq.eq c.args.left.now c.args.right.now c.in-Object-Object.xs c.in-Object-Object.ys c.in-Object-Object.is-0 c.in-Object-Object.is-1)

pub lists_eq-loop-i-preserved : goal.lists_eq-loop-i-preserved
lists_eq-loop-i-preserved g t c =
    c.loop-i.invariant
    ∙ pairs_at (same_items g.S.PartialEq.eq) c.args.left.now c.args.right.now c.loop-i.i c.index-left-i.result c.index-right-i.result true
    c.loop-i-test.true c.if-left-right.false c.index-left-i.is c.index-right-i.is
    (ap (λ z. unlocated_eq g.S.PartialEq.eq c.index-left-i.result.item z.item) c.index-right-i.is ∙ sym c.values_eq.ensures
    ∙ c.if-not-values_eq.false)

pub lists_eq-returns : goal.lists_eq-returns
lists_eq-returns g t c =
    sym (c.loop-i.invariant ∙ pairs_end (same_items g.S.PartialEq.eq) c.args.left.now c.args.right.now c.loop-i.i c.if-left-right.false
    c.loop-i-test.false)

pub lists_eq-returns-then-left-right : goal.lists_eq-returns-then-left-right
lists_eq-returns-then-left-right g t c =
    sym (pairs_of_lengths (same_items g.S.PartialEq.eq) c.args.left.now c.args.right.now c.if-left-right.true)

pub lists_eq-returns-then-not-values_eq : goal.lists_eq-returns-then-not-values_eq
lists_eq-returns-then-not-values_eq g t c =
    sym (c.loop-i.invariant
    ∙ pairs_at (same_items g.S.PartialEq.eq) c.args.left.now c.args.right.now c.loop-i.i c.index-left-i.result c.index-right-i.result
    false c.loop-i-test.true c.if-left-right.false c.index-left-i.is c.index-right-i.is
    (ap (λ z. unlocated_eq g.S.PartialEq.eq c.index-left-i.result.item z.item) c.index-right-i.is ∙ sym c.values_eq.ensures
    ∙ c.if-not-values_eq.true))

pub values_eq-loop-key-preserved : goal.values_eq-loop-key-preserved
values_eq-loop-key-preserved g t c =
    c.loop-key.invariant
    ∙ all_at (is_found g.S.PartialEq.eq c.in-Object-Object.ys.items) c.deref-key-items.result.now c.loop-key.key-index
    c.loop-key-item.result true c.loop-key-test.true c.loop-key-item.is
    (cc (c.has_entry.ensures, c.as_str.ensures.value, c.as_slice-in-loop-key.ensures.value, c.if-not-has_entry.false))

pub has_entry-loop-k-preserved : goal.has_entry-loop-k-preserved
has_entry-loop-k-preserved g t c =
    let key_is : pointwise nat_eq (string_bytes c.loop-k-item.result.0.item) c.args.key.now ≡ c.eq.result =
    ap (λ k. pointwise nat_eq k c.args.key.now) (sym c.as_str.ensures.value) ∙ sym c.eq.ensures in
    let other : is_entry g.S.PartialEq.eq c.args.key.now c.args.value.now c.loop-k-item.result ≡ false = elim c.else-eq.branch [
      | has_entry-else-eq-via-then-eq+else-values_eq w ↦ and_right_false _ _ (sym w.values_eq.ensures ∙ w.if-values_eq.false)
      | has_entry-else-eq-via-else-eq w ↦ and_left_false _ _ (key_is ∙ w.if-eq.false)
    ] in
    c.loop-k.invariant ∙ any_at (is_entry g.S.PartialEq.eq c.args.key.now c.args.value.now) c.args.entries.now c.loop-k.k-index
    c.loop-k-item.result false c.loop-k-test.true c.loop-k-item.is other

pub has_entry-returns : goal.has_entry-returns
has_entry-returns g t c =
    sym (c.loop-k.invariant ∙ any_end (is_entry g.S.PartialEq.eq c.args.key.now c.args.value.now) c.args.entries.now c.loop-k.k-index
    c.loop-k-test.false)

pub has_entry-returns-then-values_eq : goal.has_entry-returns-then-values_eq
has_entry-returns-then-values_eq g t c =
    let key_is : pointwise nat_eq (string_bytes c.loop-k-item.result.0.item) c.args.key.now ≡ c.eq.result =
    ap (λ k. pointwise nat_eq k c.args.key.now) (sym c.as_str.ensures.value) ∙ sym c.eq.ensures in
    let here : is_entry g.S.PartialEq.eq c.args.key.now c.args.value.now c.loop-k-item.result ≡ true =
    and_from _ _ (key_is ∙ c.if-eq.true) (sym c.values_eq.ensures ∙ c.if-values_eq.true) in
    sym (c.loop-k.invariant ∙ any_at (is_entry g.S.PartialEq.eq c.args.key.now c.args.value.now) c.args.entries.now c.loop-k.k-index
    c.loop-k-item.result true c.loop-k-test.true c.loop-k-item.is here)
