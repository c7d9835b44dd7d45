use Rattle.std.proofs.Common.{◌≡◌, drop}
use Rattle.std.specs.Cmp.Lexicographic.{pointwise}
use Rattle.language_values.specs.ValuesSame.{same_value, same_item, same_entry}
use Rattle.language_values.proofs.value_same.+values_same.Given as goal

-- the answer is that for those that are left
abbrev pub invariant-entries_same-loop-i : goal.invariant-entries_same-loop-i
invariant-entries_same-loop-i g l =
    pointwise (same_entry (same_value g.S.PartialEq.eq)) l.left l.right ≡ pointwise (same_entry (same_value g.S.PartialEq.eq)) (drop l.i l.left) (drop l.i l.right)

abbrev pub invariant-items_same-loop-i : goal.invariant-items_same-loop-i
invariant-items_same-loop-i g l =
    pointwise (same_item (same_value g.S.PartialEq.eq)) l.left l.right ≡ pointwise (same_item (same_value g.S.PartialEq.eq)) (drop l.i l.left) (drop l.i l.right)
