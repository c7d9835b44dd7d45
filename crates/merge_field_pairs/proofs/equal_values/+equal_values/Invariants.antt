use Rattle.std.proofs.Common.{◌≡◌, ◌+◌, ◌*◌, drop, string_bytes}
use Rattle.std.specs.List.{list_all}
use Rattle.std.specs.Cmp.Lexicographic.{pointwise}
use Rattle.language_values.specs.ValuesEqual.{unlocated_eq, entry_in}
use Rattle.merge_field_pairs.proofs.equal_values.+equal_values.Given as goal

-- by the levels that are left
abbrev pub decreases-are_plainly_equal : goal.decreases-are_plainly_equal
decreases-are_plainly_equal g l = 3 * l.levels

abbrev pub decreases-is_found : goal.decreases-is_found
decreases-is_found g l = 3 * l.levels + 1

abbrev pub decreases-are_items_equal : goal.decreases-are_items_equal
decreases-are_items_equal g l = 3 * l.levels + 1

abbrev pub decreases-are_entries_equal : goal.decreases-are_entries_equal
decreases-are_entries_equal g l = 3 * l.levels + 2

abbrev pub invariant-is_found-loop-k : goal.invariant-is_found-loop-k
invariant-is_found-loop-k g l =
    entry_in (unlocated_eq g.S.PartialEq.eq l.value) l.key l.entries ≡ entry_in (unlocated_eq g.S.PartialEq.eq l.value) l.key (drop l.k-index l.entries)

abbrev pub invariant-are_items_equal-loop-i : goal.invariant-are_items_equal-loop-i
invariant-are_items_equal-loop-i g l =
    pointwise (λ x y. unlocated_eq g.S.PartialEq.eq x.item y.item) l.left l.right
    ≡ pointwise (λ x y. unlocated_eq g.S.PartialEq.eq x.item y.item) (drop l.i l.left) (drop l.i l.right)

abbrev pub invariant-are_entries_equal-loop-i : goal.invariant-are_entries_equal-loop-i
invariant-are_entries_equal-loop-i g l =
    list_all (λ x. entry_in (unlocated_eq g.S.PartialEq.eq x.1.item) (string_bytes x.0.item) l.right) l.left
    ≡ list_all (λ x. entry_in (unlocated_eq g.S.PartialEq.eq x.1.item) (string_bytes x.0.item) l.right) (drop l.i l.left)
