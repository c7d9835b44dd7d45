use Rattle.std.proofs.Common.{◌≡◌, drop, string_bytes}
use Rattle.std.specs.List.{list_all}
use Rattle.std.specs.Cmp.Lexicographic.{pointwise}
use Rattle.language_values.specs.ValuesEqual.{unlocated_eq, entry_in}
use Rattle.language_values.proofs.value.+values_eq.Given as goal

abbrev pub invariant-has_entry-loop-k : goal.invariant-has_entry-loop-k
invariant-has_entry-loop-k g l =
    entry_in (unlocated_eq g.S.PartialEq.eq l.value) l.key l.entries ≡ entry_in (unlocated_eq g.S.PartialEq.eq l.value) l.key (drop l.k-index l.entries)

abbrev pub invariant-lists_eq-loop-i : goal.invariant-lists_eq-loop-i
invariant-lists_eq-loop-i g l =
    pointwise (λ x y. unlocated_eq g.S.PartialEq.eq x.item y.item) l.left l.right
    ≡ pointwise (λ x y. unlocated_eq g.S.PartialEq.eq x.item y.item) (drop l.i l.left) (drop l.i l.right)

abbrev pub invariant-values_eq-loop-key : goal.invariant-values_eq-loop-key
invariant-values_eq-loop-key g l =
    list_all (λ x. entry_in (unlocated_eq g.S.PartialEq.eq x.1.item) (string_bytes x.0.item) l.ys.items) l.key-items
    ≡ list_all (λ x. entry_in (unlocated_eq g.S.PartialEq.eq x.1.item) (string_bytes x.0.item) l.ys.items) (drop l.key-index l.key-items)
