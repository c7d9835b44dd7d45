use Rattle.std.proofs.Common.{◌≡◌, drop}
use Rattle.std.specs.List.{list_all}
use Rattle.language_values.specs.Values.{is_plain}
use Rattle.language_values.proofs.value.are_plain_items.Given as goal

-- the answer is that for those that are left
abbrev pub invariant-loop-item : goal.invariant-loop-item
invariant-loop-item g l = list_all (λ v. is_plain v.item) l.items ≡ list_all (λ v. is_plain v.item) (drop l.item-index l.items)
