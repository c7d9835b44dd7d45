use Rattle.std.proofs.Common.{◌≡◌, map, take}
use Rattle.language_values.proofs.value.values_of.Given as goal

abbrev pub invariant-loop-item : goal.invariant-loop-item
invariant-loop-item g l = map (λ x. x.now) l.values.items ≡ map (λ x. x.item) (take l.item-index l.items)
