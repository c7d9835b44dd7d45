use Rattle.std.proofs.Common.{◌≡◌, drop}
use Rattle.std.specs.List.{list_all}
use Rattle.merge_field_pairs.specs.SameArguments.{is_given}
use Rattle.merge_field_pairs.proofs.arguments.are_plainly_given.Given as goal

abbrev pub invariant-loop-name : goal.invariant-loop-name
invariant-loop-name g l =
    list_all (λ p. is_given g.S.PartialEq.eq l.right.items.items p.0.item.now p.1.item) l.name-items
    ≡ list_all (λ p. is_given g.S.PartialEq.eq l.right.items.items p.0.item.now p.1.item) (drop l.name-index l.name-items)
