use Rattle.std.proofs.Common.{◌≡◌, ◌++◌, drop}
use Rattle.std.specs.List.{filter}
use Rattle.rules_specified.specs.Collecting.{placed}
use Rattle.rules_specified.specs.SingleRootField.{has_other_name, introspections, places}
use Rattle.rules_specified.proofs.single_root_field.found_at_root.Given as goal

-- what is left gives the rest
abbrev pub invariant-loop-collected : goal.invariant-loop-collected
invariant-loop-collected g l =
    (l.found.is_empty ≡ l.initial.found.is_empty)
    × (l.found.others.items ++ places (filter (has_other_name l.name) (placed (drop l.collected-index l.collected-items)))
    ≡ places (filter (has_other_name l.name) (placed l.collected-items)))
    × (l.found.introspections.items ++ places (introspections (placed (drop l.collected-index l.collected-items)))
    ≡ places (introspections (placed l.collected-items)))
