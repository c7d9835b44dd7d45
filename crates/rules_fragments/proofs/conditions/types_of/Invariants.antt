use Rattle.std.proofs.Common.{◌≡◌, length, take}
use Rattle.fragment_graph.specs.Numbers.{names_of}
use Rattle.rules_fragments.specs.Conditions.{conditions_at}
use Rattle.rules_fragments.specs.PossibleFragmentSpreads.{conditions_in, no_conditions}
use Rattle.rules_fragments.proofs.conditions.types_of.Given as goal

-- those of the definitions that were seen
abbrev pub invariant-loop-place : goal.invariant-loop-place
invariant-loop-place g l =
    (conditions_at l.names.numbers l.types.items ≡ conditions_in l.schema no_conditions (take l.place l.document)) × (length l.types.items ≡ length (names_of l.names.numbers))
