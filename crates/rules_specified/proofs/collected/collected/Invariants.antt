use Rattle.std.proofs.Common.{[], ◌∷◌, reverse}
use Rattle.language_types.specs.References.{list_copied}
use Rattle.rules_specified.specs.Collecting.{Leads, placed}
use Rattle.rules_specified.proofs.collected.collected.Given as goal

-- what is collected from here on comes after the fields that are there
abbrev pub invariant-loop : goal.invariant-loop
invariant-loop g l =
    Leads g.S.ScalarValue.bool_of l.root l.state.opened (l.set ∷ []) (reverse (list_copied l.state.waiting.items)) (placed l.state.fields.items) []
