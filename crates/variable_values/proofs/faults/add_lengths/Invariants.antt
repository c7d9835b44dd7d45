use Rattle.std.proofs.Common.{◌≡◌, ◌++◌, List, length, map, reverse}
use Rattle.language_types.specs.Types.{borrowed_shape}
use Rattle.variable_values.specs.Faults.{Fault}
use Rattle.variable_values.specs.Messages.{texts_of, told_after}
use Rattle.variable_values.specs.Places.{before}
use Rattle.variable_values.specs.Rows.{lengths_of_one}
use Rattle.variable_values.proofs.faults.add_lengths.Given as goal

-- what is told, and then the lengths of the type that is left
abbrev pub invariant-loop-modifier : goal.invariant-loop-modifier
invariant-loop-modifier l =
    (done : List Fault) × (texts_of l.messages ≡ texts_of l.initial.messages ++ map (told_after (before l.place)) done)
    × (lengths_of_one (reverse (borrowed_shape l.expected).modifiers) ≡ done ++ lengths_of_one (reverse (borrowed_shape l.at).modifiers))

abbrev pub decreases-loop-modifier : goal.decreases-loop-modifier
decreases-loop-modifier l = length (borrowed_shape l.at).modifiers
