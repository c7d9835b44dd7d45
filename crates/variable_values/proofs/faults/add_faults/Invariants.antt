use Rattle.std.proofs.Common.{List, ℕ, reverse}
use Rattle.std.specs.List.{All}
use Rattle.language_types.specs.Types.{borrowed_shape}
use Rattle.variable_values.specs.Begun.{IsKnown, LeftOfAll}
use Rattle.variable_values.specs.Faults.{Faults}
use Rattle.variable_values.specs.Messages.{Adds, invalid_text, texts_of}
use Rattle.variable_values.proofs.faults.add_faults.Given as goal

-- who tells what is left has told the faults of the value
abbrev pub invariant-loop : goal.invariant-loop
invariant-loop g l =
    ((end : List (List ℕ)) → LeftOfAll l.schema g.S.CheckedScalar.may_answer g.S.ScalarValue.text g.S.ScalarValue.str_of l.variable (reverse l.begun.items) (reverse l.steps.items) (texts_of l.messages) end
    → Adds (Faults l.schema g.S.CheckedScalar.may_answer g.S.ScalarValue.text g.S.ScalarValue.str_of l.value (borrowed_shape l.expected)) (invalid_text l.variable) (texts_of l.fn.messages) end)
    × All (IsKnown l.schema) l.begun.items
