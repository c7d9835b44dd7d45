use Rattle.std.proofs.Common.{◌≡◌, List, length}
use Rattle.language_types.specs.Types.{borrowed_shape}
use Rattle.schema.specs.Catalog.{Catalog}
use Rattle.variable_values.specs.Faults.{Fault}
use Rattle.variable_values.specs.Rows.{Others}
use Rattle.variable_values.proofs.rows.row_of.Given as goal

-- the faults against the type that is left are those against the whole type
abbrev pub invariant-loop-row : goal.invariant-loop-row
invariant-loop-row g l =
    ((schema : Catalog _ _) (fs : List Fault)
    → Others schema g.S.CheckedScalar.may_answer g.S.ScalarValue.text g.S.ScalarValue.str_of l.value (borrowed_shape l.at) fs
    → Others schema g.S.CheckedScalar.may_answer g.S.ScalarValue.text g.S.ScalarValue.str_of l.value (borrowed_shape l.expected) fs)
    × ((borrowed_shape l.at).name ≡ (borrowed_shape l.expected).name)

abbrev pub decreases-loop-row : goal.decreases-loop-row
decreases-loop-row g l = length (borrowed_shape l.at).modifiers
