use Rattle.std.proofs.Common.{◌≡◌, List, Option, ℕ, length}
use Rattle.language_values.specs.ValuesPrinted.{printed_value}
use Rattle.schema.specs.Catalog.{Catalog}
use Rattle.literals.specs.Expected.{expected_type}
use Rattle.literals.specs.Judged.{Judged}
use Rattle.literals.proofs.rows.row_of.Given as goal

-- a fault against the type that is left is one against the whole type
abbrev pub invariant-loop-row : goal.invariant-loop-row
invariant-loop-row g l =
    ((schema : Catalog _ _) (fault : Option (List ℕ))
    → Judged schema g.S.CheckedScalar.may_answer (printed_value g.S.ScalarValue.text g.S.ScalarValue.str_of) l.value (expected_type l.at) fault
    → Judged schema g.S.CheckedScalar.may_answer (printed_value g.S.ScalarValue.text g.S.ScalarValue.str_of) l.value (expected_type l.expected) fault)
    × ((expected_type l.at).meta ≡ (expected_type l.expected).meta)

abbrev pub decreases-loop-row : goal.decreases-loop-row
decreases-loop-row g l = length (expected_type l.at).modifiers
