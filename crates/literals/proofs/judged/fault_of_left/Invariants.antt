use Rattle.std.proofs.Common.{List, None, Option, reverse, ℕ}
use Rattle.std.specs.List.{All}
use Rattle.language_values.specs.ValuesPrinted.{printed_value}
use Rattle.literals.specs.Begun.{AfterAll, IsKnown}
use Rattle.literals.proofs.judged.fault_of_left.Given as goal

-- the fault of what is left now is that of what was left at first
abbrev pub invariant-loop : goal.invariant-loop
invariant-loop g l =
    ((fault : Option (List ℕ)) → AfterAll l.schema g.S.CheckedScalar.may_answer (printed_value g.S.ScalarValue.text g.S.ScalarValue.str_of) (reverse l.left.items) None fault
    → AfterAll l.schema g.S.CheckedScalar.may_answer (printed_value g.S.ScalarValue.text g.S.ScalarValue.str_of) (reverse l.initial.left.items) None fault)
    × All (IsKnown l.schema) l.left.items
