use Rattle.std.proofs.Common.{drop}
use Rattle.language_values.specs.ValuesLeft.{WritesPart}
use Rattle.type_system_inputs.specs.Told.{others_text}
use Rattle.type_system_inputs.proofs.circles.write_others.Given as goal

-- what is written, and the fields that are left, are all fields
abbrev pub invariant-loop-field : goal.invariant-loop-field
invariant-loop-field g l = WritesPart g.W.Write.write_str_gives l.fn.f l.f (others_text (drop l.field-index l.fields)) (others_text l.fields)
