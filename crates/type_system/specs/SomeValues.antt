-- Enums without a value (section 3.9).
use Rattle.std.specs.Prelude.{List, [], ◌==◌, length, string_bytes}
use Rattle.meta.specs.declared.kinds.MetaTypeOf.{MetaTypeOf}
use Rattle.meta.specs.declared.kinds.MetaTypeOf.TheVariants as m
use Rattle.type_system_report.specs.declared.fault.CoordinateOf.TheVariants as c
use Rattle.type_system_report.specs.declared.fault.FaultKindOf.TheVariants as k
use Rattle.type_system_report.specs.Fault.{FaultValue, fault_if}

-- an enum, if it has no value
abbrev pub missing_values : {S C : Type 0} → MetaTypeOf S C → List FaultValue
missing_values (m.Enum x) = fault_if (length x.values.items == 0) (c.Type (string_bytes x.name)) k.NoValues
missing_values _ = []
