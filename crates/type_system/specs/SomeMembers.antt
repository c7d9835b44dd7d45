-- Unions without a member (section 3.8).
use Rattle.std.specs.Prelude.{List, [], ◌==◌, length, string_bytes}
use Rattle.meta.specs.declared.kinds.MetaTypeOf.{MetaTypeOf}
use Rattle.meta.specs.declared.kinds.MetaTypeOf.TheVariants as m
use Rattle.type_system_report.specs.declared.fault.CoordinateOf.TheVariants as c
use Rattle.type_system_report.specs.declared.fault.FaultKindOf.TheVariants as k
use Rattle.type_system_report.specs.Fault.{FaultValue, fault_if}

-- a union, if it has no member
abbrev pub missing_members : {S C : Type 0} → MetaTypeOf S C → List FaultValue
missing_members (m.Union x) = fault_if (length x.of_type_names.items == 0) (c.Type (string_bytes x.name)) k.NoMembers
missing_members _ = []
