-- Enum values whose names are words for other values (section 3.9).
use Rattle.std.specs.Prelude.{ℕ, List, Bool, ◌||◌, codes, string_bytes}
use Rattle.std.specs.List.{flat_map}
use Rattle.std.specs.Str.{bytes_eq}
use Rattle.meta.specs.declared.enum_values.EnumValue.{EnumValue}
use Rattle.meta.specs.declared.kinds.MetaTypeOf.{MetaTypeOf}
use Rattle.type_system_report.specs.declared.fault.CoordinateOf.TheVariants as c
use Rattle.type_system_report.specs.declared.fault.FaultKindOf.TheVariants as k
use Rattle.type_system_report.specs.Fault.{FaultValue, fault_if}
use Rattle.type_system_interfaces.specs.Members.{name_in, values_of}

-- `true`, `false` and `null`
abbrev pub is_reserved_value : List ℕ → Bool
is_reserved_value n = bytes_eq n (codes "true") || bytes_eq n (codes "false") || bytes_eq n (codes "null")

-- a value of the enum of this name, if it is named so
abbrev pub reserved_value : List ℕ → EnumValue → List FaultValue
reserved_value of v = fault_if (is_reserved_value (string_bytes v.name)) (c.EnumValue of (string_bytes v.name)) k.ReservedValue

-- the values of an enum that are named so
abbrev pub reserved_values : {S C : Type 0} → MetaTypeOf S C → List FaultValue
reserved_values t = flat_map (reserved_value (name_in t)) (values_of t)
