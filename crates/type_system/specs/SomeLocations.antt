-- Directives without a location (section 3.13).
use Rattle.std.specs.Prelude.{List, ◌==◌, length, string_bytes}
use Rattle.schema_validation.specs.declared.directives.DirectiveType.{DirectiveType}
use Rattle.type_system_report.specs.declared.fault.CoordinateOf.TheVariants as c
use Rattle.type_system_report.specs.declared.fault.FaultKindOf.TheVariants as k
use Rattle.type_system_report.specs.Fault.{FaultValue, fault_if}

-- a directive, if it has no location
abbrev pub missing_locations : {S : Type 0} → DirectiveType S → List FaultValue
missing_locations d = fault_if (length d.locations.items == 0) (c.Directive (string_bytes d.name)) k.NoLocations
