-- Required arguments and input fields that are deprecated (sections 3.6, 3.10 and 3.13).
use Rattle.std.specs.Prelude.{List, Bool, false, ◌&&◌, Option, Some, None, Vec, codes}
use Rattle.std.specs.declared.alloc.Global.{Global}
use Rattle.graphql_reader.specs.declared.type_system.InputValueDefinition.{InputValueDefinition}
use Rattle.sdl_directives.specs.Arguments.{is_required}
use Rattle.sdl_directives.specs.Judged.{has_name}
use Rattle.sdl_directives.specs.Sites.{Applied}
use Rattle.type_system_report.specs.declared.fault.CoordinateOf.TheVariants as c
use Rattle.type_system_report.specs.declared.fault.FaultKindOf.TheVariants as k
use Rattle.type_system_report.specs.Fault.{CoordinateValue, KindValue}
use Rattle.sdl_own_faults.specs.Fault.{PlacedFault, fault_if}

-- `@deprecated` is among the directives of something, if it has some
abbrev pub is_deprecated : Option (Vec Applied Global) → Bool
is_deprecated None = false
is_deprecated (Some ds) = has_name (codes "deprecated") ds.items

-- non-null, with no default value, and deprecated
abbrev pub is_required_deprecated : InputValueDefinition → Bool
is_required_deprecated a = is_required a && is_deprecated a.directives

-- what that is: at the coordinate of a field, an input field
abbrev pub deprecated_kind : CoordinateValue → KindValue
deprecated_kind (c.Field of n) = k.DeprecatedInputField
deprecated_kind _ = k.DeprecatedArgument

-- such an argument or input field at a coordinate
abbrev pub deprecated_parameter : InputValueDefinition → CoordinateValue → List PlacedFault
deprecated_parameter a at = fault_if (is_required_deprecated a) a.name at (deprecated_kind at)
