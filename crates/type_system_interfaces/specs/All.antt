-- Faults of what a type implements, in their order (sections 3.6 and 3.7).
use Rattle.std.specs.Prelude.{List, ◌++◌}
use Rattle.meta.specs.declared.kinds.MetaTypeOf.{MetaTypeOf}
use Rattle.schema.specs.Catalog.{Catalog}
use Rattle.type_system_report.specs.Fault.{FaultValue}
use Rattle.type_system_interfaces.specs.Ancestors.{wrong_ancestors}
use Rattle.type_system_interfaces.specs.ImplementedTypes.{wrong_interfaces}
use Rattle.type_system_interfaces.specs.InterfaceFields.{unmet_interfaces}

module _ {S C : Type 0} (schema : Catalog S C) where
  -- what a type implements that it may not, what it must implement besides, and what it does not meet of that
  abbrev pub interface_faults : MetaTypeOf S C → List FaultValue
  interface_faults t = wrong_interfaces schema t ++ wrong_ancestors t schema ++ unmet_interfaces schema t
