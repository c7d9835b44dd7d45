-- Members that stand twice in a union (section 3.8).
use Rattle.std.specs.Prelude.{ℕ, List}
use Rattle.language_types.specs.Names.{is_among}
use Rattle.meta.specs.declared.kinds.MetaTypeOf.{MetaTypeOf}
use Rattle.schema_validation.specs.Names.{members_of}
use Rattle.type_system_report.specs.declared.fault.CoordinateOf.TheVariants as c
use Rattle.type_system_report.specs.declared.fault.FaultKindOf.TheVariants as k
use Rattle.type_system_report.specs.Fault.{FaultValue, fault_if}
use Rattle.type_system_interfaces.specs.Entries.{each_entry}
use Rattle.type_system_interfaces.specs.Members.{name_in}

module _ {S C : Type 0} (t : MetaTypeOf S C) where
  -- a member that is also one of those after it
  abbrev pub repeated_member : List ℕ → List (List ℕ) → List FaultValue
  repeated_member n ns = fault_if (is_among ns n) (c.Type (name_in t)) (k.RepeatedMember n)

  -- those of a union
  abbrev pub repeated_members : List FaultValue
  repeated_members = each_entry repeated_member (members_of t)
