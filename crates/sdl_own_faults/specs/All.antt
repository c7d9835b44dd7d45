-- The faults of a document that hang on no other definition, in their order (section 3).
use Rattle.std.specs.Prelude.{List, [], ◌++◌, if◌then◌else◌}
use Rattle.std.specs.List.{flat_map}
use Rattle.graphql_reader.specs.declared.type_system.DirectiveDefinition.{DirectiveDefinition}
use Rattle.graphql_reader.specs.declared.type_system.TypeDefinition.{TypeDefinition}
use Rattle.graphql_reader.specs.declared.type_system.TypeSystemDefinition.{TypeSystemDefinition}
use Rattle.graphql_reader.specs.declared.type_system.TypeSystemDefinition.TheVariants as d
use Rattle.type_system_report.specs.declared.fault.CoordinateOf.TheVariants as c
use Rattle.sdl_own_faults.specs.Fault.{PlacedFault}
use Rattle.sdl_own_faults.specs.ListedTypes.{wrong_entries}
use Rattle.sdl_own_faults.specs.Members.{member_faults, parameter_faults}
use Rattle.sdl_own_faults.specs.Parts.{extensions_in, listing_in}
use Rattle.sdl_own_faults.specs.ReservedNames.{reserved_name, reserved_type}
use Rattle.sdl_own_faults.specs.SomeMembers.{missing_members}

module _ (extensions listing : List TypeDefinition) where
  -- a definition of a type, with those of all extensions that extend it, of which some list types
  abbrev pub whole_faults : TypeDefinition → List PlacedFault
  whole_faults x = reserved_type x ++ missing_members x extensions ++ wrong_entries x listing

  -- a definition or extension of a type: its members, and if it is a definition, that
  abbrev pub type_faults : TypeDefinition → List PlacedFault
  type_faults x = member_faults x.name.item.now x.body ++ (if x.is_extension then [] else whole_faults x)

-- a directive and its arguments
abbrev pub directive_faults : DirectiveDefinition → List PlacedFault
directive_faults x =
    reserved_name x.name (c.Directive x.name.item.now)
    ++ flat_map (parameter_faults (c.Directive x.name.item.now)) x.arguments.items

abbrev pub definition_faults : List TypeDefinition → List TypeDefinition → TypeSystemDefinition → List PlacedFault
definition_faults extensions listing (d.Schema x) = []
definition_faults extensions listing (d.Type x) = type_faults extensions listing x.item
definition_faults extensions listing (d.Directive x) = directive_faults x.item

-- all of a document; each definition of a name is judged where it has several
abbrev pub own_faults : List TypeSystemDefinition → List PlacedFault
own_faults document =
    flat_map (definition_faults (extensions_in document) (listing_in (extensions_in document))) document
