-- The faults of a schema that was read from a document (section 3).
use Rattle.std.specs.Prelude.{◌≡◌, ◌↔◌, ◌++◌, List, [], map}
use Rattle.std.specs.List.{flat_map}
use Rattle.std.specs.List.Sorted.{IsPermutation, IsSorted}
use Rattle.graphql_reader.specs.declared.type_system.TypeSystemDefinition.{TypeSystemDefinition}
use Rattle.language_values.specs.ValuesPrinted.{printed_value}
use Rattle.schema.specs.Catalog.{Catalog}
use Rattle.schema.specs.Ordered.{directive_cmp}
use Rattle.schema_validation.specs.declared.directives.DirectiveType.{DirectiveType}
use Rattle.sdl_scalars.specs.declared.check.SourceCheck.{SourceCheck}
use Rattle.sdl_scalars.specs.declared.scalar.SourceScalar.{SourceScalar}
use Rattle.sdl_scalars.specs.Checks.{MayAnswer}
use Rattle.sdl_scalars.specs.SourceScalar.{source_str, source_text}
use Rattle.type_system.specs.All.{all_faults, directive_faults}
use Rattle.type_system_defaults.specs.Conforming.{HasConformingDefaults}
use Rattle.type_system_defaults.specs.Faults.{DefaultFaultValue}
use Rattle.type_system_defaults.specs.Faults as default_values
use Rattle.type_system_defaults.specs.Given.{all_defaults}
use Rattle.type_system_inputs.specs.declared.circles.InputCircle.{InputCircle}
use Rattle.type_system_inputs.specs.Inputs.{FindsInputCircles}
use Rattle.type_system_inputs.specs.Told.{circle_fields}
use Rattle.sdl_faults.specs.Told.{ToldFault, told_circle, told_default, told_fault}

abbrev pub SourceSchema : Type 0
SourceSchema = Catalog SourceScalar SourceCheck

-- the directives of a schema by their names
pub record AreDirectives (schema : SourceSchema) (ds : List (DirectiveType SourceScalar)) : Type 0 where
  pub all : IsPermutation schema.directives ds
  pub sorted : IsSorted directive_cmp ds

module _ (document : List TypeSystemDefinition) (schema : SourceSchema) where
  -- what is told of the faults of the roots, the types and the directives
  pub record AreFaults (told : List ToldFault) : Type 0 where
    pub directives : List (DirectiveType SourceScalar)
    pub are_directives : AreDirectives schema directives
    pub told_is : told ≡ map (told_fault document) (all_faults schema ++ flat_map directive_faults directives)

  -- of circles of input objects
  pub record AreCircles (told : List ToldFault) : Type 0 where
    pub circles : List InputCircle
    pub found : FindsInputCircles schema (map circle_fields circles)
    pub told_is : told ≡ map (told_circle document) circles

  -- of default values that do not conform to their types; there is none if and only if each conforms
  pub record AreDefaults (told : List ToldFault) : Type 0 where
    pub directives : List (DirectiveType SourceScalar)
    pub are_directives : AreDirectives schema directives
    pub faults : List DefaultFaultValue
    pub found : default_values.AreFaults schema MayAnswer (printed_value source_text source_str) (all_defaults schema directives) faults
    pub none : (faults ≡ []) ↔ HasConformingDefaults schema MayAnswer (printed_value source_text source_str)
    pub told_is : told ≡ map (told_default document) faults

  -- of all these
  pub record AreSchemaFaults (told : List ToldFault) : Type 0 where
    pub faults : List ToldFault
    pub circles : List ToldFault
    pub defaults : List ToldFault
    pub are_faults : AreFaults faults
    pub are_circles : AreCircles circles
    pub are_defaults : AreDefaults defaults
    pub all : told ≡ (faults ++ circles) ++ defaults
