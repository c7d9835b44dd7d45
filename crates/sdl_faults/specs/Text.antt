-- The faults of a schema and of its text (section 3).
use Rattle.std.specs.Prelude.{◌≡◌, ◌↔◌, ◌++◌, List, [], map}
use Rattle.std.specs.List.Sorted.{IsNonDecreasingBy, IsPermutation}
use Rattle.graphql_reader.specs.declared.type_system.TypeSystemDefinition.{TypeSystemDefinition}
use Rattle.language_values.specs.ValuesPrinted.{printed_value}
use Rattle.sdl_directive_circles.specs.declared.circles.DirectiveCircle.{DirectiveCircle}
use Rattle.sdl_directive_circles.specs.Circles as circles
use Rattle.sdl_directive_circles.specs.Circles.{HasNoDirectiveCircle, circle_values}
use Rattle.sdl_directive_values.specs.Conforming.{HasConformingValues}
use Rattle.sdl_directive_values.specs.declared.fault.ValueFault.{ValueFault}
use Rattle.sdl_directive_values.specs.Faults as values
use Rattle.sdl_directive_values.specs.Faults.{reported}
use Rattle.sdl_directive_values.specs.Given.{document_values}
use Rattle.sdl_directives.specs.Judged.{document_faults}
use Rattle.sdl_own_faults.specs.All.{own_faults}
use Rattle.sdl_scalars.specs.Checks.{MayAnswer}
use Rattle.sdl_scalars.specs.SourceScalar.{source_str, source_text}
use Rattle.sdl_faults.specs.declared.located.LocatedFault.{LocatedFault}
use Rattle.sdl_faults.specs.Schema.{AreSchemaFaults, SourceSchema}
use Rattle.sdl_faults.specs.Told.{ToldFault, place_index, told_directive_circle, told_given, told_own, told_use}
use Rattle.sdl_faults.specs.Told.{told_values}

module _ (document standard : List TypeSystemDefinition) where
  -- what is told of the directives that stand in a document
  abbrev pub AreUses : List ToldFault → Type 0
  AreUses told = told ≡ map told_use (document_faults document standard)

  -- of the values of their arguments; there is none if and only if each conforms
  pub record AreGivenFaults (schema : SourceSchema) (told : List ToldFault) : Type 0 where
    pub found : List ValueFault
    pub are : values.AreFaults schema MayAnswer (printed_value source_text source_str) (document_values document standard) (reported found)
    pub none : (found ≡ []) ↔ HasConformingValues schema MayAnswer (printed_value source_text source_str) document standard
    pub told_is : told ≡ map told_given (reported found)

-- of the faults of its definitions that hang on no other
abbrev pub AreOwnFaults : List TypeSystemDefinition → List ToldFault → Type 0
AreOwnFaults document told = told ≡ map told_own (own_faults document)

-- of directives that refer to themselves
pub record AreCircles (document : List TypeSystemDefinition) (told : List ToldFault) : Type 0 where
  pub found : List DirectiveCircle
  pub are : circles.AreCircles document (circle_values found)
  pub none : (found ≡ []) ↔ HasNoDirectiveCircle document
  pub told_is : told ≡ map told_directive_circle found

module _ (document standard : List TypeSystemDefinition) where
  -- both, for which no schema is needed
  pub record ArePlainFaults (told : List ToldFault) : Type 0 where
    pub uses : List ToldFault
    pub circles : List ToldFault
    pub are_uses : AreUses document standard uses
    pub are_circles : AreCircles document circles
    pub all : told ≡ uses ++ circles

  -- with those of definitions that hang on no other, in the order of the text
  pub record TellsPlainFaults (told : List LocatedFault) : Type 0 where
    pub own : List ToldFault
    pub of_directives : List ToldFault
    pub are_own : AreOwnFaults document own
    pub are_of_directives : ArePlainFaults of_directives
    pub all : IsPermutation (own ++ of_directives) (told_values told)
    pub in_order : IsNonDecreasingBy place_index told

module _ (document standard : List TypeSystemDefinition) (schema : SourceSchema) where
  -- of all directives
  pub record AreDirectiveFaults (told : List ToldFault) : Type 0 where
    pub plain : List ToldFault
    pub given : List ToldFault
    pub are_plain : ArePlainFaults document standard plain
    pub are_given : AreGivenFaults document standard schema given
    pub all : told ≡ plain ++ given

  -- of the schema and its directives, in the order of the text
  pub record TellsFaults (told : List LocatedFault) : Type 0 where
    pub of_schema : List ToldFault
    pub of_directives : List ToldFault
    pub are_of_schema : AreSchemaFaults document schema of_schema
    pub are_of_directives : AreDirectiveFaults of_directives
    pub all : IsPermutation (of_schema ++ of_directives) (told_values told)
    pub in_order : IsNonDecreasingBy place_index told
