-- What is told of the faults of a schema as a type system (section 3).
use Rattle.std.specs.Prelude.{◌≡◌, ◌↔◌, ◌⊎◌, ◌++◌, ℕ, List, [], Option, None, Some, string_bytes}
use Rattle.std.specs.List.{AllZip}
use Rattle.graphql_reader.specs.declared.type_system.TypeSystemDefinition.{TypeSystemDefinition}
use Rattle.language_types.specs.Names.{is_among}
use Rattle.language_types.specs.declared.position.SourcePosition.{SourcePosition}
use Rattle.lint_sources.specs.declared.faults.Fault.{Fault}
use Rattle.lint_sources.specs.declared.sources.Joined.{Joined}
use Rattle.lint_sources.specs.declared.sources.Source.{Source}
use Rattle.lint_sources.specs.Faults.{IsFault}
use Rattle.lint_sources.specs.Places.{place_in}
use Rattle.lint_sources.specs.Sources.{path_in}
use Rattle.lint_schema.specs.Told.{HasAllFurther, IsToldAt}
use Rattle.sdl_index.specs.declared.error.SchemaReadError.{SchemaReadError}
use Rattle.sdl_index.specs.declared.error.SchemaReadError.TheVariants as read
use Rattle.sdl_mending.specs.declared.mended.Mended.{Mended}
use Rattle.sdl_mending.specs.declared.touched.Touched.{Touched}
use Rattle.sdl_mending.specs.Touched.{has_type, touched_types}
use Rattle.sdl_faults.specs.Apart.{TellsRest}
use Rattle.sdl_faults.specs.declared.located.LocatedFault.{LocatedFault}
use Rattle.sdl_faults.specs.Schema.{SourceSchema}
use Rattle.sdl_faults.specs.Text.{TellsFaults, TellsPlainFaults}
use Rattle.sdl_faults.specs.Valid.{IsValidText}

-- a fault is told at its place; one without a place, of the first file
abbrev pub IsToldIn : List Source → Joined → Option (List ℕ) → Option SourcePosition → Fault → Type 0
IsToldIn sources joined said (Some position) fault = IsToldAt sources (place_in joined position) said fault
IsToldIn sources joined said None fault = IsFault (path_in sources 0) [] None said fault

-- and its further places
pub record IsToldLocated (sources : List Source) (joined : Joined) (located : LocatedFault) (fault : Fault) : Type 0 where
  pub first : Fault
  pub is_first : IsToldIn sources joined (Some (string_bytes located.message)) located.position first
  pub further : HasAllFurther sources joined located.others.items first fault

-- after the faults that were there came one for each of these, in order
pub record AddsLocated (sources : List Source) (joined : Joined) (found : List LocatedFault) (old new : List Fault) : Type 0 where
  pub more : List Fault
  pub told : AllZip (IsToldLocated sources joined) found more
  pub all : new ≡ old ++ more

-- those of a schema that was read from the document; there is none if and only if it is a valid type system and the
-- directives of the document are used rightly
pub record AddsTypeSystemFaults (sources : List Source) (joined : Joined)
    (document standard : List TypeSystemDefinition) (schema : SourceSchema) (old new : List Fault) : Type 0 where
  pub found : List LocatedFault
  pub are : TellsFaults document standard schema found
  pub valid : (found ≡ []) ↔ IsValidText document standard schema
  pub adds : AddsLocated sources joined found old new

-- those for which no schema is needed, where the document makes none
pub record AddsPlainFaults (sources : List Source) (joined : Joined) (document standard : List TypeSystemDefinition)
    (old new : List Fault) : Type 0 where
  pub found : List LocatedFault
  pub are : TellsPlainFaults document standard found
  pub adds : AddsLocated sources joined found old new

-- and with them those of what is left of the document
pub record AddsMendedFaults (sources : List Source) (joined : Joined) (document standard : List TypeSystemDefinition)
    (mended : Mended) (old new : List Fault) : Type 0 where
  pub found : List LocatedFault
  pub are : TellsRest document standard mended found
  pub adds : AddsLocated sources joined found old new

-- those types are touched that the reasons of the error touch
abbrev pub IsTouchedBy : List TypeSystemDefinition → SchemaReadError → Touched → Type 0
IsTouchedBy document (read.Faults reasons) touched =
    (name : List ℕ) → has_type touched name ≡ is_among (touched_types document reasons.list.items) name
IsTouchedBy document _ touched = ⊥

-- what is told beside why the document makes no schema: of what is left without what the reasons touch, too, if that
-- makes one
abbrev pub AddsRest : List Source → Joined → List TypeSystemDefinition → List TypeSystemDefinition → SchemaReadError
    → List Fault → List Fault → Type 0
AddsRest sources joined document standard error old new =
    ((mended : Mended) × IsTouchedBy document error mended.touched × AddsMendedFaults sources joined document standard mended old new)
    ⊎ AddsPlainFaults sources joined document standard old new
