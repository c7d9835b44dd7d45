-- The variables of a document without errors.
use Rattle.std.specs.List.{Contains}
use Rattle.events.specs.Typing.{untyped}
use Rattle.language.specs.declared.tree.Definition.{Definition}
use Rattle.language.specs.declared.tree.Definition.TheVariants as definition
use Rattle.lint_app.specs.Told.{Document, HasKnownTypes, IsErrorFree, Root}
use Rattle.lint_app.specs.Rules.{SourceRules}
use Rattle.schema.specs.declared.model.dialect.Dialect.{Dialect}
use Rattle.sdl_scalars.specs.declared.scalar.SourceScalar.{SourceScalar}
use Rattle.rules_first_stage.specs.CleanStage.{IsCleanWhere}

-- their types are known input types
pub known_types : (rules : SourceRules) (root : Root) (document : Document) (def : Definition SourceScalar) → IsErrorFree rules root document → ((dialect : Dialect) → IsCleanWhere (rules dialect).first_stage.find_nothing) → Contains document def → HasKnownTypes root def
known_types rules root document (definition.Operation operation) valid clean stands = (clean root.schema.dialect root.schema untyped document valid.0.stage_one).variable_types operation stands
known_types rules root document (definition.Fragment fragment) valid clean stands = tt
