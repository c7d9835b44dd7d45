-- What is told of a document.
use Rattle.std.specs.Prelude.{◌≡◌, ◌↔◌, ⊤, ℕ, List, [], ◌∷◌, None, IsPermutation, IsSorted, map, string_bytes}
use Rattle.std.specs.Str.{IsUtf8}
use Rattle.language_types.specs.declared.position.SourcePosition.{SourcePosition}
use Rattle.language.specs.declared.tree.Definition.{Definition}
use Rattle.language.specs.declared.tree.Definition.TheVariants as definition
use Rattle.language.specs.declared.tree.Operation.{Operation}
use Rattle.error_report.specs.Json.{report_text}
use Rattle.graphql_lexer.specs.declared.error.ReadError.TheVariants.{Syntax}
use Rattle.graphql_lexer.specs.declared.error.SyntaxError.{SyntaxError}
use Rattle.graphql_reader.specs.Documents.{IsDocument, definition_seen}
use Rattle.graphql_reader.specs.Faults.{IsDocumentFault, IsNoDocument}
use Rattle.answers.specs.declared.choices.Choices.{Choices}
use Rattle.answers.specs.declared.reports.Answer.{Answer}
use Rattle.answers.specs.declared.reports.Verdict.{Verdict}
use Rattle.answers.specs.declared.reports.Verdict.TheVariants.{Valid, Invalid, Unreadable, NoValues, NotUtf8}
use Rattle.answers.specs.Reports.{IsNotUtf8, IsRefusal}
use Rattle.schema.specs.Catalog.{Catalog}
use Rattle.schema.specs.declared.model.dialect.Dialect.{Dialect}
use Rattle.sdl_scalars.specs.declared.check.SourceCheck.{SourceCheck}
use Rattle.sdl_scalars.specs.declared.scalar.SourceScalar.{SourceScalar}
use Rattle.sdl_scalars.specs.Checks.{MayAnswer}
use Rattle.sdl_scalars.specs.SourceScalar.{source_str, source_text}
use Rattle.validation.specs.declared.root_node.RootNodeOf.{RootNodeOf}
use Rattle.validation.specs.RootRules.{IsRootReportUpTo, IsRootValid}
use Rattle.validation.specs.Stages.{Rules}
use Rattle.variable_values.specs.Inputs.{HasInputTypes}
use Rattle.variable_values.specs.InTurn.{InTurn}
use Rattle.variable_values.specs.Messages.{OfOperation, Values}
use Rattle.walk.specs.ErrorValue.{ErrorValue, error_cmp}

abbrev pub SourceRules : Type 1
SourceRules = Dialect → Rules SourceScalar SourceCheck

abbrev pub SourceCatalog : Type 0
SourceCatalog = Catalog SourceScalar SourceCheck

abbrev pub Document : Type 0
Document = List (Definition SourceScalar)

abbrev pub GivenValues : Type 0
GivenValues = Values SourceScalar

-- the document is that of the text: its tokens are those that the tree is written with, spans included
abbrev pub IsRead : List ℕ → Document → Type 0
IsRead text document = IsDocument None text (map definition_seen document)

-- valid exactly where there is no error
abbrev pub verdict_in : List ErrorValue → Verdict
verdict_in [] = Valid
verdict_in (error ∷ errors) = Invalid

-- the verdict and the report are those of the errors of the text
pub record IsTold (text : List ℕ) (errors : List ErrorValue) (answer : Answer) : Type 0 where
  pub verdict_is : answer.verdict ≡ verdict_in errors
  pub report_is : string_bytes answer.report ≡ report_text text errors

-- the text was not judged
pub record IsRefused (verdict : Verdict) (text : List ℕ) (answer : Answer) : Type 0 where
  pub verdict_is : answer.verdict ≡ verdict
  pub position : SourcePosition
  pub refused : IsRefusal text position (string_bytes answer.report)

-- the same, with the place that the report has
pub record IsRefusedAt (verdict : Verdict) (text : List ℕ) (place : SourcePosition) (answer : Answer) : Type 0 where
  pub verdict_is : answer.verdict ≡ verdict
  pub refused : IsRefusal text place (string_bytes answer.report)

-- The text is that of no document, and that is told: the report has the place of the first token with which none goes
-- on.
pub record IsUnread (text : List ℕ) (answer : Answer) : Type 0 where
  pub error : SyntaxError
  pub none : IsNoDocument None text (Syntax error)
  pub fault : IsDocumentFault None text (Syntax error)
  pub told : IsRefusedAt Unreadable text error.position answer

-- bytes are told of as the text that they are, or as no UTF-8
pub data OfBytes (P : Answer → Type 0) (bytes : List ℕ) (answer : Answer) : Type 0 where
  of_text : IsUtf8 bytes → P answer → OfBytes P bytes answer
  of_no_text : answer.verdict ≡ NotUtf8 → IsNotUtf8 bytes (string_bytes answer.report) → OfBytes P bytes answer

-- the faults of the values for the variables of an operation, in ascending order
pub record AreFaultsOf (schema : SourceCatalog) (values : GivenValues) (operation : Operation SourceScalar)
    (faults : List ErrorValue) : Type 0 where
  pub found : List ErrorValue
  pub all : OfOperation schema MayAnswer source_text source_str values operation found
  pub ordered : IsPermutation found faults
  pub sorted : IsSorted error_cmp faults

-- those of a definition: an operation has variables
abbrev pub FaultsAt : SourceCatalog → GivenValues → Definition SourceScalar → List ErrorValue → Type 0
FaultsAt schema values (definition.Operation operation) faults = AreFaultsOf schema values operation.item faults
FaultsAt schema values (definition.Fragment fragment) faults = faults ≡ []

-- the types of its variables are known input types, as those of a valid document are
abbrev pub HasKnownTypes : SourceCatalog → Definition SourceScalar → Type 0
HasKnownTypes schema (definition.Operation operation) = HasInputTypes schema operation.item
HasKnownTypes schema (definition.Fragment fragment) = ⊤

-- those of each definition in turn
abbrev pub FaultsIn : SourceCatalog → GivenValues → Document → List ErrorValue → Type 0
FaultsIn schema values document faults = InTurn (λ index. FaultsAt schema values) 0 document faults

-- they are told
pub record TellsFaultsOf (schema : SourceCatalog) (values : GivenValues) (text : List ℕ) (document : Document)
    (answer : Answer) : Type 0 where
  pub faults : List ErrorValue
  pub are_faults : FaultsIn schema values document faults
  pub told : IsTold text faults answer

-- the same of the values that were read, if they were
pub data TellsFaults (schema : SourceCatalog) (text given : List ℕ) (document : Document) (answer : Answer) : Type 0 where
  of_values : (values : GivenValues) → TellsFaultsOf schema values text document answer → TellsFaults schema text given document answer
  of_no_values : IsRefused NoValues given answer → TellsFaults schema text given document answer

-- what is chosen by a root node
abbrev pub choices_of : RootNodeOf SourceScalar SourceCheck → Choices
choices_of root = record { is_closed = root.introspection_disabled; max_errors = root.max_errors }

-- By what is known of the rules of each dialect, and what the caller chooses.
module _ (rules : SourceRules) (choices : Choices) (schema : SourceCatalog) where
  abbrev pub IsValidDocument : Document → Type 0
  IsValidDocument document = IsRootValid (rules schema.dialect) choices.is_closed schema document

  -- what the rules report of a document, up to the limit, in ascending order; it is nothing exactly where the document
  -- is valid
  pub record AreErrorsOf (document : Document) (errors : List ErrorValue) : Type 0 where
    pub pairs : ℕ
    pub reported : IsRootReportUpTo (rules schema.dialect) choices.max_errors choices.is_closed schema document errors pairs
    pub valid : (errors ≡ []) ↔ IsValidDocument document
    pub sorted : IsSorted error_cmp errors

  -- the errors of the document of a text
  pub record IsReportOn (text : List ℕ) (errors : List ErrorValue) : Type 0 where
    pub document : Document
    pub read : IsRead text document
    pub are_errors : AreErrorsOf document errors

  -- the errors of a document are told, with `Valid` exactly where it is valid
  pub record TellsErrors (text : List ℕ) (document : Document) (answer : Answer) : Type 0 where
    pub errors : List ErrorValue
    pub are_errors : AreErrorsOf document errors
    pub told : IsTold text errors answer
    pub valid : (answer.verdict ≡ Valid) ↔ IsValidDocument document

  -- the errors of a document are told, or where it is valid the faults of the values
  pub data TellsValues (text given : List ℕ) (document : Document) (answer : Answer) : Type 0 where
    of_errors : (IsValidDocument document → ⊥) → TellsErrors text document answer → TellsValues text given document answer
    of_faults : IsValidDocument document → TellsFaults schema text given document answer → TellsValues text given document answer

  -- what is told of a text: the errors of its document, or that it is that of none
  pub data Answers (text : List ℕ) (answer : Answer) : Type 0 where
    of_document : (document : Document) → IsRead text document → TellsErrors text document answer → Answers text answer
    of_no_document : IsUnread text answer → Answers text answer

  -- the same, with values
  pub data AnswersValues (text given : List ℕ) (answer : Answer) : Type 0 where
    of_document_and_values : (document : Document) → IsRead text document → TellsValues text given document answer
        → AnswersValues text given answer
    of_unread_document : IsUnread text answer → AnswersValues text given answer
