-- What is told of files of queries.
use Rattle.std.specs.Prelude.{◌≡◌, ◌↔◌, ⊤, Bool, true, false, ℕ, ◌+◌, List, [], ◌∷◌, ◌++◌, Option, Some, None}
use Rattle.std.specs.Prelude.{IsPermutation, IsSorted, IfSome, if◌then◌else◌, codes, count_by, is_some, length}
use Rattle.std.specs.Prelude.{map}
use Rattle.std.specs.Fmt.{decimal}
use Rattle.std.specs.List.{AllZip, flat_map}
use Rattle.language.specs.declared.tree.Definition.{Definition}
use Rattle.language.specs.declared.tree.Definition.TheVariants as definition
use Rattle.language.specs.declared.tree.Operation.{Operation}
use Rattle.graphql_reader.specs.Documents.{IsDocument, definition_seen}
use Rattle.lint_app.specs.declared.documents.Report.{Report}
use Rattle.lint_app.specs.Rules.{SourceRules}
use Rattle.lint_files.specs.Read.{IsJoined}
use Rattle.lint_sources.specs.declared.issues.Issue.{Issue}
use Rattle.lint_sources.specs.declared.sources.Joined.{Joined}
use Rattle.lint_sources.specs.declared.sources.Source.{Source}
use Rattle.lint_sources.specs.Issues.{IsIssueIn}
use Rattle.lint_sources.specs.Places.{text_of}
use Rattle.sdl_scalars.specs.declared.check.SourceCheck.{SourceCheck}
use Rattle.sdl_scalars.specs.declared.scalar.SourceScalar.{SourceScalar}
use Rattle.sdl_scalars.specs.Checks.{MayAnswer}
use Rattle.sdl_scalars.specs.SourceScalar.{source_str, source_text}
use Rattle.validation.specs.declared.root_node.RootNodeOf.{RootNodeOf}
use Rattle.validation.specs.RootRules.{IsRootReportUpTo, IsRootValid}
use Rattle.variable_values.specs.Inputs.{HasInputTypes}
use Rattle.variable_values.specs.InTurn.{InTurn}
use Rattle.variable_values.specs.Messages.{OfOperation, Values}
use Rattle.walk.specs.ContextState.{has_place}
use Rattle.walk.specs.ErrorValue.{ErrorValue, error_cmp, shares}

abbrev pub Root : Type 0
Root = RootNodeOf SourceScalar SourceCheck

abbrev pub Document : Type 0
Document = List (Definition SourceScalar)

-- the document is that of the text: its tokens are those that the tree is written with, nested within some limit or
-- none
abbrev pub IsRead : List ℕ → Document → Type 0
IsRead text document = (limit : Option ℕ) × IsDocument limit text (map definition_seen document)

abbrev pub GivenValues : Type 0
GivenValues = Values SourceScalar

-- after the issues that were there came some of which this holds
pub record Adds (P : List Issue → Type 0) (old new : List Issue) : Type 0 where
  pub more : List Issue
  pub told : P more
  pub all : new ≡ old ++ more

-- an issue for each error, in order
abbrev pub AreToldAs : Joined → ℕ → List ErrorValue → List Issue → Type 0
AreToldAs joined file = AllZip (λ error issue. IsIssueIn joined file error.message error.locations issue)

-- what is told of a document, if there is one
abbrev pub issues_of : Option (List Issue) → List Issue
issues_of None = []
issues_of (Some issues) = issues

-- the same, where there is a document, and else nothing came
pub record AddsIf (is_document : Bool) (P : List Issue → Type 0) (old new : List Issue) : Type 0 where
  pub outcome : Option (List Issue)
  pub told : IfSome outcome P
  pub is : is_document ≡ is_some outcome
  pub all : new ≡ old ++ issues_of outcome

-- the faults of the values for the variables of an operation, in ascending order
pub record AreFaultsOf (root : Root) (values : GivenValues) (operation : Operation SourceScalar) (faults : List ErrorValue) : Type 0 where
  pub found : List ErrorValue
  pub all : OfOperation root.schema MayAnswer source_text source_str values operation found
  pub ordered : IsPermutation found faults
  pub sorted : IsSorted error_cmp faults

-- those of a definition: an operation has variables
abbrev pub FaultsAt : Root → GivenValues → Definition SourceScalar → List ErrorValue → Type 0
FaultsAt root values (definition.Operation operation) faults = AreFaultsOf root values operation.item faults
FaultsAt root values (definition.Fragment fragment) faults = faults ≡ []

-- the types of its variables are known input types, as those of a document without errors are
abbrev pub HasKnownTypes : Root → Definition SourceScalar → Type 0
HasKnownTypes root (definition.Operation operation) = HasInputTypes root.schema operation.item
HasKnownTypes root (definition.Fragment fragment) = ⊤

-- those of a document, where values are given
abbrev pub FaultsIn : Root → Option GivenValues → Document → List ErrorValue → Type 0
FaultsIn root None document faults = faults ≡ []
FaultsIn root (Some values) document faults = InTurn (λ index. FaultsAt root values) 0 document faults

-- both as issues of the file or of those of the text
abbrev pub TellsFaultsAt : Root → GivenValues → Joined → ℕ → Definition SourceScalar → List Issue → Type 0
TellsFaultsAt root values joined file def issues =
    (faults : List ErrorValue) × FaultsAt root values def faults × AreToldAs joined file faults issues

abbrev pub TellsFaultsIn : Root → Option GivenValues → Joined → ℕ → Document → List Issue → Type 0
TellsFaultsIn root values joined file document issues =
    (faults : List ErrorValue) × FaultsIn root values document faults × AreToldAs joined file faults issues

abbrev pub limit_text : ℕ → List ℕ
limit_text limit = codes "There may be more errors: --max-errors is " ++ decimal limit

-- where errors fill the limit on them, that there may be more
abbrev pub limit_notes : ℕ → List ErrorValue → List ErrorValue
limit_notes limit errors =
    if has_place limit (shares errors) then [] else record { locations = []; message = limit_text limit } ∷ []

-- What is told behind the errors: where there is none, values are judged; else that there may be more, if that is so.
abbrev pub FurtherOf : Root → Option GivenValues → Document → List ErrorValue → List ErrorValue → Type 0
FurtherOf root values document [] further = FaultsIn root values document further
FurtherOf root values document (error ∷ errors) further = further ≡ limit_notes root.max_errors (error ∷ errors)

-- By what is known of the rules of each dialect.
module _ (rules : SourceRules) where
  -- the document is valid, and where introspection is closed it asks for none
  abbrev pub IsErrorFree : Root → Document → Type 0
  IsErrorFree root document = IsRootValid (rules root.schema.dialect) root.introspection_disabled root.schema document

  -- what the root node reports of a document, up to its limit, in ascending order; it is nothing exactly where the
  -- document is valid
  pub record AreErrorsOf (root : Root) (document : Document) (errors : List ErrorValue) : Type 0 where
    pub pairs : ℕ
    pub reported : IsRootReportUpTo (rules root.schema.dialect) root.max_errors root.introspection_disabled root.schema
        document errors pairs
    pub valid : (errors ≡ []) ↔ IsErrorFree root document
    pub sorted : IsSorted error_cmp errors

  -- a document's errors, and what is told behind them, as issues of the file or of those of its text
  pub record TellsDocument (root : Root) (values : Option GivenValues) (joined : Joined) (file : ℕ)
      (document : Document) (issues : List Issue) : Type 0 where
    pub errors : List ErrorValue
    pub are_errors : AreErrorsOf root document errors
    pub further : List ErrorValue
    pub is_further : FurtherOf root values document errors further
    pub told : AreToldAs joined file (errors ++ further) issues

  -- the same, of the document that was read from the text
  abbrev pub TellsRead : Root → Option GivenValues → Joined → ℕ → List Issue → Type 0
  TellsRead root values joined file issues =
      (document : Document) × IsRead (text_of joined) document × TellsDocument root values joined file document issues

  -- the same, of files that are read as one document; their numbers count from that of the first
  abbrev pub TellsFiles : Root → Option GivenValues → ℕ → List Source → List Issue → Type 0
  TellsFiles root values file sources issues = (joined : Joined) × IsJoined file sources joined × TellsRead root values joined file issues

  -- what is told of a file by itself, if it is a document
  abbrev pub TellsFile : Root → Option GivenValues → ℕ → Source → List (Option (List Issue)) → Type 0
  TellsFile root values file source outcomes =
      (outcome : Option (List Issue)) × (outcomes ≡ outcome ∷ [])
      × IfSome outcome (TellsFiles root values file (source ∷ []))

  -- each file is judged by itself: the issues are those of all documents in turn, and so many files are documents
  pub record TellsEach (root : Root) (values : Option GivenValues) (sources : List Source) (report : Report) : Type 0 where
    pub outcomes : List (Option (List Issue))
    pub each : InTurn (TellsFile root values) 0 sources outcomes
    pub issues : report.issues.items ≡ flat_map issues_of outcomes
    pub judged : report.judged ≡ count_by is_some outcomes

  -- all files are judged as one document, if they are one
  pub record TellsTogether (root : Root) (values : Option GivenValues) (sources : List Source) (report : Report) : Type 0 where
    pub outcome : Option (List Issue)
    pub all : IfSome outcome (TellsFiles root values 0 sources)
    pub issues : report.issues.items ≡ issues_of outcome
    pub judged : report.judged ≡ (if is_some outcome then length sources else 0)

  abbrev pub IsReport : Bool → Root → Option GivenValues → List Source → Report → Type 0
  IsReport true = TellsTogether
  IsReport false = TellsEach
