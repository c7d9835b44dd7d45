-- The tokens that executable documents are written with (GraphQL, October 2021, sections 2.2, 2.3, 2.8 and 2.10).
use Rattle.std.specs.Prelude.{◌≡◌, ◌⊎◌, ℕ, false, List, [], ◌∷◌, ◌++◌, map, Option, None, option_map, codes}
use denote.Ref.{Bor}
use Rattle.language_types.specs.declared.position.Span.{Span}
use Rattle.language_types.specs.declared.position.Spanning.{Spanning}
use Rattle.language.specs.declared.tree.Definition.{Definition as GivenDefinition}
use Rattle.language.specs.declared.tree.Definition.TheVariants as given
use Rattle.language.specs.declared.tree.Fragment.{Fragment as GivenFragment}
use Rattle.language.specs.declared.tree.Operation.{Operation as GivenOperation}
use Rattle.language.specs.declared.tree.OperationType.{OperationType}
use Rattle.language.specs.declared.tree.OperationType.TheVariants.{Query, Mutation, Subscription}
use Rattle.language.specs.declared.tree.VariableDefinition.{VariableDefinition as GivenVariable}
use Rattle.language.specs.declared.tree.VariableDefinitions.{VariableDefinitions as GivenVariables}
use Rattle.sdl_scalars.specs.declared.scalar.SourceScalar.{SourceScalar}
use Rattle.graphql_lexer.specs.Lexemes.{Lexeme, AreLexemes}
use Rattle.graphql_lexer.specs.Lexical as token
use Rattle.graphql_lexer.specs.declared.lexer.Punctuator.TheVariants.{Dollar, Colon, Equals, ParenOpen, ParenClose}
use Rattle.value_reader.specs.Grammar.{Rules, Spells}
use Rattle.value_reader.specs.Seen.{value_seen}
use Rattle.value_reader.specs.Values.{Key, Value}
use Rattle.graphql_reader.specs.Arguments.{Directive, name_seen, SpellsDirectives, SpellsEach}
use Rattle.graphql_reader.specs.Passed.{Covers, One, Optional, Then}
use Rattle.graphql_reader.specs.Selections.{Selections, SpellsCondition, SpellsFragmentName, SpellsName, SpellsSet}
use Rattle.graphql_reader.specs.Selections.{directives_seen, nodes_seen, open_rules}
use Rattle.graphql_reader.specs.Types.{PlacedType, SpellsType, type_seen}

-- a variable of an operation, whose span begins at the `$`
pub record Variable : Type 0 where
  pub name : Key
  pub kind : PlacedType
  pub default : Option Value
  pub directives : Option (List Directive)

pub record Variables : Type 0 where
  pub given : List Variable
  pub span : Span

pub record Operation : Type 0 where
  pub kind : OperationType
  pub name : Option Key
  pub variables : Option Variables
  pub directives : Option (List Directive)
  pub set : Selections
  pub span : Span

pub record Fragment : Type 0 where
  pub name : Key
  pub condition : Key
  pub directives : Option (List Directive)
  pub set : Selections
  pub span : Span

pub data Definition : Type 0 where
  operation : Operation → Definition
  fragment : Fragment → Definition

-- no variable may be in a value
abbrev pub constant_rules : Option ℕ → Rules
constant_rules limit = record { variables = false; limit = limit }

-- Variable: `$` Name
abbrev pub SpellsVariable : Key → List Lexeme → Type 0
SpellsVariable k ts = Then (One (token.punctuator Dollar)) (One (token.name k.name)) ts × Covers k.span ts

-- DefaultValue: `=` Value[Const]
abbrev pub SpellsDefault : Option ℕ → Value → List Lexeme → Type 0
SpellsDefault limit v = Then (One (token.punctuator Equals)) (Spells (constant_rules limit) 0 v)

-- VariableDefinition: Variable `:` Type DefaultValue? Directives[Const]?
abbrev pub SpellsVariableDefinition : Option ℕ → Variable → List Lexeme → Type 0
SpellsVariableDefinition limit v =
    Then (SpellsVariable v.name)
    (Then (One (token.punctuator Colon)) (Then (SpellsType limit v.kind)
    (Then (Optional (SpellsDefault limit) v.default)
    (Optional (SpellsDirectives (constant_rules limit)) v.directives))))

-- VariableDefinitions: `(` VariableDefinition+ `)`
abbrev pub SpellsVariables : Option ℕ → Variables → List Lexeme → Type 0
SpellsVariables limit vs ts =
    (vs.given ≡ [] → ⊥)
    × Then (One (token.punctuator ParenOpen))
    (Then (SpellsEach (SpellsVariableDefinition limit) vs.given) (One (token.punctuator ParenClose))) ts
    × Covers vs.span ts

-- OperationType: one of `query`, `mutation` and `subscription`
abbrev pub keyword : OperationType → List ℕ
keyword Query = codes "query"
keyword Mutation = codes "mutation"
keyword Subscription = codes "subscription"

-- OperationDefinition: OperationType Name? VariableDefinitions? Directives? SelectionSet
abbrev pub SpellsLongOperation : Option ℕ → Operation → List Lexeme → Type 0
SpellsLongOperation limit o =
    Then (One (token.name (keyword o.kind)))
    (Then (Optional SpellsName o.name) (Then (Optional (SpellsVariables limit) o.variables)
    (Then (Optional (SpellsDirectives (open_rules limit)) o.directives) (SpellsSet limit 0 o.set))))

-- OperationDefinition: SelectionSet, which is a query
abbrev pub SpellsShortOperation : Option ℕ → Operation → List Lexeme → Type 0
SpellsShortOperation limit o ts =
    (o.kind ≡ Query) × (o.name ≡ None) × (o.variables ≡ None) × (o.directives ≡ None) × SpellsSet limit 0 o.set ts

abbrev pub SpellsOperation : Option ℕ → Operation → List Lexeme → Type 0
SpellsOperation limit o ts = (SpellsLongOperation limit o ts ⊎ SpellsShortOperation limit o ts) × Covers o.span ts

abbrev pub fragment_word : List ℕ
fragment_word = codes "fragment"

-- FragmentDefinition: `fragment` FragmentName TypeCondition Directives? SelectionSet
abbrev pub SpellsFragment : Option ℕ → Fragment → List Lexeme → Type 0
SpellsFragment limit f ts =
    Then (One (token.name fragment_word))
    (Then (SpellsFragmentName f.name) (Then (SpellsCondition f.condition)
    (Then (Optional (SpellsDirectives (open_rules limit)) f.directives) (SpellsSet limit 0 f.set)))) ts
    × Covers f.span ts

-- ExecutableDefinition: OperationDefinition or FragmentDefinition
abbrev pub SpellsDefinition : Option ℕ → Definition → List Lexeme → Type 0
SpellsDefinition limit (operation o) ts = SpellsOperation limit o ts
SpellsDefinition limit (fragment f) ts = SpellsFragment limit f ts

-- ExecutableDocument: ExecutableDefinition+
abbrev pub SpellsDocument : Option ℕ → List Definition → List Lexeme → Type 0
SpellsDocument limit ds ts = (ds ≡ [] → ⊥) × SpellsEach (SpellsDefinition limit) ds ts

-- The tokens of the text are those of the document, and then the text ends. Selection sets, lists and objects of a
-- value, and list types each nest at most as deep as the limit, where there is one.
abbrev pub IsDocument : Option ℕ → List ℕ → List Definition → Type 0
IsDocument limit text ds =
    (ts : List Lexeme) × (last : Lexeme)
    × AreLexemes text (ts ++ last ∷ []) × (last.token ≡ token.end) × SpellsDocument limit ds ts

-- ---- what the code's definitions stand for
abbrev pub variable_seen : Spanning (Bor (List ℕ)) Span × GivenVariable SourceScalar → Variable
variable_seen v =
    record {
      name = name_seen v.0;
      kind = type_seen v.1.var_type;
      default = option_map value_seen v.1.default_value;
      directives = directives_seen v.1.directives;
    }

abbrev pub variables_seen : Spanning (GivenVariables SourceScalar) Span → Variables
variables_seen vs = record { given = map variable_seen vs.item.items.items; span = vs.span }

abbrev pub operation_seen : Spanning (GivenOperation SourceScalar) Span → Operation
operation_seen o =
    record {
      kind = o.item.operation_type;
      name = option_map name_seen o.item.name;
      variables = option_map variables_seen o.item.variable_definitions;
      directives = directives_seen o.item.directives;
      set = nodes_seen o.item.selection_set.items;
      span = o.span;
    }

abbrev pub fragment_seen : Spanning (GivenFragment SourceScalar) Span → Fragment
fragment_seen f =
    record {
      name = name_seen f.item.name;
      condition = name_seen f.item.type_condition;
      directives = directives_seen f.item.directives;
      set = nodes_seen f.item.selection_set.items;
      span = f.span;
    }

abbrev pub definition_seen : GivenDefinition SourceScalar → Definition
definition_seen (given.Operation o) = operation (operation_seen o)
definition_seen (given.Fragment f) = fragment (fragment_seen f)
