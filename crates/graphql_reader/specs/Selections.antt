-- The tokens that selections are written with (GraphQL, October 2021, sections 2.4, 2.5 and 2.8).
use Rattle.std.specs.Prelude.{◌≡◌, ℕ, suc, true, List, [], ◌∷◌, map, Option, Some, None, option_map, Vec, codes}
use denote.Ref.{Bor}
use Rattle.std.specs.declared.alloc.Global.{Global}
use Rattle.language_types.specs.declared.position.Span.{Span}
use Rattle.language_types.specs.declared.position.Spanning.{Spanning}
use Rattle.language.specs.declared.tree.Arguments.{Arguments}
use Rattle.language.specs.declared.tree.Directive.{Directive as GivenDirective}
use Rattle.language.specs.declared.tree.Selection.{Selection as Node, fold-Selection}
use Rattle.language.specs.declared.tree.Selection.TheOpen as opened
use Rattle.sdl_scalars.specs.declared.scalar.SourceScalar.{SourceScalar}
use Rattle.graphql_lexer.specs.Lexemes.{Lexeme}
use Rattle.graphql_lexer.specs.Lexical as token
use Rattle.graphql_lexer.specs.declared.lexer.Punctuator.TheVariants.{Colon, Spread, BraceOpen, BraceClose}
use Rattle.value_reader.specs.Grammar.{Rules, may_nest}
use Rattle.value_reader.specs.Values.{Key}
use Rattle.graphql_reader.specs.Arguments.{Directive, Parens, name_seen, parens_seen, directive_seen, key_sign}
use Rattle.graphql_reader.specs.Arguments.{SpellsArguments, SpellsDirectives}
use Rattle.graphql_reader.specs.Passed.{Covers, One, Optional, Then}

-- a field up to its selection set
pub record FieldHead : Type 0 where
  pub alias : Option Key
  pub name : Key
  pub arguments : Option Parens
  pub directives : Option (List Directive)

-- an inline fragment up to its selection set
pub record InlineHead : Type 0 where
  pub condition : Option Key
  pub directives : Option (List Directive)

mutual
  -- a field without and with a set, the spread of a fragment, and an inline fragment
  pub data Selection : Type 0 where
    leaf : FieldHead → Span → Selection
    field : FieldHead → Selections → Span → Selection
    spread : Key → Option (List Directive) → Span → Selection
    inline : InlineHead → Selections → Span → Selection

  pub data Selections : Type 0 where
    no_selections : Selections
    selection : Selection → Selections → Selections

-- variables may be in values
abbrev pub open_rules : Option ℕ → Rules
open_rules limit = record { variables = true; limit = limit }

abbrev pub SpellsName : Key → List Lexeme → Type 0
SpellsName k ts = ts ≡ key_sign k ∷ []

-- Alias: Name `:`
abbrev pub SpellsAlias : Key → List Lexeme → Type 0
SpellsAlias k = Then (SpellsName k) (One (token.punctuator Colon))

abbrev pub SpellsGiven : Rules → Parens → List Lexeme → Type 0
SpellsGiven rules p ts = SpellsArguments rules p.given p.span ts

-- Alias? Name
abbrev pub SpellsAliased : Option Key → Key → List Lexeme → Type 0
SpellsAliased alias k = Then (Optional SpellsAlias alias) (SpellsName k)

-- Field: Alias? Name Arguments? Directives? and what is not here, SelectionSet?
abbrev pub SpellsFieldHead : Option ℕ → FieldHead → List Lexeme → Type 0
SpellsFieldHead limit h =
    Then (SpellsAliased h.alias h.name)
    (Then (Optional (SpellsGiven (open_rules limit)) h.arguments)
    (Optional (SpellsDirectives (open_rules limit)) h.directives))

abbrev pub on : List ℕ
on = codes "on"

-- TypeCondition: `on` NamedType
abbrev pub SpellsCondition : Key → List Lexeme → Type 0
SpellsCondition k = Then (One (token.name on)) (SpellsName k)

-- `...` TypeCondition?
abbrev pub SpellsDots : Option Key → List Lexeme → Type 0
SpellsDots condition = Then (One (token.punctuator Spread)) (Optional SpellsCondition condition)

-- InlineFragment: `...` TypeCondition? Directives? and what is not here, SelectionSet
abbrev pub SpellsInlineHead : Option ℕ → InlineHead → List Lexeme → Type 0
SpellsInlineHead limit h = Then (SpellsDots h.condition) (Optional (SpellsDirectives (open_rules limit)) h.directives)

-- FragmentName: Name but not `on`
abbrev pub SpellsFragmentName : Key → List Lexeme → Type 0
SpellsFragmentName k ts = (k.name ≡ on → ⊥) × SpellsName k ts

-- FragmentSpread: `...` FragmentName Directives?
abbrev pub SpellsSpread : Option ℕ → Key → Option (List Directive) → List Lexeme → Type 0
SpellsSpread limit k ds =
    Then (One (token.punctuator Spread))
    (Then (SpellsFragmentName k) (Optional (SpellsDirectives (open_rules limit)) ds))

-- in braces, inside of so many sets
abbrev pub InBraces : Option ℕ → ℕ → (List Lexeme → Type 0) → List Lexeme → Type 0
InBraces limit depth P ts =
    (may_nest limit depth ≡ true)
    × Then (One (token.punctuator BraceOpen)) (Then P (One (token.punctuator BraceClose))) ts

abbrev mutual
  -- Selection: Field, FragmentSpread or InlineFragment, inside of so many sets
  pub SpellsSelection : Option ℕ → ℕ → Selection → List Lexeme → Type 0
  SpellsSelection limit depth (leaf h span) ts = SpellsFieldHead limit h ts × Covers span ts
  SpellsSelection limit depth (field h set span) ts =
      Then (SpellsFieldHead limit h) (InBraces limit depth (SpellsMore limit (suc depth) set)) ts × Covers span ts
  SpellsSelection limit depth (spread k ds span) ts = SpellsSpread limit k ds ts × Covers span ts
  SpellsSelection limit depth (inline h set span) ts =
      Then (SpellsInlineHead limit h) (InBraces limit depth (SpellsMore limit (suc depth) set)) ts × Covers span ts

  -- Selection+
  pub SpellsMore : Option ℕ → ℕ → Selections → List Lexeme → Type 0
  SpellsMore limit depth no_selections ts = ⊥
  SpellsMore limit depth (selection s no_selections) ts = SpellsSelection limit depth s ts
  SpellsMore limit depth (selection s (selection u us)) ts =
      Then (SpellsSelection limit depth s) (SpellsMore limit depth (selection u us)) ts

-- SelectionSet: `{` Selection+ `}`
abbrev pub SpellsSet : Option ℕ → ℕ → Selections → List Lexeme → Type 0
SpellsSet limit depth set = InBraces limit depth (SpellsMore limit (suc depth) set)

-- ---- what the code's selections stand for
abbrev pub Name : Type 0
Name = Spanning (Bor (List ℕ)) Span

abbrev pub GivenDirectives : Type 0
GivenDirectives = Option (Vec (Spanning (GivenDirective SourceScalar) Span) Global)

abbrev pub directives_seen : GivenDirectives → Option (List Directive)
directives_seen ds = option_map (λ v. map directive_seen v.items) ds

abbrev pub GivenArguments : Type 0
GivenArguments = Option (Spanning (Arguments SourceScalar) Span)

abbrev pub field_head : Option Name → Name → GivenArguments → GivenDirectives → FieldHead
field_head alias name arguments directives =
    record {
      alias = option_map name_seen alias;
      name = name_seen name;
      arguments = option_map parens_seen arguments;
      directives = directives_seen directives;
    }

abbrev pub inline_head : Option Name → GivenDirectives → InlineHead
inline_head condition directives =
    record { condition = option_map name_seen condition; directives = directives_seen directives }

abbrev pub selections_of : List Selection → Selections
selections_of [] = no_selections
selections_of (s ∷ ss) = selection s (selections_of ss)

-- a field or an inline fragment but for its span
abbrev pub Spanless : Type 0
Spanless = Span → Selection

abbrev pub selection_layer : opened.Selection-F SourceScalar Selection Spanless Spanless → Selection
selection_layer (opened.Field f) = f.item f.span
selection_layer (opened.FragmentSpread s) = spread (name_seen s.item.name) (directives_seen s.item.directives) s.span
selection_layer (opened.InlineFragment i) = i.item i.span

abbrev pub with_set : FieldHead → Option Selections → Spanless
with_set h None span = leaf h span
with_set h (Some set) span = field h set span

abbrev pub field_layer : opened.Field-F SourceScalar Selection Spanless Spanless → Spanless
field_layer f span =
    with_set (field_head f.alias f.name f.arguments f.directives)
    (option_map (λ set. selections_of set.items) f.selection_set) span

abbrev pub inline_layer : opened.InlineFragment-F SourceScalar Selection Spanless Spanless → Spanless
inline_layer i span = inline (inline_head i.type_condition i.directives) (selections_of i.selection_set.items) span

abbrev pub selection_seen : Node SourceScalar → Selection
selection_seen = fold-Selection SourceScalar Selection Spanless Spanless selection_layer field_layer inline_layer

abbrev pub nodes_seen : List (Node SourceScalar) → Selections
nodes_seen nodes = selections_of (map selection_seen nodes)
