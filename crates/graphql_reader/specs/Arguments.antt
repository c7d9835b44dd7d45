-- The tokens that arguments and directives are written with (GraphQL, October 2021, sections 2.6 and 2.12).
use Rattle.std.specs.Prelude.{◌≡◌, ℕ, List, [], ◌∷◌, ◌++◌, map, Option, Some, None, option_map, Vec}
use denote.Ref.{Bor}
use Rattle.std.specs.declared.alloc.Global.{Global}
use Rattle.language_types.specs.declared.position.SourcePosition.{SourcePosition}
use Rattle.language_types.specs.declared.position.Span.{Span}
use Rattle.language_types.specs.declared.position.Spanning.{Spanning}
use Rattle.language.specs.declared.tree.Arguments.{Arguments}
use Rattle.language.specs.declared.tree.Directive.{Directive as GivenDirective}
use Rattle.language_values.specs.declared.value.InputValue.{InputValue}
use Rattle.sdl_scalars.specs.declared.scalar.SourceScalar.{SourceScalar}
use Rattle.graphql_lexer.specs.Ahead.{ahead_of, left, last_end_of, IsLeft}
use Rattle.graphql_lexer.specs.Lexemes.{Lexeme}
use Rattle.graphql_lexer.specs.Lexical as token
use Rattle.graphql_lexer.specs.declared.error.ReadError.{ReadError}
use Rattle.graphql_lexer.specs.declared.error.ReadError.TheVariants.{Syntax, OutOfMemory}
use Rattle.graphql_lexer.specs.declared.lexer.Punctuator.TheVariants.{At, Colon, ParenOpen, ParenClose}
use Rattle.graphql_lexer.specs.declared.tokens.Tokens.{Tokens}
use Rattle.value_reader.specs.Grammar.{Rules, lexeme, sign, Spells}
use Rattle.value_reader.specs.Seen.{value_seen}
use Rattle.value_reader.specs.Values.{Key, Value}
use Rattle.graphql_reader.specs.Passed.{Reads}

pub record Argument : Type 0 where
  pub name : Key
  pub value : Value

-- a name, from its start to its end
abbrev pub key_sign : Key → Lexeme
key_sign k = lexeme (token.name k.name) k.span.start k.span.end

-- Argument[Const]: Name `:` Value[Const]
abbrev pub SpellsArgument : Rules → Argument → List Lexeme → Type 0
SpellsArgument rules a ts =
    (p : SourcePosition) × (q : SourcePosition) × (more : List Lexeme)
    × (ts ≡ key_sign a.name ∷ sign Colon p q ∷ more) × Spells rules 0 a.value more

-- one after the other, each by S
abbrev pub SpellsEach : {T : Type 0} → (T → List Lexeme → Type 0) → List T → List Lexeme → Type 0
SpellsEach S [] ts = ts ≡ []
SpellsEach S (x ∷ xs) ts = (one : List Lexeme) × (more : List Lexeme) × (ts ≡ one ++ more) × S x one × SpellsEach S xs more

-- Arguments[Const]: `(` Argument[Const]+ `)`
abbrev pub SpellsArguments : Rules → List Argument → Span → List Lexeme → Type 0
SpellsArguments rules given span ts =
    (given ≡ [] → ⊥) × (inner : List Lexeme) × (a : SourcePosition) × (b : SourcePosition)
    × (ts ≡ sign ParenOpen span.start a ∷ (inner ++ sign ParenClose b span.end ∷ [])) × SpellsEach (SpellsArgument rules) given inner

-- the first tokens are those of this argument, or of these, and the rest stands behind them
abbrev pub BeginsArgument : Rules → List Lexeme → Argument → List Lexeme → Type 0
BeginsArgument rules ts a rest = (front : List Lexeme) × (ts ≡ front ++ rest) × SpellsArgument rules a front

abbrev pub BeginsArguments : Rules → List Lexeme → List Argument → Span → List Lexeme → Type 0
BeginsArguments rules ts given span rest = (front : List Lexeme) × (ts ≡ front ++ rest) × SpellsArguments rules given span front

-- arguments, from the parenthesis on that begins them to the one that ends them
pub record Parens : Type 0 where
  pub given : List Argument
  pub span : Span

pub record Directive : Type 0 where
  pub name : Key
  pub arguments : Option Parens
  pub span : Span

-- what may follow the name of a directive, which ends there or with it
abbrev pub SpellsParens : Rules → Option Parens → SourcePosition → SourcePosition → List Lexeme → Type 0
SpellsParens rules None name_end stop ts = (ts ≡ []) × (stop ≡ name_end)
SpellsParens rules (Some p) name_end stop ts = SpellsArguments rules p.given p.span ts × (stop ≡ p.span.end)

-- Directive[Const]: `@` Name Arguments[Const]?
abbrev pub SpellsDirective : Rules → Directive → List Lexeme → Type 0
SpellsDirective rules d ts =
    (a : SourcePosition) × (more : List Lexeme) × (ts ≡ sign At d.span.start a ∷ key_sign d.name ∷ more)
    × SpellsParens rules d.arguments d.name.span.end d.span.end more

-- Directives[Const]: Directive[Const]+
abbrev pub SpellsDirectives : Rules → List Directive → List Lexeme → Type 0
SpellsDirectives rules ds ts = (ds ≡ [] → ⊥) × SpellsEach (SpellsDirective rules) ds ts

-- some argument begins with these tokens
abbrev pub GoesOnArgument : Rules → List Lexeme → Type 0
GoesOnArgument rules ts = (a : Argument) × (more : List Lexeme) × SpellsArgument rules a (ts ++ more)

-- No first tokens of ts are those of an argument. What is left begins with the first token with which none goes on.
abbrev pub IsArgumentFault : Rules → List Lexeme → List Lexeme → ReadError → Type 0
IsArgumentFault rules ts left (Syntax e) =
    (before : List Lexeme) × (x : Lexeme) × (more : List Lexeme) × (left ≡ x ∷ more) × (ts ≡ before ++ x ∷ more)
    × GoesOnArgument rules before × (GoesOnArgument rules (before ++ x ∷ []) → ⊥)
IsArgumentFault rules ts left OutOfMemory = Unit {0}

-- ---- what the code's arguments stand for
abbrev pub Given : Type 0
Given = Spanning (Bor (List ℕ)) Span × Spanning (InputValue SourceScalar) Span

abbrev pub name_seen : Spanning (Bor (List ℕ)) Span → Key
name_seen n = record { name = n.item.now; span = n.span }

abbrev pub argument_seen : Given → Argument
argument_seen a = record { name = name_seen a.0; value = value_seen a.1 }

abbrev pub parens_seen : Spanning (Arguments SourceScalar) Span → Parens
parens_seen p = record { given = map argument_seen p.item.items.items; span = p.span }

abbrev pub directive_seen : Spanning (GivenDirective SourceScalar) Span → Directive
directive_seen d = record { name = name_seen d.item.name; arguments = option_map parens_seen d.item.arguments; span = d.span }

-- the arguments are those that the tokens begin with, or none where no parenthesis does
abbrev pub IsArguments : Rules → Tokens → Tokens → Option (Spanning (Arguments SourceScalar) Span) → Type 0
IsArguments rules old new None = IsLeft (token.punctuator ParenOpen) old new
IsArguments rules old new (Some given) =
    BeginsArguments rules (left old) (map argument_seen given.item.items.items) given.span (left new) × (given.span.end ≡ last_end_of new)

-- the directives are all that the tokens begin with, or none where no `@` does
abbrev pub IsDirectives : Rules → Tokens → Tokens → Option (Vec (Spanning (GivenDirective SourceScalar) Span) Global) → Type 0
IsDirectives rules old new None = IsLeft (token.punctuator At) old new
IsDirectives rules old new (Some ds) =
    Reads (SpellsDirectives rules (map directive_seen ds.items)) old new
    × ((ahead_of new).token ≡ token.punctuator At → ⊥)
