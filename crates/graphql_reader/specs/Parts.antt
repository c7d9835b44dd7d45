-- A default value (GraphQL, October 2021, section 2.10), and a description (section 3.3).
use Rattle.std.specs.Prelude.{◌≡◌, ℕ, List, ◌∷◌, Option, Some, None, String, string_bytes}
use Rattle.std.specs.declared.alloc.Global.{Global}
use Rattle.language_types.specs.declared.position.SourcePosition.{SourcePosition}
use Rattle.language_types.specs.declared.position.Span.{Span}
use Rattle.language_types.specs.declared.position.Spanning.{Spanning}
use Rattle.language_values.specs.declared.value.InputValue.{InputValue}
use Rattle.sdl_scalars.specs.declared.scalar.SourceScalar.{SourceScalar}
use Rattle.graphql_lexer.specs.Ahead.{ahead_of, behind, left, IsLeft, IsSpanOf}
use Rattle.graphql_lexer.specs.Lexemes.{Lexeme}
use Rattle.graphql_lexer.specs.Lexical as token
use Rattle.graphql_lexer.specs.declared.error.ReadError.{ReadError}
use Rattle.graphql_lexer.specs.declared.error.ReadError.TheVariants.{Syntax, OutOfMemory}
use Rattle.graphql_lexer.specs.declared.lexer.Punctuator.TheVariants.{Equals}
use Rattle.graphql_lexer.specs.declared.tokens.Tokens.{Tokens}
use Rattle.value_reader.specs.Faults.{IsFirstFault}
use Rattle.value_reader.specs.Grammar.{Rules, sign, Begins, IsTextOf}
use Rattle.value_reader.specs.Seen.{value_seen}
use Rattle.value_reader.specs.Values.{Value}

-- DefaultValue: `=` Value[Const]. The first tokens are those of one, and the rest stands behind them.
abbrev pub BeginsDefault : Rules → List Lexeme → Value → List Lexeme → Type 0
BeginsDefault rules ts v rest =
    (a : SourcePosition) × (b : SourcePosition) × (more : List Lexeme) × (ts ≡ sign Equals a b ∷ more) × Begins rules more v rest

-- the first token of its value with which no value goes on, and its place
abbrev pub IsDefaultFault : Rules → List Lexeme → List Lexeme → ReadError → Type 0
IsDefaultFault rules ts left (Syntax e) =
    (a : SourcePosition) × (b : SourcePosition) × (more : List Lexeme) × (ts ≡ sign Equals a b ∷ more)
    × IsFirstFault rules more left (Syntax e)
IsDefaultFault rules ts left OutOfMemory = Unit {0}

-- it is the only one that the tokens begin with, or none where no `=` comes next
abbrev pub IsDefault : Rules → Tokens → Tokens → Option (Spanning (InputValue SourceScalar) Span) → Type 0
IsDefault rules old new None = IsLeft (token.punctuator Equals) old new
IsDefault rules old new (Some v) =
    BeginsDefault rules (left old) (value_seen v) (left new)
    × ((w : Value) (rest : List Lexeme) → BeginsDefault rules (left old) w rest → (w ≡ value_seen v) × (rest ≡ left new))

-- the next token stands for this text, and for no other, and is taken; or for none, where no description is there
abbrev pub IsDescription : Tokens → Tokens → Option (Spanning (String Global) Span) → Type 0
IsDescription old new None = ((text : List ℕ) → IsTextOf (ahead_of old).token text → ⊥) × (new ≡ old)
IsDescription old new (Some d) =
    IsTextOf (ahead_of old).token (string_bytes d.item)
    × ((text : List ℕ) → IsTextOf (ahead_of old).token text → text ≡ string_bytes d.item)
    × IsSpanOf (ahead_of old) d.span × (left new ≡ behind old)
