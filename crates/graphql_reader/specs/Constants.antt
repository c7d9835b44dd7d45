-- A text that is one constant.
use Rattle.std.specs.Prelude.{◌≡◌, ◌⊎◌, ℕ, false, List, [], ◌∷◌, None}
use Rattle.graphql_lexer.specs.Lexemes.{Lexeme, AreLexemes}
use Rattle.graphql_lexer.specs.Lexical as token
use Rattle.graphql_lexer.specs.declared.error.ReadError.{ReadError}
use Rattle.graphql_lexer.specs.declared.error.ReadError.TheVariants.{Syntax, OutOfMemory}
use Rattle.value_reader.specs.Faults.{IsFirstFault}
use Rattle.value_reader.specs.Grammar.{Rules, Begins}
use Rattle.value_reader.specs.Values.{Value}

-- no variables, and any depth
abbrev pub constant : Rules
constant = record { variables = false; limit = None }

-- the tokens of the text are those of the value, and then the text ends
abbrev pub IsConstant : List ℕ → Value → Type 0
IsConstant text v =
    (lexemes : List Lexeme) × (last : Lexeme) × AreLexemes text lexemes × (last.token ≡ token.end) × Begins constant lexemes v (last ∷ [])

abbrev pub IsNoConstant : List ℕ → ReadError → Type 0
IsNoConstant text (Syntax e) = (v : Value) → IsConstant text v → ⊥
IsNoConstant text OutOfMemory = Unit {0}

-- the first token with which no constant goes on, or one behind a constant
abbrev pub IsConstantFault : List ℕ → ReadError → Type 0
IsConstantFault text (Syntax e) =
    (lexemes : List Lexeme) × AreLexemes text lexemes
    × (((rest : List Lexeme) × IsFirstFault constant lexemes rest (Syntax e))
    ⊎ ((v : Value) × (x : Lexeme) × (more : List Lexeme) × Begins constant lexemes v (x ∷ more) × (x.token ≡ token.end → ⊥)
    × ((x.token ≡ token.fault → ⊥) → e.position ≡ x.start)))
IsConstantFault text OutOfMemory = Unit {0}
