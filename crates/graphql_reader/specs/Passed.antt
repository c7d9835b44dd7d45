-- The tokens that were taken from one moment of reading to another, and how productions are put together.
use Rattle.std.specs.Prelude.{◌≡◌, List, [], ◌∷◌, ◌++◌, Option, Some, None}
use Rattle.language_types.specs.declared.position.SourcePosition.{SourcePosition}
use Rattle.language_types.specs.declared.position.Span.{Span}
use Rattle.graphql_lexer.specs.Ahead.{left, last_end_of}
use Rattle.graphql_lexer.specs.Lexemes.{Lexeme}
use Rattle.graphql_lexer.specs.Lexical as token
use Rattle.graphql_lexer.specs.declared.tokens.Tokens.{Tokens}
use Rattle.value_reader.specs.Grammar.{lexeme}

-- where the last of these tokens ends, or a place before them, where there is none
abbrev pub end_after : SourcePosition → List Lexeme → SourcePosition
end_after place [] = place
end_after place (x ∷ xs) = end_after x.stop xs

-- these tokens came next, and were taken
abbrev pub Took : Tokens → List Lexeme → Tokens → Type 0
Took old ts new = (left old ≡ ts ++ left new) × (last_end_of new ≡ end_after (last_end_of old) ts)

-- what came next and was taken is written so
abbrev pub Reads : (List Lexeme → Type 0) → Tokens → Tokens → Type 0
Reads P old new = (ts : List Lexeme) × Took old ts new × P ts

-- the first tokens are written so, and the rest stands behind them
abbrev pub BeginsWith : (List Lexeme → Type 0) → List Lexeme → List Lexeme → Type 0
BeginsWith P ts rest = (front : List Lexeme) × (ts ≡ front ++ rest) × P front

-- from where the first of the tokens starts to where the last one ends
abbrev pub Covers : Span → List Lexeme → Type 0
Covers span ts =
    (x : Lexeme) × (xs : List Lexeme) × (ts ≡ x ∷ xs) × (span.start ≡ x.start) × (span.end ≡ end_after x.stop xs)

-- this token alone, wherever it stands
abbrev pub One : token.Token → List Lexeme → Type 0
One t ts = (a : SourcePosition) × (b : SourcePosition) × (ts ≡ lexeme t a b ∷ [])

-- the one, and the other behind it
abbrev pub Then : (List Lexeme → Type 0) → (List Lexeme → Type 0) → List Lexeme → Type 0
Then P Q ts = (a : List Lexeme) × (b : List Lexeme) × (ts ≡ a ++ b) × P a × Q b

-- S, or nothing
abbrev pub Optional : {T : Type 0} → (T → List Lexeme → Type 0) → Option T → List Lexeme → Type 0
Optional S None ts = ts ≡ []
Optional S (Some x) ts = S x ts
