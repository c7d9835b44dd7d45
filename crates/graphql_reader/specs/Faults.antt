-- What an error says of a text.
use Rattle.std.specs.Prelude.{ℕ, List, [], ◌∷◌, ◌++◌, Option, None}
use Rattle.graphql_lexer.specs.Lexemes.{Lexeme, AreLexemes}
use Rattle.graphql_lexer.specs.declared.error.ReadError.{ReadError}
use Rattle.graphql_lexer.specs.declared.error.ReadError.TheVariants.{Syntax, OutOfMemory}
use Rattle.value_reader.specs.Faults.{IsPlaced}
use Rattle.graphql_reader.specs.Documents.{Definition, IsDocument, SpellsDocument}

-- the text is no document
abbrev pub IsNoDocument : Option ℕ → List ℕ → ReadError → Type 0
IsNoDocument limit text (Syntax e) = (ds : List Definition) → IsDocument limit text ds → ⊥
IsNoDocument limit text OutOfMemory = Unit {0}

-- some document begins with these tokens
abbrev pub GoesOn : Option ℕ → List Lexeme → Type 0
GoesOn limit ts = (ds : List Definition) × (more : List Lexeme) × SpellsDocument limit ds (ts ++ more)

-- The text's tokens are `before`, x and more. With the tokens before x some document begins, and with x none. That some
-- document begins so is said without a limit: within one `{ ... on T` has no completion where its set would be a level
-- too many, and the token at fault is the brace that begins that set.
abbrev pub IsDocumentFault : Option ℕ → List ℕ → ReadError → Type 0
IsDocumentFault limit text (Syntax e) =
    (before : List Lexeme) × (x : Lexeme) × (more : List Lexeme) × AreLexemes text (before ++ x ∷ more)
    × GoesOn None before × (GoesOn limit (before ++ x ∷ []) → ⊥) × IsPlaced x (Syntax e)
IsDocumentFault limit text OutOfMemory = Unit {0}
