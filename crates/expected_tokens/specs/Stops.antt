-- The first token with which no document goes on.
use Rattle.std.specs.Prelude.{◌≡◌, ◌↔◌, IsTrue, ℕ, List, [], ◌∷◌, ◌++◌, None}
use Rattle.expected_tokens.specs.declared.stops.Stop.{Stop}
use Rattle.graphql_lexer.specs.Lexemes.{Lexeme, AreLexemes, Reads, origin, position}
use Rattle.graphql_lexer.specs.Lexical.{end}
use Rattle.graphql_lexer.specs.declared.cursor.Cursor.{Cursor}
use Rattle.graphql_reader.specs.Documents.{Definition, SpellsDocument}
use Rattle.graphql_reader.specs.Faults.{GoesOn}
use Rattle.language_types.specs.Position.{index_of}

-- The text's tokens are `before`, x and more. With the tokens before x some document begins, and with x none. In no
-- document is the end of a text, so where the text is a document, x is its end.
pub record Stops (text : List ℕ) (before : List Lexeme) (x : Lexeme) : Type 0 where
  pub more : List Lexeme
  pub lexemes : AreLexemes text (before ++ x ∷ more)
  pub begun : GoesOn None before
  pub stuck : GoesOn None (before ++ x ∷ []) → ⊥

-- these are the tokens of a document
abbrev pub AreDocument : List Lexeme → Type 0
AreDocument ts = (ds : List Definition) × SpellsDocument None ds ts

-- what is said of that token
pub record StopsAt (text : List ℕ) (stop : Stop) : Type 0 where
  pub before : List Lexeme
  pub x : Lexeme
  pub stops : Stops text before x
  pub index : stop.index ≡ index_of x.start
  pub ended : IsTrue stop.is_end ↔ (x.token ≡ end)
  pub document : IsTrue stop.is_document ↔ ((x.token ≡ end) × AreDocument before)

-- The text begins so, with these tokens. Whatever follows on a line of its own begins at p.
pub record Begun (front : List ℕ) (before : List Lexeme) (p : Cursor) : Type 0 where
  pub goes_on : GoesOn None before
  pub reads : (tail : List ℕ) → Reads origin (front ++ 10 ∷ tail) before p (10 ∷ tail)

-- these are the bytes before that token
pub record IsFront (text front : List ℕ) : Type 0 where
  pub before : List Lexeme
  pub x : Lexeme
  pub place : Cursor
  pub stops : Stops text before x
  pub there : position place ≡ x.start
  pub begun : Begun front before place
