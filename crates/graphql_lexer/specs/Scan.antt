-- What the scanner makes of a text: its tokens with their places, up to the end or the first fault.
use Rattle.std.specs.Prelude.{◌≡◌, ◌<◌, ◌+◌, ℕ, zero, suc, Bool, true, false, if◌then◌else◌, List, [], ◌∷◌, length}
use Rattle.std.specs.Prelude.{take, drop, Option, Some, None}
use Rattle.graphql_lexer.specs.Lexical.{Token, punctuator, name, int, float, string, block_string, end, fault}
use Rattle.graphql_lexer.specs.Lexemes.{Lexeme, is_last, position, origin}
use Rattle.graphql_lexer.specs.Places.{after_all, Counts}
use Rattle.graphql_lexer.specs.Scanning.{token_at, ignored_length}
use Rattle.graphql_lexer.specs.declared.cursor.Cursor.{Cursor}

-- how many bytes stand before the token
unfoldable pub gap : List ℕ → ℕ
gap text = ignored_length text

-- the text from the token on
abbrev pub ahead : List ℕ → List ℕ
ahead text = drop (gap text) text

abbrev pub start_at : Cursor → List ℕ → Cursor
start_at p text = after_all p (take (gap text) text)

-- an ignored token begins the text at p, and behind it q is reached and `more` is left
pub record Passes (p : Cursor) (text : List ℕ) (q : Cursor) (more : List ℕ) : Type 0 where
  pub same_start : start_at q more ≡ start_at p text
  pub same_ahead : ahead more ≡ ahead text
  pub index : q.index + length more ≡ p.index + length text
  pub less : length more < length text
  pub counts : Counts q

-- so it is, or no ignored token begins the text, and nothing is passed
abbrev pub IsPast : Cursor → List ℕ → Cursor → Option (List ℕ) → Type 0
IsPast p text q (Some more) = Passes p text q more
IsPast p text q None = (gap text ≡ 0) × (q ≡ p)

abbrev pub stop_at : Cursor → List ℕ → Cursor
stop_at p text = after_all (start_at p text) (take ((token_at (ahead text)).1) (ahead text))

-- only a block string may hold a LineTerminator
abbrev pub is_inline : Token → Bool
is_inline (punctuator p) = true
is_inline (name s) = true
is_inline (int s) = true
is_inline (float s) = true
is_inline (string s) = true
is_inline (block_string s) = false
is_inline end = true
is_inline fault = true

-- the text after the token
abbrev pub rest_at : List ℕ → List ℕ
rest_at text = drop ((token_at (ahead text)).1) (ahead text)

-- the first token of a text that begins at p
abbrev pub lexeme_at : Cursor → List ℕ → Lexeme
lexeme_at p text = record { token = (token_at (ahead text)).0; start = position (start_at p text); stop = position (stop_at p text) }

-- The tokens of a text that begins at p, up to its end or the first fault. The number bounds how many are read.
unfoldable pub lexemes : ℕ → Cursor → List ℕ → List Lexeme
lexemes zero p text = []
lexemes (suc n) p text = lexeme_at p text ∷ (if is_last ((token_at (ahead text)).0) then [] else lexemes n (stop_at p text) (rest_at text))

-- there are fewer tokens than that
abbrev pub tokens_from : Cursor → List ℕ → List Lexeme
tokens_from p text = lexemes (suc (length text)) p text

abbrev pub tokens : List ℕ → List Lexeme
tokens text = tokens_from origin text
