-- The tokens of a text, each with its place.
use Rattle.std.specs.Prelude.{◌≡◌, ℕ, Bool, true, false, List, [], ◌∷◌, ◌++◌, take, drop}
use Rattle.language_types.specs.declared.position.SourcePosition.{SourcePosition}
use Rattle.graphql_lexer.specs.Lexical.{Token, punctuator, name, int, float, string, block_string, end, fault, IsToken}
use Rattle.graphql_lexer.specs.Lexical.{IsIgnored}
use Rattle.graphql_lexer.specs.Places.{after_all}
use Rattle.graphql_lexer.specs.declared.cursor.Cursor.{Cursor}

-- a token, from its first place to the one after its last
pub record Lexeme : Type 0 where
  pub token : Token
  pub start : SourcePosition
  pub stop : SourcePosition

-- nothing follows the end of the text, and nothing is read behind a fault
abbrev pub is_last : Token → Bool
is_last (punctuator p) = false
is_last (name s) = false
is_last (int s) = false
is_last (float s) = false
is_last (string s) = false
is_last (block_string s) = false
is_last end = true
is_last fault = true

-- r is a token at the front of the text, and its length; or it is a fault, or the end where nothing is left
abbrev pub IsFront : List ℕ → Token × ℕ → Type 0
IsFront text r =
    (is_last r.0 ≡ false → IsToken r.0 (take r.1 text) (drop r.1 text))
    × (is_last r.0 ≡ true → r.1 ≡ 0) × (r.0 ≡ end → text ≡ [])

abbrev pub position : Cursor → SourcePosition
position p = record { index = p.index; line = p.line; column = p.column }

-- the start of a text
abbrev pub origin : Cursor
origin = record { index = 0; line = 0; column = 0; after_return = false }

-- From p on the text begins with these tokens, with ignored tokens between them. After them q is reached, and the rest
-- of the text is left.
pub data Reads : Cursor → List ℕ → List Lexeme → Cursor → List ℕ → Type 0 where
  nothing : (p : Cursor) (text : List ℕ) → Reads p text [] p text
  ignored : (p q : Cursor) (s more rest : List ℕ) (xs : List Lexeme) → IsIgnored s more
      → Reads (after_all p s) more xs q rest → Reads p (s ++ more) xs q rest
  token : (p q : Cursor) (t : Token) (s more rest : List ℕ) (xs : List Lexeme) → IsToken t s more
      → Reads (after_all p s) more xs q rest → Reads p (s ++ more)
      (record { token = t; start = position p; stop = position (after_all p s) } ∷ xs) q rest

-- no token begins the text, nor an ignored one, whatever follows
abbrev pub Stuck : List ℕ → Type 0
Stuck text = (s more : List ℕ) → text ≡ s ++ more → (IsIgnored s more → ⊥) × ((t : Token) → IsToken t s more → ⊥)

-- What follows the last token, where this text is left: the end, or a fault, where no token begins.
abbrev pub Ends : Token → List ℕ → Type 0
Ends (punctuator p) rest = ⊥
Ends (name s) rest = ⊥
Ends (int s) rest = ⊥
Ends (float s) rest = ⊥
Ends (string s) rest = ⊥
Ends (block_string s) rest = ⊥
Ends end rest = rest ≡ []
Ends fault rest = (rest ≡ [] → ⊥) × Stuck rest

abbrev pub last_at : Token → Cursor → Lexeme
last_at t q = record { token = t; start = position q; stop = position q }

-- the lexemes of a text: its tokens up to the end or the first fault, and that as the last
abbrev pub AreLexemes : List ℕ → List Lexeme → Type 0
AreLexemes text lexemes =
    (xs : List Lexeme) × (t : Token) × (q : Cursor) × (rest : List ℕ)
    × (lexemes ≡ xs ++ (last_at t q ∷ [])) × Reads origin text xs q rest × Ends t rest
