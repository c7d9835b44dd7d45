-- What the calls tell of a text.
use Rattle.std.specs.Prelude.{◌≡◌, ◌↔◌, ◌⊎◌, IsTrue, ℕ, Bool, List, [], ◌∷◌, ◌++◌, None}
use Rattle.std.specs.List.{Contains}
use Rattle.expected_tokens.specs.Samples.{listed, sample, token_of}
use Rattle.expected_tokens.specs.Stops.{AreDocument, Begun, Stops}
use Rattle.expected_tokens.specs.declared.expected.Expected.{Expected}
use Rattle.graphql_lexer.specs.Lexemes.{Lexeme, Ends, Reads, last_at, position}
use Rattle.graphql_lexer.specs.Lexical.{end, fault}
use Rattle.graphql_lexer.specs.Places.{after_all}
use Rattle.graphql_lexer.specs.declared.cursor.Cursor.{Cursor}
use Rattle.graphql_reader.specs.Faults.{GoesOn}

-- the start of the next line
abbrev pub next_line : Cursor → Cursor
next_line p = after_all p (10 ∷ [])

-- the tokens of a text that begins at p, up to its end
abbrev pub AreAll : Cursor → List ℕ → List Lexeme → Type 0
AreAll p text ts = (q : Cursor) × Reads p text ts q []

-- those up to a place where no token begins, with that fault as the last
abbrev pub AreFaulty : Cursor → List ℕ → List Lexeme → Type 0
AreFaulty p text ts =
    (own : List Lexeme) × (q : Cursor) × (rest : List ℕ)
    × Reads p text own q rest × Ends fault rest × (ts ≡ own ++ last_at fault q ∷ [])

-- The answer is yes if and only if some document begins with the tokens before x and then with those of `next`, where
-- `next` stands on the line behind. A fault in `next` is in no document.
pub record IsAnswer (text next : List ℕ) (answer : Bool) : Type 0 where
  pub before : List Lexeme
  pub x : Lexeme
  pub stops : Stops text before x
  pub place : Cursor
  pub there : position place ≡ x.start
  pub ts : List Lexeme
  pub are : AreAll (next_line place) next ts ⊎ AreFaulty (next_line place) next ts
  pub exact : IsTrue answer ↔ GoesOn None (before ++ ts)

-- what is expected, where it stands on the line behind p
abbrev pub placed : Cursor → Expected → Lexeme
placed p k =
    record { token = token_of k; start = position (next_line p); stop = position (after_all (next_line p) (sample k)) }

-- This may stand behind these tokens: some document begins so, or it is the end, and they are a document.
abbrev pub MayFollow : List Lexeme → Lexeme → Type 0
MayFollow before x = GoesOn None (before ++ x ∷ []) ⊎ ((x.token ≡ end) × AreDocument before)

-- the answer is yes if and only if it may
abbrev pub TellsExpected : List ℕ → Expected → Bool → Type 0
TellsExpected front k answer =
    (before : List Lexeme) (p : Cursor) → Begun front before p → (IsTrue answer ↔ MayFollow before (placed p k))

-- some of these, in their order
pub data Chosen : List Expected → List Expected → Type 0 where
  nothing : Chosen [] []
  taken : {all found : List Expected} (k : Expected) → Chosen all found → Chosen (k ∷ all) (k ∷ found)
  passed : {all found : List Expected} (k : Expected) → Chosen all found → Chosen (k ∷ all) found

-- all that may stand behind the tokens before x, and nothing else, in the order in which it is listed
pub record AreExpected (text : List ℕ) (found : List Expected) : Type 0 where
  pub before : List Lexeme
  pub x : Lexeme
  pub stops : Stops text before x
  pub place : Cursor
  pub there : position place ≡ x.start
  pub exact : (k : Expected) → (Contains found k ↔ MayFollow before (placed place k))
  pub order : Chosen listed found
