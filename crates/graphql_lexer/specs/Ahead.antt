-- What is left of a text, from the token ahead on.
use Rattle.std.specs.Prelude.{◌≡◌, ◌≢◌, if◌then◌else◌, List, [], ◌∷◌}
use Rattle.language_types.specs.declared.position.SourcePosition.{SourcePosition}
use Rattle.language_types.specs.declared.position.Span.{Span}
use Rattle.graphql_lexer.specs.Lexical.{Token}
use Rattle.graphql_lexer.specs.Lexemes.{Lexeme, is_last, position}
use Rattle.graphql_lexer.specs.Scan.{tokens_from}
use Rattle.graphql_lexer.specs.Seen.{seen}
use Rattle.graphql_lexer.specs.declared.error.ReadError.{ReadError}
use Rattle.graphql_lexer.specs.declared.error.ReadError.TheVariants.{Syntax, OutOfMemory}
use Rattle.graphql_lexer.specs.declared.tokens.Tokens.{Tokens}

-- the token ahead
abbrev pub ahead_of : Tokens → Lexeme
ahead_of t = record { token = seen t.scanned.token; start = position t.scanned.start; stop = position t.scanned.stop }

-- the tokens behind it
abbrev pub behind : Tokens → List Lexeme
behind t = if is_last (seen t.scanned.token) then [] else tokens_from t.scanned.stop t.scanned.rest.now

-- all that are left
abbrev pub left : Tokens → List Lexeme
left t = ahead_of t ∷ behind t

-- where the token ends that was taken last
abbrev pub last_end_of : Tokens → SourcePosition
last_end_of t = t.last_end

-- the next token was t, and is taken
abbrev pub IsTaken : Token → Tokens → Tokens → Type 0
IsTaken t old new = ((ahead_of old).token ≡ t) × (left new ≡ behind old) × (last_end_of new ≡ (ahead_of old).stop)

-- the next token is another than t, and is left
abbrev pub IsLeft : Token → Tokens → Tokens → Type 0
IsLeft t old new = ((ahead_of old).token ≢ t) × (new ≡ old)

abbrev pub IsSpanOf : Lexeme → Span → Type 0
IsSpanOf x span = (span.start ≡ x.start) × (span.end ≡ x.stop)

-- a syntax error at this position
abbrev pub IsFaultAt : SourcePosition → ReadError → Type 0
IsFaultAt place (Syntax e) = e.position ≡ place
IsFaultAt place OutOfMemory = ⊥
