-- The first token with which no value goes on, and the place in it that the error tells.
use Rattle.std.specs.Prelude.{◌≡◌, ◌⊎◌, ◌+◌, ◌-◌, ◌^◌, ℕ, min, List, [], ◌∷◌, ◌++◌}
use denote.Ref.{Bor}
use Rattle.language_types.specs.declared.position.SourcePosition.{SourcePosition}
use Rattle.graphql_strings.specs.StringFaults.{IsFaultPlace}
use Rattle.graphql_strings.specs.declared.strings.StringError.{StringError}
use Rattle.graphql_strings.specs.declared.strings.StringError.TheVariants.{Escape}
use Rattle.graphql_strings.specs.declared.strings.StringError.TheVariants as s
use Rattle.graphql_lexer.specs.Lexemes.{Lexeme}
use Rattle.graphql_lexer.specs.Lexical as token
use Rattle.graphql_lexer.specs.declared.error.ReadError.{ReadError}
use Rattle.graphql_lexer.specs.declared.error.ReadError.TheVariants.{Syntax, OutOfMemory}
use Rattle.value_reader.specs.Grammar.{Rules, lexeme, IsTextOf, Begins, GoesOn}
use Rattle.value_reader.specs.Values.{Value}

-- at most what a `usize` holds, which no place in a text passes
abbrev pub capped : ℕ → ℕ
capped n = min n (2 ^ 64 - 1)

-- the place behind the opening quote and n bytes of a string, which has no line terminators
abbrev pub inside_string : SourcePosition → ℕ → SourcePosition
inside_string start n =
    record { index = capped (start.index + capped (n + 1)); line = start.line; column = capped (start.column + capped (n + 1)) }

-- the place is that of a fault between the quotes of a string that starts there
abbrev pub IsInString : List ℕ → SourcePosition → SourcePosition → Type 0
IsInString raw start place = (n : ℕ) × (expected : Bor (List ℕ)) × IsFaultPlace raw (Escape n expected) × (place ≡ inside_string start n)

-- The place that the error tells of a token: where it starts. Where a string may stand it is inside of one that stands
-- for no text. Where no token begins, the lexer says.
abbrev pub IsPlaceOf : Type 0 → token.Token → SourcePosition → SourcePosition → Type 0
IsPlaceOf StringFits (token.punctuator p) start place = place ≡ start
IsPlaceOf StringFits (token.name s) start place = place ≡ start
IsPlaceOf StringFits (token.int s) start place = place ≡ start
IsPlaceOf StringFits (token.float s) start place = place ≡ start
IsPlaceOf StringFits (token.string raw) start place = (StringFits → IsInString raw start place) × ((StringFits → ⊥) → place ≡ start)
IsPlaceOf StringFits (token.block_string raw) start place = place ≡ start
IsPlaceOf StringFits token.end start place = place ≡ start
IsPlaceOf StringFits token.fault start place = Unit {0}

-- the same of a token of which it is not said whether a string may stand there
abbrev pub IsTokenPlace : token.Token → SourcePosition → SourcePosition → Type 0
IsTokenPlace (token.punctuator p) start place = place ≡ start
IsTokenPlace (token.name s) start place = place ≡ start
IsTokenPlace (token.int s) start place = place ≡ start
IsTokenPlace (token.float s) start place = place ≡ start
IsTokenPlace (token.string raw) start place = (place ≡ start) ⊎ IsInString raw start place
IsTokenPlace (token.block_string raw) start place = place ≡ start
IsTokenPlace token.end start place = place ≡ start
IsTokenPlace token.fault start place = Unit {0}

abbrev pub IsPlaced : Lexeme → ReadError → Type 0
IsPlaced x (Syntax e) = IsTokenPlace x.token x.start e.position
IsPlaced x OutOfMemory = Unit {0}

-- what an error of the string tells, which starts there
abbrev pub IsStringRefusal : SourcePosition → StringError → ReadError → Type 0
IsStringRefusal start (Escape n expected) (Syntax e) = e.position ≡ inside_string start n
IsStringRefusal start (Escape n expected) OutOfMemory = ⊥
IsStringRefusal start s.OutOfMemory (Syntax e) = ⊥
IsStringRefusal start s.OutOfMemory OutOfMemory = Unit {0}

-- the token stands for no text, and the error tells the place
abbrev pub IsTextRefusal : Lexeme → ReadError → Type 0
IsTextRefusal x (Syntax e) = ((text : List ℕ) → IsTextOf x.token text → ⊥) × IsPlaceOf (Unit {0}) x.token x.start e.position
IsTextRefusal x OutOfMemory = Unit {0}

-- `before` begins some value, and with the next token, x, it begins none. There is such a token: the last one is in no
-- value.
abbrev pub IsFaultAt : Rules → List Lexeme → Lexeme → SourcePosition → Type 0
IsFaultAt rules before x place =
    GoesOn rules before × (GoesOn rules (before ++ x ∷ []) → ⊥)
    × IsPlaceOf (GoesOn rules (before ++ lexeme (token.string []) x.start x.stop ∷ [])) x.token x.start place

-- No first tokens of ts are those of a value. What is left begins with the first token at fault, and the error tells
-- its place.
abbrev pub IsFirstFault : Rules → List Lexeme → List Lexeme → ReadError → Type 0
IsFirstFault rules ts left (Syntax e) =
    (before : List Lexeme) × (x : Lexeme) × (more : List Lexeme) × (left ≡ x ∷ more) × (ts ≡ before ++ x ∷ more)
    × IsFaultAt rules before x e.position
IsFirstFault rules ts left OutOfMemory = Unit {0}

abbrev pub IsNone : Rules → List Lexeme → ReadError → Type 0
IsNone rules ts (Syntax e) = (v : Value) (rest : List Lexeme) → Begins rules ts v rest → ⊥
IsNone rules ts OutOfMemory = Unit {0}
