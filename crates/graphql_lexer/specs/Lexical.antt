-- Tokens and ignored tokens, production by production (GraphQL, October 2021, appendix B.1), over the bytes of UTF-8.
-- Each is a relation on the bytes of the token and on what follows it, which the restrictions on lookahead speak of.
use Rattle.std.specs.Prelude.{◌≡◌, ◌<◌, ◌⊎◌, ℕ, Bool, true, false, ◌&&◌, ◌||◌, ◌==◌, nat_le, List, [], ◌∷◌}
use Rattle.std.specs.Prelude.{◌++◌, length}
use Rattle.std.specs.List.{list_all}
use Rattle.std.specs.Str.{IsUtf8}
use Rattle.graphql_strings.specs.Characters.{at, begins, is_line_end, three_quotes, escaped_quotes}
use Rattle.graphql_lexer.specs.declared.lexer.Punctuator.{Punctuator}
use Rattle.graphql_lexer.specs.declared.lexer.Punctuator.TheVariants.{Bang, Dollar, Ampersand, ParenOpen, ParenClose}
use Rattle.graphql_lexer.specs.declared.lexer.Punctuator.TheVariants.{Spread, Colon, Equals, At, BracketOpen}
use Rattle.graphql_lexer.specs.declared.lexer.Punctuator.TheVariants.{BracketClose, BraceOpen, Pipe, BraceClose}

-- A token. Of a string, what stands between its quotes. After the last one stands the end of the text or a fault.
pub data Token : Type 0 where
  punctuator : Punctuator → Token
  name : List ℕ → Token
  int : List ℕ → Token
  float : List ℕ → Token
  string : List ℕ → Token
  block_string : List ℕ → Token
  end : Token
  fault : Token

-- ---- 2.1.1 to 2.1.7: characters and ignored tokens

-- SourceCharacter: tab, line feed, carriage return, and all from the space on. Characters past U+FFFF are among them.
abbrev pub is_source : ℕ → Bool
is_source c = ((c == 9) || ((c == 10) || (c == 13))) || nat_le 32 c

-- WhiteSpace, LineTerminator or Comma
abbrev pub is_blank : ℕ → Bool
is_blank c = ((c == 9) || (c == 32)) || (is_line_end c || (c == 44))

-- CommentChar :: SourceCharacter but not LineTerminator
abbrev pub is_comment_char : ℕ → Bool
is_comment_char c = (c == 9) || nat_le 32 c

-- UnicodeBOM
abbrev pub byte_order_mark : List ℕ
byte_order_mark = 0xEF ∷ 0xBB ∷ 0xBF ∷ []

-- Comment :: # CommentChar* [lookahead != CommentChar]
abbrev pub IsComment : List ℕ → List ℕ → Type 0
IsComment s rest =
    (cs : List ℕ) × (s ≡ 35 ∷ cs) × (list_all is_comment_char cs ≡ true) × (is_comment_char (at rest 0) ≡ false)

-- Ignored :: UnicodeBOM, WhiteSpace, LineTerminator, Comma or Comment
abbrev pub IsIgnored : List ℕ → List ℕ → Type 0
IsIgnored s rest =
    (s ≡ byte_order_mark) ⊎ ((c : ℕ) × (s ≡ c ∷ []) × (is_blank c ≡ true)) ⊎ IsComment s rest

-- ---- 2.1.8 and 2.1.9: punctuators and names

-- Punctuator
abbrev pub spelling : Punctuator → List ℕ
spelling Bang = 33 ∷ []
spelling Dollar = 36 ∷ []
spelling Ampersand = 38 ∷ []
spelling ParenOpen = 40 ∷ []
spelling ParenClose = 41 ∷ []
spelling Spread = 46 ∷ 46 ∷ 46 ∷ []
spelling Colon = 58 ∷ []
spelling Equals = 61 ∷ []
spelling At = 64 ∷ []
spelling BracketOpen = 91 ∷ []
spelling BracketClose = 93 ∷ []
spelling BraceOpen = 123 ∷ []
spelling Pipe = 124 ∷ []
spelling BraceClose = 125 ∷ []

-- Digit
abbrev pub is_digit : ℕ → Bool
is_digit c = nat_le 48 c && nat_le c 57

-- NameStart: a letter or `_`
abbrev pub is_name_start : ℕ → Bool
is_name_start c = ((c == 95) || (nat_le 65 c && nat_le c 90)) || (nat_le 97 c && nat_le c 122)

-- NameContinue
abbrev pub is_name_continue : ℕ → Bool
is_name_continue c = (((c == 95) || (nat_le 48 c && nat_le c 57)) || (nat_le 65 c && nat_le c 90)) || (nat_le 97 c && nat_le c 122)

-- Name :: NameStart NameContinue*
abbrev pub IsName : List ℕ → Type 0
IsName s = (c : ℕ) × (cs : List ℕ) × (s ≡ c ∷ cs) × (is_name_start c ≡ true) × (list_all is_name_continue cs ≡ true)

-- Name [lookahead != NameContinue]
abbrev pub EndsName : List ℕ → Type 0
EndsName rest = is_name_continue (at rest 0) ≡ false

-- ---- 2.9.1 and 2.9.2: numbers

-- Digit+
abbrev pub IsDigits : List ℕ → Type 0
IsDigits s = (0 < length s) × (list_all is_digit s ≡ true)

-- 0, or NonZeroDigit Digit*
abbrev pub IsWhole : List ℕ → Type 0
IsWhole s = (s ≡ 48 ∷ []) ⊎ (IsDigits s × (at s 0 ≡ 48 → ⊥))

-- IntegerPart :: NegativeSign? 0, or NegativeSign? NonZeroDigit Digit*
abbrev pub IsIntegerPart : List ℕ → Type 0
IsIntegerPart s = IsWhole s ⊎ ((whole : List ℕ) × (s ≡ 45 ∷ whole) × IsWhole whole)

-- FractionalPart :: . Digit+
abbrev pub IsFraction : List ℕ → Type 0
IsFraction s = (d : List ℕ) × (s ≡ 46 ∷ d) × IsDigits d

-- Sign, and ExponentIndicator
abbrev pub is_sign : ℕ → Bool
is_sign c = (c == 43) || (c == 45)

abbrev pub is_indicator : ℕ → Bool
is_indicator c = (c == 101) || (c == 69)

-- ExponentPart :: ExponentIndicator Sign? Digit+
abbrev pub IsExponent : List ℕ → Type 0
IsExponent s =
    (e : ℕ) × (t : List ℕ) × (s ≡ e ∷ t) × (is_indicator e ≡ true)
    × (IsDigits t ⊎ ((c : ℕ) × (d : List ℕ) × (t ≡ c ∷ d) × (is_sign c ≡ true) × IsDigits d))

-- FloatValue :: IntegerPart FractionalPart ExponentPart, or IntegerPart with one of the two
abbrev pub IsFloat : List ℕ → Type 0
IsFloat s =
    (i : List ℕ) × (f : List ℕ) × (e : List ℕ) × (s ≡ i ++ (f ++ e)) × IsIntegerPart i
    × ((IsFraction f × IsExponent e) ⊎ (IsFraction f × (e ≡ [])) ⊎ ((f ≡ []) × IsExponent e))

-- a Digit, `.` or NameStart
abbrev pub is_number_byte : ℕ → Bool
is_number_byte c = (c == 46) || is_name_continue c

-- IntValue and FloatValue [lookahead != {Digit, ., NameStart}]
abbrev pub EndsNumber : List ℕ → Type 0
EndsNumber rest = is_number_byte (at rest 0) ≡ false

-- ---- 2.9.4: strings

-- A character of a string on one line, or behind a backslash in it. Which escapes there are, `string_value` decides.
abbrev pub is_string_char : ℕ → Bool
is_string_char c = is_comment_char c

-- StringCharacter*, with each escape as a backslash and the character after it
pub data IsStringText : List ℕ → Type 0 where
  no_char : IsStringText []
  char : {c : ℕ} {cs : List ℕ} → is_string_char c ≡ true → (c == 34) ≡ false → (c == 92) ≡ false → IsStringText cs → IsStringText (c ∷ cs)
  escaped : {c : ℕ} {cs : List ℕ} → is_string_char c ≡ true → IsStringText cs → IsStringText (92 ∷ c ∷ cs)

-- BlockStringCharacter*, where the closing quotes follow: no other three quotes stand there but behind a backslash
pub data IsBlockText : List ℕ → Type 0 where
  no_block_char : IsBlockText []
  block_char : {c : ℕ} {cs : List ℕ} → is_source c ≡ true → begins three_quotes (c ∷ (cs ++ three_quotes)) ≡ false
      → begins escaped_quotes (c ∷ (cs ++ three_quotes)) ≡ false → IsBlockText cs → IsBlockText (c ∷ cs)
  escaped_block : {cs : List ℕ} → IsBlockText cs → IsBlockText (92 ∷ 34 ∷ 34 ∷ 34 ∷ cs)

-- ---- Token

-- The token t is written s, where rest follows. No third quote follows `""`.
abbrev pub IsToken : Token → List ℕ → List ℕ → Type 0
IsToken (punctuator p) s rest = s ≡ spelling p
IsToken (name n) s rest = (s ≡ n) × IsName n × EndsName rest
IsToken (int n) s rest = (s ≡ n) × IsIntegerPart n × EndsNumber rest
IsToken (float n) s rest = (s ≡ n) × IsFloat n × EndsNumber rest
IsToken (string raw) s rest =
    (s ≡ 34 ∷ (raw ++ (34 ∷ []))) × IsStringText raw × IsUtf8 raw × (begins three_quotes (s ++ rest) ≡ false)
IsToken (block_string raw) s rest = (s ≡ three_quotes ++ (raw ++ three_quotes)) × IsBlockText raw × IsUtf8 raw
IsToken end s rest = ⊥
IsToken fault s rest = ⊥
