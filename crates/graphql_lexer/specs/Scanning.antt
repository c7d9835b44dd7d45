-- What the scanner computes: the token at the front of a text with its length, and the bytes before it. Lexical says in
-- the words of the grammar what tokens are; that this computes them is proved.
use Rattle.std.specs.Prelude.{ℕ, zero, suc, ◌+◌, ◌-◌, Bool, false, not, ◌&&◌, ◌||◌, ◌==◌, nat_le, nat_lt, if◌then◌else◌}
use Rattle.std.specs.Prelude.{List, [], ◌∷◌, length, take, drop, Option, Some, None}
use Rattle.std.specs.List.{prefix_len}
use Rattle.std.specs.Str.{is_utf8}
use Rattle.graphql_strings.specs.Characters.{at, begins, three_quotes, escaped_quotes}
use Rattle.graphql_lexer.specs.declared.lexer.Punctuator.{Punctuator}
use Rattle.graphql_lexer.specs.declared.lexer.Punctuator.TheVariants.{Bang, Dollar, Ampersand, ParenOpen, ParenClose}
use Rattle.graphql_lexer.specs.declared.lexer.Punctuator.TheVariants.{Spread, Colon, Equals, At, BracketOpen}
use Rattle.graphql_lexer.specs.declared.lexer.Punctuator.TheVariants.{BracketClose, BraceOpen, Pipe, BraceClose}
use Rattle.graphql_lexer.specs.Lexical.{Token, punctuator, name, int, float, string, block_string, end, fault}
use Rattle.graphql_lexer.specs.Lexical.{is_digit, is_name_start, is_name_continue, is_number_byte, is_sign}
use Rattle.graphql_lexer.specs.Lexical.{is_indicator, is_source, is_comment_char, is_string_char, is_blank}
use Rattle.graphql_lexer.specs.Lexical.{byte_order_mark}

-- how many bytes at the front are digits
abbrev pub digits : List ℕ → ℕ
digits text = prefix_len is_digit text

-- Name :: NameStart NameContinue*
unfoldable pub name_length : List ℕ → ℕ
name_length text = prefix_len is_name_continue text

-- IntegerPart :: NegativeSign? 0, or NegativeSign? NonZeroDigit Digit*. The sign first.
unfoldable pub sign_length : List ℕ → ℕ
sign_length text = if at text 0 == 45 then 1 else 0

unfoldable pub whole_length : List ℕ → ℕ
whole_length text = if at text 0 == 48 then 1 else digits text

-- `lead` bytes and then a digit at least: their number, or nothing where no digit is there
abbrev pub led : ℕ → List ℕ → Option ℕ
led lead text = if digits (drop lead text) == 0 then None else Some (digits (drop lead text) + lead)

-- FractionalPart :: . Digit+, or 0 where no point is there
unfoldable pub fraction : List ℕ → Option ℕ
fraction text = if at text 0 == 46 then led 1 text else Some 0

-- ExponentPart :: ExponentIndicator Sign? Digit+, or 0 where no indicator is there
unfoldable pub exponent : List ℕ → Option ℕ
exponent text =
    if not (is_indicator (at text 0)) then Some 0
    else if is_sign (at text 1) then led 2 text
    else led 1 text

-- n bytes at the front, where they are there and are UTF-8
abbrev pub front : List ℕ → ℕ → Option (List ℕ)
front text n = if nat_le n (length text) && is_utf8 (take n text) then Some (take n text) else None

-- the same, as a token
abbrev pub written : (List ℕ → Token) → List ℕ → ℕ → ℕ → Token × ℕ
written kind text n taken = if nat_le n (length text) && is_utf8 (take n text) then (kind (take n text), taken) else (fault, 0)

-- a Name
abbrev pub name_at : List ℕ → Token × ℕ
name_at text = written name text (name_length text) (name_length text)

-- the number of this length, of which `whole` bytes are its IntegerPart
unfoldable pub number_of : List ℕ → ℕ → ℕ → Token × ℕ
number_of text n whole =
    if is_number_byte (at text n) then (fault, 0)
    else if n == whole then written int text n n
    else written float text n n

-- what is read after a part of a number
abbrev pub and_then : Option ℕ → ℕ → (ℕ → Token × ℕ) → Token × ℕ
and_then (Some n) before next = next (before + n)
and_then None before next = (fault, 0)

-- IntValue :: IntegerPart, and FloatValue :: IntegerPart with FractionalPart, ExponentPart or both
unfoldable pub number_at : List ℕ → Token × ℕ
number_at text =
    let sign = sign_length text in
    let whole = sign + whole_length (drop sign text) in
    if whole == sign then (fault, 0)
    else and_then (fraction (drop whole text)) whole
    (λ mantissa. and_then (exponent (drop mantissa text)) mantissa (λ n. number_of text n whole))

-- Punctuator, but for `...`
unfoldable pub punctuator_of : ℕ → Option Punctuator
punctuator_of c =
    if c == 33 then Some Bang
    else if c == 36 then Some Dollar
    else if c == 38 then Some Ampersand
    else if c == 40 then Some ParenOpen
    else if c == 41 then Some ParenClose
    else if c == 58 then Some Colon
    else if c == 61 then Some Equals
    else if c == 64 then Some At
    else if c == 91 then Some BracketOpen
    else if c == 93 then Some BracketClose
    else if c == 123 then Some BraceOpen
    else if c == 124 then Some Pipe
    else if c == 125 then Some BraceClose
    else None

abbrev pub punctuator_token : Option Punctuator → Token × ℕ
punctuator_token (Some p) = (punctuator p, 1)
punctuator_token None = (fault, 0)

unfoldable pub spread_at : List ℕ → Token × ℕ
spread_at text = if ((at text 0 == 46) && (at text 1 == 46)) && (at text 2 == 46) then (punctuator Spread, 3) else (fault, 0)

-- How many bytes stand before a string's closing quote, or before what no string may hold: a control character but for
-- the tab.
-- `escaped` says that a backslash stands before, which is no part of an escape itself.
unfoldable pub string_length : Bool → List ℕ → ℕ
string_length escaped [] = 0
string_length escaped (c ∷ cs) =
    if (not escaped && (c == 34)) || not (is_string_char c) then 0
    else 1 + string_length (not escaped && (c == 92)) cs

-- StringValue :: `"` and what stands up to the closing quote
unfoldable pub string_at : List ℕ → Token × ℕ
string_at text =
    let body = drop 1 text in
    let n = string_length false body in
    if (nat_le n (length body) && is_utf8 (take n body)) && (at body n == 34) then (string (take n body), n + 2) else (fault, 0)

-- what no source text holds
abbrev pub is_refused : ℕ → Bool
is_refused c = not (is_source c)

-- How many bytes of `\"""` are left after the byte at the front, where so many were left before it; nothing where the
-- string ends.
unfoldable pub block_turn : ℕ → List ℕ → Option ℕ
block_turn left text =
    if nat_lt 0 left then Some (left - 1)
    else if begins three_quotes text || is_refused (at text 0) then None
    else if begins escaped_quotes text then Some 3
    else Some 0

-- one, and what is counted from the next state on, where there is one
abbrev pub counted : {S : Type 0} → Option S → (S → ℕ) → ℕ
counted (Some next) k = 1 + k next
counted None k = 0

-- how many bytes stand before a block string's closing quotes, or before what no source text holds
unfoldable pub block_length : ℕ → List ℕ → ℕ
block_length left [] = 0
block_length left (c ∷ cs) = counted (block_turn left (c ∷ cs)) (λ next. block_length next cs)

-- StringValue :: `"""` and what stands up to the closing quotes
unfoldable pub block_string_at : List ℕ → Token × ℕ
block_string_at text =
    let body = drop 3 text in
    let n = block_length 0 body in
    if (nat_le n (length body) && is_utf8 (take n body))
    && begins three_quotes (drop n body) then (block_string (take n body), n + 6) else (fault, 0)

unfoldable pub any_string_at : List ℕ → Token × ℕ
any_string_at text = if begins three_quotes text then block_string_at text else string_at text

-- Token, and the end of the text
unfoldable pub token_at : List ℕ → Token × ℕ
token_at [] = (end, 0)
token_at (c ∷ cs) =
    if c == 34 then any_string_at (c ∷ cs)
    else if c == 46 then spread_at (c ∷ cs)
    else if (c == 45) || is_digit c then number_at (c ∷ cs)
    else if is_name_start c then name_at (c ∷ cs)
    else punctuator_token (punctuator_of c)

-- how many bytes of a comment stand behind its `#`
unfoldable pub comment_length : List ℕ → ℕ
comment_length text = prefix_len is_comment_char text

-- how many bytes the ignored token at the front takes, 0 where none is there
unfoldable pub ignored_at : List ℕ → ℕ
ignored_at [] = 0
ignored_at (c ∷ cs) =
    if is_blank c then 1
    else if c == 35 then 1 + comment_length cs
    else if begins byte_order_mark (c ∷ cs) then 3
    else 0

-- how many bytes stand before the next token, where so many of an ignored token are left
unfoldable pub ignored_from : ℕ → List ℕ → ℕ
ignored_from left [] = 0
ignored_from (suc left) (c ∷ cs) = 1 + ignored_from left cs
ignored_from zero (c ∷ cs) = if ignored_at (c ∷ cs) == 0 then 0 else 1 + ignored_from (ignored_at (c ∷ cs) - 1) cs

abbrev pub ignored_length : List ℕ → ℕ
ignored_length text = ignored_from 0 text
