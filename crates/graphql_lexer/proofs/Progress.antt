-- A token that is not the last takes a byte at least, so there are fewer tokens than bytes and one more.
use Rattle.std.proofs.Common.{◌≡◌, ◌<◌, ◌+◌, ℕ, zero, suc, List, [], ◌∷◌, Bool, true, false, ◌&&◌, ◌||◌, ◌==◌, nat_le, if◌then◌else◌, Option, Some, None, length, take, drop, refl, sym, ap, ◌∙◌, arith, length-drop}
use Rattle.std.proofs.lemmas.Bool.Decides.{nat_tests}
use Rattle.std.specs.Str.{is_utf8}
use Rattle.graphql_strings.specs.Characters.{at, begins, three_quotes}
use Rattle.graphql_lexer.specs.Lexical.{Token, punctuator, name, int, float, string, block_string, fault, is_digit, is_name_start, is_name_continue, is_number_byte}
use Rattle.graphql_lexer.specs.Scanning.{name_length, sign_length, whole_length, fraction, exponent, written, name_at, number_of, and_then, number_at, punctuator_of, punctuator_token, spread_at, string_length, string_at, block_length, block_string_at, any_string_at, token_at}
use Rattle.graphql_lexer.specs.Lexemes.{Lexeme, is_last, position}
use Rattle.graphql_lexer.specs.Scan.{gap, ahead, start_at, stop_at, rest_at, lexeme_at, lexemes, tokens_from}
use Rattle.graphql_lexer.specs.declared.cursor.Cursor.{Cursor}
use Rattle.graphql_lexer.specs.declared.lexer.Punctuator.{Punctuator}
use Rattle.graphql_lexer.specs.declared.lexer.Punctuator.TheVariants.{Spread}

abbrev Moves : Token × ℕ → Type 0
Moves r = is_last r.0 ≡ false → 0 < r.1

moves_fault : (n : ℕ) → Moves (fault, n)
moves_fault n e = cc

moves_if : (b : Bool) (x y : Token × ℕ) → (b ≡ true → Moves x) → (b ≡ false → Moves y) → Moves (if b then x else y)
moves_if true x y h k = h refl
moves_if false x y h k = k refl

moves_written : (kind : List ℕ → Token) (text : List ℕ) (n taken : ℕ) → 0 < taken → Moves (written kind text n taken)
moves_written kind text n taken h = moves_if (nat_le n (length text) && is_utf8 (take n text)) (kind (take n text), taken) (fault, 0) (λ _ _. h) (λ _. moves_fault 0)

moves_number_of : (text : List ℕ) (n whole : ℕ) → 0 < n → Moves (number_of text n whole)
unfolding number_of
moves_number_of text n whole h =
    moves_if (is_number_byte (at text n)) (fault, 0) (if n == whole then written int text n n else written float text n n)
    (λ _. moves_fault 0)
    (λ _. moves_if (n == whole) (written int text n n) (written float text n n) (λ _. moves_written int text n n h) (λ _. moves_written float text n n h))

moves_and_then : (p : Option ℕ) (before : ℕ) (next : ℕ → Token × ℕ) → 0 < before → ((n : ℕ) → 0 < n → Moves (next n)) → Moves (and_then p before next)
moves_and_then (Some n) before next h k = k (before + n) (omega arith)
moves_and_then None before next h k = moves_fault 0

whole_some : (sign k : ℕ) → (sign + k == sign) ≡ false → 0 < sign + k
whole_some sign k h = grind (arith, nat_tests)

moves_number_at : (text : List ℕ) → Moves (number_at text)
unfolding number_at
moves_number_at text =
    let sign = sign_length text in
    let whole = sign + whole_length (drop sign text) in
    let from : ℕ → Token × ℕ = λ mantissa. and_then (exponent (drop mantissa text)) mantissa (λ n. number_of text n whole) in
    moves_if (whole == sign) (fault, 0) (and_then (fraction (drop whole text)) whole from)
    (λ _. moves_fault 0)
    (λ h. moves_and_then (fraction (drop whole text)) whole from (whole_some sign (whole_length (drop sign text)) h)
    (λ mantissa h1. moves_and_then (exponent (drop mantissa text)) mantissa (λ n. number_of text n whole) h1 (λ n h2. moves_number_of text n whole h2)))

start_continues : (c : ℕ) → is_name_start c ≡ true → is_name_continue c ≡ true
start_continues c h = grind (arith, nat_tests)

name_some : (c : ℕ) (cs : List ℕ) → is_name_start c ≡ true → 0 < name_length (c ∷ cs)
unfolding name_length
name_some c cs h = rw (start_continues c h) (omega arith)

moves_more : (t : Token) (n k : ℕ) → 0 < k → Moves (t, n + k)
moves_more t n k h e = omega arith

moves_string_at : (text : List ℕ) → Moves (string_at text)
unfolding string_at
moves_string_at text =
    let body = drop 1 text in
    let n = string_length false body in
    moves_if ((nat_le n (length body) && is_utf8 (take n body)) && (at body n == 34)) (string (take n body), n + 2) (fault, 0) (λ _. moves_more (string (take n body)) n 2 (omega arith)) (λ _. moves_fault 0)

moves_block_string_at : (text : List ℕ) → Moves (block_string_at text)
unfolding block_string_at
moves_block_string_at text =
    let body = drop 3 text in
    let n = block_length 0 body in
    moves_if ((nat_le n (length body) && is_utf8 (take n body)) && begins three_quotes (drop n body)) (block_string (take n body), n + 6) (fault, 0) (λ _. moves_more (block_string (take n body)) n 6 (omega arith)) (λ _. moves_fault 0)

moves_any_string_at : (text : List ℕ) → Moves (any_string_at text)
unfolding any_string_at
moves_any_string_at text = moves_if (begins three_quotes text) (block_string_at text) (string_at text) (λ _. moves_block_string_at text) (λ _. moves_string_at text)

moves_punctuator : (p : Option Punctuator) → Moves (punctuator_token p)
moves_punctuator (Some p) = λ e. omega arith
moves_punctuator None = moves_fault 0

moves_spread : (text : List ℕ) → Moves (spread_at text)
unfolding spread_at
moves_spread text = moves_if (((at text 0 == 46) && (at text 1 == 46)) && (at text 2 == 46)) (punctuator Spread, 3) (fault, 0) (λ _. moves_more (punctuator Spread) 1 2 (omega arith)) (λ _. moves_fault 0)

abbrev rest_4 : ℕ → List ℕ → Token × ℕ
rest_4 c cs = punctuator_token (punctuator_of c)

abbrev rest_3 : ℕ → List ℕ → Token × ℕ
rest_3 c cs = if is_name_start c then name_at (c ∷ cs) else rest_4 c cs

abbrev rest_2 : ℕ → List ℕ → Token × ℕ
rest_2 c cs = if (c == 45) || is_digit c then number_at (c ∷ cs) else rest_3 c cs

abbrev rest_1 : ℕ → List ℕ → Token × ℕ
rest_1 c cs = if c == 46 then spread_at (c ∷ cs) else rest_2 c cs

pub moves_token : (text : List ℕ) → Moves (token_at text)
unfolding token_at
moves_token [] = λ e. cc
moves_token (c ∷ cs) =
    moves_if (c == 34) (any_string_at (c ∷ cs)) (rest_1 c cs) (λ _. moves_any_string_at (c ∷ cs))
    (λ _. moves_if (c == 46) (spread_at (c ∷ cs)) (rest_2 c cs) (λ _. moves_spread (c ∷ cs))
    (λ _. moves_if ((c == 45) || is_digit c) (number_at (c ∷ cs)) (rest_3 c cs) (λ _. moves_number_at (c ∷ cs))
    (λ _. moves_if (is_name_start c) (name_at (c ∷ cs)) (rest_4 c cs) (λ h. moves_written name (c ∷ cs) (name_length (c ∷ cs)) (name_length (c ∷ cs)) (name_some c cs h))
    (λ _. moves_punctuator (punctuator_of c)))))

-- a token that is not the last is not at the end
token_nil : is_last ((token_at []).0) ≡ true
unfolding token_at
token_nil = refl

not_nil : (text : List ℕ) → is_last ((token_at text).0) ≡ false → 0 < length text
not_nil [] e = let both : true ≡ false = sym token_nil ∙ e in cc
not_nil (c ∷ cs) e = omega arith

pub shorter : (text : List ℕ) → is_last ((token_at (ahead text)).0) ≡ false → length (rest_at text) < length text
shorter text e =
    let n = moves_token (ahead text) e in
    let some = not_nil (ahead text) e in
    let a = length-drop ((token_at (ahead text)).1) (ahead text) in
    let b = length-drop (gap text) text in
    omega arith

if_same : (b : Bool) (u v : List Lexeme) → (b ≡ false → u ≡ v) → (if b then [] else u) ≡ (if b then [] else v)
if_same true u v h = refl
if_same false u v h = h refl

enough : (m n : ℕ) (p : Cursor) (text : List ℕ) → length text < m → length text < n → lexemes m p text ≡ lexemes n p text
unfolding lexemes
enough zero n p text h k = absurd (omega arith)
enough (suc m) zero p text h k = absurd (omega arith)
enough (suc m) (suc n) p text h k =
    ap (λ xs. lexeme_at p text ∷ xs) (if_same (is_last ((token_at (ahead text)).0)) (lexemes m (stop_at p text) (rest_at text)) (lexemes n (stop_at p text) (rest_at text)) (λ e. let s = shorter text e in enough m n (stop_at p text) (rest_at text) (omega arith) (omega arith)))

-- the token ahead, and those behind it
pub scanned : (p : Cursor) (text : List ℕ) → tokens_from p text ≡ lexeme_at p text ∷ (if is_last ((token_at (ahead text)).0) then [] else tokens_from (stop_at p text) (rest_at text))
unfolding lexemes
scanned p text =
    ap (λ xs. lexeme_at p text ∷ xs) (if_same (is_last ((token_at (ahead text)).0)) (lexemes (length text) (stop_at p text) (rest_at text)) (tokens_from (stop_at p text) (rest_at text)) (λ e. let s = shorter text e in enough (length text) (suc (length (rest_at text))) (stop_at p text) (rest_at text) s (omega arith)))

pub joined : (p start stop : Cursor) (text rest : List ℕ) (t : Token) → t ≡ (token_at (ahead text)).0 → start ≡ start_at p text → stop ≡ stop_at p text → rest ≡ rest_at text → record { token = t; start = position start; stop = position stop } ∷ (if is_last t then [] else tokens_from stop rest) ≡ tokens_from p text
joined p start stop text rest t a b c d = cc (scanned p text)

pub not_last : (b : Bool) (xs : List Lexeme) → b ≡ false → xs ≡ (if b then [] else xs)
not_last true xs h = cc
not_last false xs h = refl
