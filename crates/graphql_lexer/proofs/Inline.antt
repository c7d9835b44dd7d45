-- No token but a block string ends a line, so the position behind it is on the same line.
use Rattle.std.proofs.Common.{◌≡◌, ◌⊎◌, ◌≤◌, inl, inr, ℕ, List, [], ◌∷◌, ◌++◌, Bool, true, false, length, take, drop, refl, sym, ap, subst, ◌∙◌, arith}
use Rattle.std.proofs.lemmas.Bool.Decides.{nat_tests}
use Rattle.std.specs.List.{list_all}
use Rattle.std.proofs.lemmas.List.{length-take, take-append-drop}
use Rattle.std.proofs.lemmas.List.Folds.{list_all-append}
use Rattle.graphql_strings.proofs.Runs.{both}
use Rattle.graphql_lexer.specs.Lexical.{Token, punctuator, name, int, float, string, block_string, end, fault, spelling, is_comment_char, is_digit, is_indicator, is_sign, is_name_start, is_name_continue, IsDigits, IsWhole, IsIntegerPart, IsFraction, IsExponent, IsStringText, no_char, char, escaped, IsToken}
use Rattle.graphql_lexer.specs.Lexemes.{is_last, IsFront}
use Rattle.graphql_lexer.specs.Places.{after_all, along}
use Rattle.graphql_lexer.specs.Scan.{is_inline}
use Rattle.graphql_lexer.specs.Scanning.{token_at}
use Rattle.graphql_lexer.specs.declared.cursor.Cursor.{Cursor}
use Rattle.graphql_lexer.specs.declared.lexer.Punctuator.{Punctuator}
use Rattle.graphql_lexer.specs.declared.lexer.Punctuator.TheVariants.{Bang, Dollar, Ampersand, ParenOpen, ParenClose, Spread, Colon, Equals, At, BracketOpen, BracketClose, BraceOpen, Pipe, BraceClose}
use Rattle.graphql_lexer.proofs.Along.{along_front}
use Rattle.graphql_lexer.proofs.Found.{tokens_found}
use Rattle.graphql_lexer.proofs.Read.{tokens_read}

abbrev Plain : List ℕ → Type 0
Plain s = list_all is_comment_char s ≡ true

plain_more : (c : ℕ) (cs : List ℕ) → is_comment_char c ≡ true → Plain cs → Plain (c ∷ cs)
plain_more c cs h k = rw h k

plain_both : (s t : List ℕ) → Plain s → Plain t → Plain (s ++ t)
plain_both s t h k = list_all-append is_comment_char s t ∙ rw h k

plain_all : (p : ℕ → Bool) → ((c : ℕ) → p c ≡ true → is_comment_char c ≡ true) → (s : List ℕ) → list_all p s ≡ true → Plain s
plain_all p h [] k = refl
plain_all p h (c ∷ cs) k = let parts = both (p c) (list_all p cs) k in plain_more c cs (h c parts.0) (plain_all p h cs parts.1)

-- ---- classes of bytes
continue_plain : (c : ℕ) → is_name_continue c ≡ true → is_comment_char c ≡ true
continue_plain c h = grind (arith, nat_tests)

start_plain : (c : ℕ) → is_name_start c ≡ true → is_comment_char c ≡ true
start_plain c h = grind (arith, nat_tests)

digit_plain : (c : ℕ) → is_digit c ≡ true → is_comment_char c ≡ true
digit_plain c h = grind (arith, nat_tests)

indicator_plain : (c : ℕ) → is_indicator c ≡ true → is_comment_char c ≡ true
indicator_plain c h = grind (arith, nat_tests)

sign_plain : (c : ℕ) → is_sign c ≡ true → is_comment_char c ≡ true
sign_plain c h = grind (arith, nat_tests)

-- ---- kinds of tokens
plain_punctuator : (p : Punctuator) → Plain (spelling p)
plain_punctuator Bang = refl
plain_punctuator Dollar = refl
plain_punctuator Ampersand = refl
plain_punctuator ParenOpen = refl
plain_punctuator ParenClose = refl
plain_punctuator Spread = refl
plain_punctuator Colon = refl
plain_punctuator Equals = refl
plain_punctuator At = refl
plain_punctuator BracketOpen = refl
plain_punctuator BracketClose = refl
plain_punctuator BraceOpen = refl
plain_punctuator Pipe = refl
plain_punctuator BraceClose = refl

plain_digits : (s : List ℕ) → IsDigits s → Plain s
plain_digits s h = plain_all is_digit digit_plain s h.1

plain_whole : (s : List ℕ) → IsWhole s → Plain s
plain_whole s (inl same) = rw same refl
plain_whole s (inr h) = plain_digits s h.0

plain_integer : (s : List ℕ) → IsIntegerPart s → Plain s
plain_integer s (inl h) = plain_whole s h
plain_integer s (inr (whole, same, h)) = rw same (plain_whole whole h)

plain_fraction : (s : List ℕ) → IsFraction s → Plain s
plain_fraction s (d, same, h) = rw same (plain_digits d h)

plain_exponent : (s : List ℕ) → IsExponent s → Plain s
plain_exponent s (e, t, same, h, inl d) = rw same (plain_more e t (indicator_plain e h) (plain_digits t d))
plain_exponent s (e, t, same, h, inr (c, d, rest, k, all)) =
    rw (same, rest) (plain_more e (c ∷ d) (indicator_plain e h) (plain_more c d (sign_plain c k) (plain_digits d all)))

plain_ends : (f e : List ℕ) → (IsFraction f × IsExponent e) ⊎ (IsFraction f × (e ≡ [])) ⊎ ((f ≡ []) × IsExponent e) → Plain (f ++ e)
plain_ends f e (inl (h, k)) = plain_both f e (plain_fraction f h) (plain_exponent e k)
plain_ends f e (inr (inl (h, k))) = plain_both f e (plain_fraction f h) (rw k refl)
plain_ends f e (inr (inr (h, k))) = plain_both f e (rw h refl) (plain_exponent e k)

plain_string : (s : List ℕ) → IsStringText s → Plain s
plain_string [] no_char = refl
plain_string (c ∷ cs) (char h q b more) = plain_more c cs h (plain_string cs more)
plain_string (b ∷ c ∷ cs) (escaped h more) = plain_more c cs h (plain_string cs more)

plain_token : (t : Token) (s r : List ℕ) → IsToken t s r → is_inline t ≡ true → Plain s
plain_token (punctuator p) s r same i = rw same (plain_punctuator p)
plain_token (name n) s r (same, (c, cs, parts, h, k), e) i = rw (same, parts) (plain_more c cs (start_plain c h) (plain_all is_name_continue continue_plain cs k))
plain_token (int n) s r (same, h, e) i = rw same (plain_integer n h)
plain_token (float n) s r (same, (a, f, x, parts, h, k), e) i = rw (same, parts) (plain_both a (f ++ x) (plain_integer a h) (plain_ends f x k))
plain_token (string raw) s r (same, h, u, e) i = rw same (plain_both raw (34 ∷ []) (plain_string raw h) refl)
plain_token (block_string raw) s r h i = cc
plain_token end s r h i = absurd h
plain_token fault s r h i = absurd h

-- ---- at the front of a text
token_fits : (text : List ℕ) (t : Token) (n : ℕ) → IsToken t (take n text) (drop n text) → (t, n) ≡ token_at text → n ≤ length text
token_fits text t n h e =
    let again : token_at text ≡ (t, length (take n text)) = ap token_at (sym (take-append-drop n text)) ∙ tokens_read t (take n text) (drop n text) h in
    let same : n ≡ length (take n text) = ap (λ (x : Token × ℕ). x.1) (e ∙ again) in
    let least = length-take n text in
    omega arith

stop_if : (p : Cursor) (text : List ℕ) (t : Token) (n : ℕ) (b : Bool) → is_last t ≡ b → (t, n) ≡ token_at text → is_inline t ≡ true → along p n ≡ after_all p (take n text)
stop_if p text t n false l e i =
    let P : Token × ℕ → Type 0 = λ x. IsFront text x in
    let front = subst P (sym e) (tokens_found text) in
    let there = front.0 l in
    along_front p text n (token_fits text t n there e) (plain_token t (take n text) (drop n text) there i)
stop_if p text t n true l e i =
    let P : Token × ℕ → Type 0 = λ x. IsFront text x in
    let front = subst P (sym e) (tokens_found text) in
    let none = front.1 l in
    rw none (along_front p text 0 (omega arith) refl)

pub stop_inline : (p : Cursor) (text : List ℕ) (t : Token) (n : ℕ) → (t, n) ≡ token_at text → is_inline t ≡ true → along p n ≡ after_all p (take n text)
stop_inline p text t n e i = stop_if p text t n (is_last t) refl e i

within_if : (text : List ℕ) (t : Token) (n : ℕ) (b : Bool) → is_last t ≡ b → (t, n) ≡ token_at text → n ≤ length text
within_if text t n false l e =
    let P : Token × ℕ → Type 0 = λ x. IsFront text x in
    let front = subst P (sym e) (tokens_found text) in
    token_fits text t n (front.0 l) e
within_if text t n true l e =
    let P : Token × ℕ → Type 0 = λ x. IsFront text x in
    let front = subst P (sym e) (tokens_found text) in
    let none = front.1 l in
    omega arith

pub token_within : (text : List ℕ) (t : Token) (n : ℕ) → (t, n) ≡ token_at text → n ≤ length text
token_within text t n e = within_if text t n (is_last t) refl e
