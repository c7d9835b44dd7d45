-- What the scanner takes for a token is one, with what may follow it.
use Rattle.std.proofs.Common.{◌≡◌, ◌⊎◌, ◌<◌, ◌≤◌, ◌+◌, inl, inr, ℕ, zero, suc, List, [], ◌∷◌, ◌++◌, Bool, true, false, not, ◌&&◌, ◌||◌, ◌==◌, nat_le, if◌then◌else◌, Option, Some, None, length, take, drop, refl, sym, ap, subst, ◌∙◌, arith, zero-add, append_assoc, length-drop}
use Rattle.std.proofs.lemmas.Bool.Decides.{nat_tests}
use Rattle.std.specs.List.{prefix_len}
use Rattle.std.proofs.lemmas.List.Folds.{length-prefix_len}
use Rattle.std.specs.Str.{is_utf8}
use Rattle.std.proofs.lemmas.Str.{IsUtf8-from_is_utf8}
use Rattle.std.proofs.lemmas.List.{take-append-drop}
use Rattle.std.proofs.Math.Seq.{take-add}
use Rattle.graphql_strings.specs.Characters.{at, begins, three_quotes, escaped_quotes}
use Rattle.graphql_strings.proofs.Runs.{run_all, run_stops, begins_split}
use Rattle.graphql_lexer.specs.Lexical.{Token, punctuator, name, int, float, string, block_string, fault, is_digit, is_name_start, is_name_continue, is_number_byte, is_sign, is_indicator, is_source, is_string_char, IsName, IsDigits, IsWhole, IsIntegerPart, IsFraction, IsExponent, IsFloat, EndsNumber, IsStringText, no_char, char, escaped, IsBlockText, no_block_char, block_char, escaped_block, spelling, IsToken}
use Rattle.graphql_lexer.specs.Lexemes.{is_last, IsFront}
use Rattle.graphql_lexer.specs.Scanning.{digits, led, name_length, sign_length, whole_length, fraction, exponent, written, name_at, number_of, and_then, number_at, punctuator_of, punctuator_token, spread_at, string_length, string_at, block_length, block_turn, block_string_at, any_string_at, token_at}
use Rattle.graphql_lexer.specs.declared.lexer.Punctuator.{Punctuator}
use Rattle.graphql_lexer.specs.declared.lexer.Punctuator.TheVariants.{Bang, Dollar, Ampersand, ParenOpen, ParenClose, Spread, Colon, Equals, At, BracketOpen, BracketClose, BraceOpen, Pipe, BraceClose}
use Rattle.graphql_lexer.proofs.Quoted.{block_plain, block_escape, closing}

found_fault : (text : List ℕ) → IsFront text (fault, 0)
found_fault text = (λ e. cc, λ e. refl, λ e. cc)

here : (text : List ℕ) (t : Token) (n : ℕ) → is_last t ≡ false → IsToken t (take n text) (drop n text) → IsFront text (t, n)
here text t n k h = (λ _. h, λ e. cc, λ e. let last = ap is_last e in cc)

found_if : (text : List ℕ) (b : Bool) (x y : Token × ℕ) → (b ≡ true → IsFront text x) → (b ≡ false → IsFront text y) → IsFront text (if b then x else y)
found_if text true x y h k = h refl
found_if text false x y h k = k refl

-- ---- Name
name_front : (c : ℕ) (cs : List ℕ) → is_name_start c ≡ true → IsName (take (1 + prefix_len is_name_continue cs) (c ∷ cs))
name_front c cs h =
    let n : suc (prefix_len is_name_continue cs) ≡ 1 + prefix_len is_name_continue cs = omega arith in
    subst (λ k. IsName (take k (c ∷ cs))) n (c, take (prefix_len is_name_continue cs) cs, refl, h, run_all is_name_continue cs)

start_continues : (c : ℕ) → is_name_start c ≡ true → is_name_continue c ≡ true
start_continues c h = grind (arith, nat_tests)

found_name : (c : ℕ) (cs : List ℕ) → is_name_start c ≡ true → IsFront (c ∷ cs) (name_at (c ∷ cs))
unfolding name_length
found_name c cs h =
    let n = prefix_len is_name_continue (c ∷ cs) in
    let start : IsName (take n (c ∷ cs)) = rw (start_continues c h) (name_front c cs h) in
    found_if (c ∷ cs) (nat_le n (length (c ∷ cs)) && is_utf8 (take n (c ∷ cs))) (name (take n (c ∷ cs)), n) (fault, 0)
    (λ _. here (c ∷ cs) (name (take n (c ∷ cs))) n refl (refl, start, run_stops is_name_continue refl (c ∷ cs))) (λ _. found_fault (c ∷ cs))

some_taken : (k n : ℕ) → (k == 0) ≡ false → n ≡ k → 0 < n
some_taken k n h e = grind (arith, nat_tests)

-- ---- numbers: which parts the front has
digits_front : (text : List ℕ) → (digits text == 0) ≡ false → IsDigits (take (digits text) text)
digits_front text h = (some_taken (digits text) (length (take (digits text) text)) h (length-prefix_len is_digit text), run_all is_digit text)

led_if : (b : Bool) (x n : ℕ) → (if b then None else Some x) ≡ Some n → (x ≡ n) × (b ≡ false)
led_if true x n h = (cc, cc)
led_if false x n h = (cc, refl)

point_is : (c : ℕ) → (c == 46) ≡ true → c ≡ 46
point_is c h = grind (arith, nat_tests)

after_one : (c : ℕ) (cs : List ℕ) (k n : ℕ) → k + 1 ≡ n → c ∷ take k cs ≡ take n (c ∷ cs)
after_one c cs k n e = let s : suc k ≡ n = omega arith in ap (λ m. take m (c ∷ cs)) s

fraction_if : (text : List ℕ) (n : ℕ) (b : Bool) → (at text 0 == 46) ≡ b → (if b then led 1 text else Some 0) ≡ Some n → (n ≡ 0) ⊎ IsFraction (take n text)
fraction_if [] n true p h = cc
fraction_if (c ∷ cs) n true p h =
    let d = led_if (digits cs == 0) (digits cs + 1) n h in
    inr (take (digits cs) cs, sym (after_one c cs (digits cs) n d.0) ∙ ap (λ x. x ∷ take (digits cs) cs) (point_is c p), digits_front cs d.1)
fraction_if text n false p h = inl cc

fraction_front : (text : List ℕ) (n : ℕ) → fraction text ≡ Some n → (n ≡ 0) ⊎ IsFraction (take n text)
unfolding fraction
fraction_front text n h = fraction_if text n (at text 0 == 46) refl h

signed_if : (i : ℕ) (t : List ℕ) (n : ℕ) (b : Bool) → is_indicator i ≡ true → is_sign (at t 0) ≡ b → (if b then led 2 (i ∷ t) else led 1 (i ∷ t)) ≡ Some n → IsExponent (take n (i ∷ t))
signed_if i [] n true p q h = cc
signed_if i (c ∷ cs) n true p q h =
    let d = led_if (digits cs == 0) (digits cs + 2) n h in
    let m : suc (suc (digits cs)) ≡ n = let e = d.0 in omega arith in
    subst (λ k. IsExponent (take k (i ∷ c ∷ cs))) m (i, c ∷ take (digits cs) cs, refl, p, inr (c, take (digits cs) cs, refl, q, digits_front cs d.1))
signed_if i t n false p q h =
    let d = led_if (digits t == 0) (digits t + 1) n h in
    let m : suc (digits t) ≡ n = let e = d.0 in omega arith in
    subst (λ k. IsExponent (take k (i ∷ t))) m (i, take (digits t) t, refl, p, inl (digits_front t d.1))

exponent_if : (text : List ℕ) (n : ℕ) (b : Bool) → is_indicator (at text 0) ≡ b → (if not b then Some 0 else if is_sign (at text 1) then led 2 text else led 1 text) ≡ Some n → (n ≡ 0) ⊎ IsExponent (take n text)
exponent_if text n false p h = inl cc
exponent_if [] n true p h = cc
exponent_if (i ∷ t) n true p h = inr (signed_if i t n (is_sign (at t 0)) p refl h)

exponent_front : (text : List ℕ) (n : ℕ) → exponent text ≡ Some n → (n ≡ 0) ⊎ IsExponent (take n text)
unfolding exponent
exponent_front text n h = exponent_if text n (is_indicator (at text 0)) refl h

zero_is : (c : ℕ) → (c == 48) ≡ true → c ≡ 48
zero_is c h = grind (arith, nat_tests)

not_zero : (c : ℕ) → (c == 48) ≡ false → c ≡ 48 → ⊥
not_zero c h e = let no : (c == 48) ≡ true = rw e refl in cc

at_take : (c : ℕ) (cs : List ℕ) (n : ℕ) → 0 < n → at (take n (c ∷ cs)) 0 ≡ c
at_take c cs zero h = absurd (omega arith)
at_take c cs (suc n) h = refl

some_digits : (n : ℕ) → 0 < n → (n == 0) ≡ false
some_digits n h = grind (arith, nat_tests)

whole_if : (text : List ℕ) (b : Bool) → (at text 0 == 48) ≡ b → 0 < (if b then 1 else digits text) → IsWhole (take (if b then 1 else digits text) text)
whole_if [] true p h = cc
whole_if (c ∷ cs) true p h = inl (ap (λ x. x ∷ []) (zero_is c p))
whole_if [] false p h = absurd (omega arith)
whole_if (c ∷ cs) false p h = inr (digits_front (c ∷ cs) (some_digits (digits (c ∷ cs)) h), λ e. not_zero c p (sym (at_take c cs (digits (c ∷ cs)) h) ∙ e))

whole_front : (text : List ℕ) → 0 < whole_length text → IsWhole (take (whole_length text) text)
unfolding whole_length
whole_front text h = whole_if text (at text 0 == 48) refl h

minus_is : (c : ℕ) → (c == 45) ≡ true → c ≡ 45
minus_is c h = grind (arith, nat_tests)

more_than : (a b : ℕ) → (a + b == a) ≡ false → 0 < b
more_than a b h = grind (arith, nat_tests)

integer_if : (text : List ℕ) (b : Bool) → (at text 0 == 45) ≡ b → 0 < whole_length (drop (if b then 1 else 0) text) → IsIntegerPart (take ((if b then 1 else 0) + whole_length (drop (if b then 1 else 0) text)) text)
integer_if [] true p h = cc
integer_if (c ∷ cs) true p h =
    let n : suc (whole_length cs) ≡ 1 + whole_length cs = omega arith in
    subst (λ k. IsIntegerPart (take k (c ∷ cs))) n (inr (take (whole_length cs) cs, ap (λ x. x ∷ take (whole_length cs) cs) (minus_is c p), whole_front cs h))
integer_if text false p h = subst (λ k. IsIntegerPart (take k text)) (sym (zero-add (whole_length text))) (inl (whole_front text h))

integer_front : (text : List ℕ) → (sign_length text + whole_length (drop (sign_length text) text) == sign_length text) ≡ false → IsIntegerPart (take (sign_length text + whole_length (drop (sign_length text) text)) text)
unfolding sign_length
integer_front text h = integer_if text (at text 0 == 45) refl (more_than (sign_length text) (whole_length (drop (sign_length text) text)) h)

-- ---- a number of these parts
three_parts : (a b c : ℕ) (l : List ℕ) → take (a + b + c) l ≡ take a l ++ (take b (drop a l) ++ take c (drop (a + b) l))
three_parts a b c l = take-add (a + b) c l ∙ ap (λ t. t ++ take c (drop (a + b) l)) (take-add a b l) ∙ append_assoc (take a l) (take b (drop a l)) (take c (drop (a + b) l))

at_drop : (text : List ℕ) (n : ℕ) → at (drop n text) 0 ≡ at text n
at_drop text zero = refl
at_drop [] (suc n) = refl
at_drop (c ∷ cs) (suc n) = at_drop cs n

found_written_number : (text : List ℕ) (n : ℕ) (kind : List ℕ → Token) → is_last (kind (take n text)) ≡ false → IsToken (kind (take n text)) (take n text) (drop n text) → IsFront text (written kind text n n)
found_written_number text n kind k h = found_if text (nat_le n (length text) && is_utf8 (take n text)) (kind (take n text), n) (fault, 0) (λ _. here text (kind (take n text)) n k h) (λ _. found_fault text)

same_length : (a b : ℕ) → (a == b) ≡ true → b ≡ a
same_length a b h = grind (arith, nat_tests)

found_number_of : (text : List ℕ) (n whole : ℕ) → IsIntegerPart (take whole text) → ((n == whole) ≡ false → IsFloat (take n text)) → IsFront text (number_of text n whole)
unfolding number_of
found_number_of text n whole h k =
    found_if text (is_number_byte (at text n)) (fault, 0) (if n == whole then written int text n n else written float text n n) (λ _. found_fault text)
    (λ e. let ends : EndsNumber (drop n text) = rw (at_drop text n) e in
    found_if text (n == whole) (written int text n n) (written float text n n)
    (λ s. found_written_number text n int refl (refl, subst (λ m. IsIntegerPart (take m text)) (same_length n whole s) h, ends))
    (λ s. found_written_number text n float refl (refl, k s, ends)))

found_and_then : (text : List ℕ) (p : Option ℕ) (before : ℕ) (next : ℕ → Token × ℕ) → ((n : ℕ) → p ≡ Some n → IsFront text (next (before + n))) → IsFront text (and_then p before next)
found_and_then text (Some n) before next k = k n refl
found_and_then text None before next k = found_fault text

not_both : (a b c : ℕ) → (a + b + c == a) ≡ false → b ≡ 0 → c ≡ 0 → ⊥
not_both a b c h p q = let no : (a + b + c == a) ≡ true = grind (arith, nat_tests) in cc

float_of : (a b c : ℕ) (l : List ℕ) → IsIntegerPart (take a l) → (b ≡ 0) ⊎ IsFraction (take b (drop a l)) → (c ≡ 0) ⊎ IsExponent (take c (drop (a + b) l)) → (a + b + c == a) ≡ false → IsFloat (take (a + b + c) l)
float_of a b c l h (inl z) (inl w) n = absurd (not_both a b c n z w)
float_of a b c l h (inl z) (inr q) n = (take a l, take b (drop a l), take c (drop (a + b) l), three_parts a b c l, h, inr (inr (ap (λ k. take k (drop a l)) z, q)))
float_of a b c l h (inr p) (inl w) n = (take a l, take b (drop a l), take c (drop (a + b) l), three_parts a b c l, h, inr (inl (p, ap (λ k. take k (drop (a + b) l)) w)))
float_of a b c l h (inr p) (inr q) n = (take a l, take b (drop a l), take c (drop (a + b) l), three_parts a b c l, h, inl (p, q))

found_number : (text : List ℕ) → IsFront text (number_at text)
unfolding number_at
found_number text =
    let sign = sign_length text in
    let whole = sign + whole_length (drop sign text) in
    let from : ℕ → Token × ℕ = λ mantissa. and_then (exponent (drop mantissa text)) mantissa (λ n. number_of text n whole) in
    found_if text (whole == sign) (fault, 0) (and_then (fraction (drop whole text)) whole from) (λ _. found_fault text)
    (λ h. found_and_then text (fraction (drop whole text)) whole from
    (λ f p. found_and_then text (exponent (drop (whole + f) text)) (whole + f) (λ n. number_of text n whole)
    (λ e q. found_number_of text (whole + f + e) whole (integer_front text h) (float_of whole f e text (integer_front text h) (fraction_front (drop whole text) f p) (exponent_front (drop (whole + f) text) e q)))))

-- ---- strings on one line
string_step : (c : ℕ) (cs : List ℕ) (q k b : Bool) → (c == 34) ≡ q → is_string_char c ≡ k → (c == 92) ≡ b → at (c ∷ cs) (if q || not k then 0 else 1 + string_length b cs) ≡ 34
    → (at cs (string_length false cs) ≡ 34 → IsStringText (take (string_length false cs) cs)) → (at cs (string_length true cs) ≡ 34 → IsStringText (92 ∷ take (string_length true cs) cs))
    → IsStringText (take (if q || not k then 0 else 1 + string_length b cs) (c ∷ cs))
string_step c cs true k b hq hk hb h plain after = no_char
string_step c cs false false b hq hk hb h plain after = no_char
string_step c cs false true false hq hk hb h plain after =
    let n : suc (string_length false cs) ≡ 1 + string_length false cs = omega arith in
    let there : at cs (string_length false cs) ≡ 34 = ap (at (c ∷ cs)) n ∙ h in
    subst (λ m. IsStringText (take m (c ∷ cs))) n (char hk hq hb (plain there))
string_step c cs false true true hq hk hb h plain after =
    let n : suc (string_length true cs) ≡ 1 + string_length true cs = omega arith in
    let there : at cs (string_length true cs) ≡ 34 = ap (at (c ∷ cs)) n ∙ h in
    let same : 92 ≡ c = grind (arith, nat_tests) in
    subst (λ m. IsStringText (take m (c ∷ cs))) n (subst (λ x. IsStringText (x ∷ take (string_length true cs) cs)) same (after there))

quote_char : (c : ℕ) → c ≡ 34 → is_string_char c ≡ true
quote_char c h = rw h refl

after_step : (c : ℕ) (cs : List ℕ) (k : Bool) → is_string_char c ≡ k → at (c ∷ cs) (if not k then 0 else 1 + string_length false cs) ≡ 34
    → (at cs (string_length false cs) ≡ 34 → IsStringText (take (string_length false cs) cs))
    → IsStringText (92 ∷ take (if not k then 0 else 1 + string_length false cs) (c ∷ cs))
after_step c cs false hk h plain = let no = quote_char c h in cc
after_step c cs true hk h plain =
    let n : suc (string_length false cs) ≡ 1 + string_length false cs = omega arith in
    let there : at cs (string_length false cs) ≡ 34 = ap (at (c ∷ cs)) n ∙ h in
    subst (λ m. IsStringText (92 ∷ take m (c ∷ cs))) n (escaped hk (plain there))

abbrev Inside : Bool → List ℕ → Type 0
Inside false s = IsStringText s
Inside true s = IsStringText (92 ∷ s)

string_front : (e : Bool) (text : List ℕ) → at text (string_length e text) ≡ 34 → Inside e (take (string_length e text) text)
unfolding string_length
string_front e [] h = cc
string_front false (c ∷ cs) h = string_step c cs (c == 34) (is_string_char c) (c == 92) refl refl refl h (string_front false cs) (string_front true cs)
string_front true (c ∷ cs) h = after_step c cs (is_string_char c) refl h (string_front false cs)

both_of : (a b : Bool) → (a && b) ≡ true → (a ≡ true) × (b ≡ true)
both_of true b h = (refl, h)
both_of false b h = (cc, cc)

is_34 : (c : ℕ) → (c == 34) ≡ true → c ≡ 34
is_34 c h = grind (arith, nat_tests)

one_after : (body : List ℕ) (n : ℕ) → at body n ≡ 34 → take 1 (drop n body) ≡ 34 ∷ []
one_after [] n h = cc
one_after (c ∷ cs) zero h = ap (λ x. x ∷ []) h
one_after (c ∷ cs) (suc n) h = one_after cs n h

quoted_front : (body : List ℕ) (n : ℕ) → at body n ≡ 34 → take (n + 2) (34 ∷ body) ≡ 34 ∷ (take n body ++ (34 ∷ []))
quoted_front body n h =
    let m : n + 2 ≡ suc (n + 1) = omega arith in
    ap (λ k. take k (34 ∷ body)) m ∙ ap (λ t. 34 ∷ t) (take-add n 1 body ∙ ap (λ t. take n body ++ t) (one_after body n h))

found_string : (body : List ℕ) → begins three_quotes (34 ∷ body) ≡ false → IsFront (34 ∷ body) (string_at (34 ∷ body))
unfolding string_at
found_string body single =
    let n = string_length false body in
    found_if (34 ∷ body) ((nat_le n (length body) && is_utf8 (take n body)) && (at body n == 34)) (string (take n body), n + 2) (fault, 0)
    (λ h. let parts = both_of (nat_le n (length body) && is_utf8 (take n body)) (at body n == 34) h in
    let valid = both_of (nat_le n (length body)) (is_utf8 (take n body)) parts.0 in
    let quote = is_34 (at body n) parts.1 in
    here (34 ∷ body) (string (take n body)) (n + 2) refl (quoted_front body n quote, string_front false body quote, IsUtf8-from_is_utf8 (take n body) valid.1, ap (begins three_quotes) (take-append-drop (n + 2) (34 ∷ body)) ∙ single))
    (λ _. found_fault (34 ∷ body))

-- ---- strings over lines
block_if : (c : ℕ) (cs : List ℕ) (x k y : Bool) → begins three_quotes (c ∷ cs) ≡ x → is_source c ≡ k → begins escaped_quotes (c ∷ cs) ≡ y → (block_length 0 (c ∷ cs) ≡ 0) ⊎ ((x ≡ false) × (k ≡ true))
unfolding block_length block_turn
block_if c cs true k y hx hk hy = inl (rw hx refl)
block_if c cs false false y hx hk hy = inl (rw (hx, hk) refl)
block_if c cs false true y hx hk hy = inr (refl, refl)

abbrev Closed : List ℕ → Type 0
Closed text = begins three_quotes (drop (block_length 0 text) text) ≡ true → IsBlockText (take (block_length 0 text) text)

block_empty : (text : List ℕ) → block_length 0 text ≡ 0 → IsBlockText (take (block_length 0 text) text)
block_empty text h = subst (λ n. IsBlockText (take n text)) (sym h) no_block_char

closed_escape : (r : List ℕ) → Closed r → Closed (92 ∷ 34 ∷ 34 ∷ 34 ∷ r)
closed_escape r more h =
    let n : block_length 0 (92 ∷ 34 ∷ 34 ∷ 34 ∷ r) ≡ suc (suc (suc (suc (block_length 0 r)))) = let k = block_escape r in omega arith in
    subst (λ m. IsBlockText (take m (92 ∷ 34 ∷ 34 ∷ 34 ∷ r))) (sym n) (escaped_block (more (subst (λ m. begins three_quotes (drop m (92 ∷ 34 ∷ 34 ∷ 34 ∷ r)) ≡ true) n h)))

closed_plain : (c : ℕ) (cs : List ℕ) → begins three_quotes (c ∷ cs) ≡ false → is_source c ≡ true → begins escaped_quotes (c ∷ cs) ≡ false → Closed cs → Closed (c ∷ cs)
closed_plain c cs hx hk hy more h =
    let m = block_length 0 cs in
    let n : block_length 0 (c ∷ cs) ≡ suc m = let k = block_plain c cs hk hx hy in omega arith in
    let end : begins three_quotes (drop m cs) ≡ true = subst (λ j. begins three_quotes (drop j (c ∷ cs)) ≡ true) n h in
    let whole : cs ≡ take m cs ++ (34 ∷ 34 ∷ 34 ∷ drop 3 (drop m cs)) = sym (take-append-drop m cs) ∙ ap (λ t. take m cs ++ t) (begins_split three_quotes (drop m cs) end) in
    let same = closing c (take m cs) (drop 3 (drop m cs)) in
    subst (λ j. IsBlockText (take j (c ∷ cs))) (sym n)
    (block_char hk (sym same.0 ∙ ap (λ t. begins three_quotes (c ∷ t)) (sym whole) ∙ hx) (sym same.1 ∙ ap (λ t. begins escaped_quotes (c ∷ t)) (sym whole) ∙ hy) (more end))

block_cases : (fuel : ℕ) (c : ℕ) (cs : List ℕ) (y : Bool) → length cs ≤ fuel → begins three_quotes (c ∷ cs) ≡ false → is_source c ≡ true → begins escaped_quotes (c ∷ cs) ≡ y → ((r : List ℕ) → length r ≤ fuel → Closed r) → Closed (c ∷ cs)
block_cases fuel c cs true l hx hk hy rec =
    let e : c ∷ cs ≡ 92 ∷ 34 ∷ 34 ∷ 34 ∷ drop 3 cs = begins_split escaped_quotes (c ∷ cs) hy in
    let short : length (drop 3 cs) ≤ fuel = let k = length-drop 3 cs in omega arith in
    subst Closed (sym e) (closed_escape (drop 3 cs) (rec (drop 3 cs) short))
block_cases fuel c cs false l hx hk hy rec = closed_plain c cs hx hk hy (rec cs l)

block_pick : (fuel : ℕ) (c : ℕ) (cs : List ℕ) → length cs ≤ fuel → (block_length 0 (c ∷ cs) ≡ 0) ⊎ ((begins three_quotes (c ∷ cs) ≡ false) × (is_source c ≡ true)) → ((r : List ℕ) → length r ≤ fuel → Closed r) → Closed (c ∷ cs)
block_pick fuel c cs l (inl z) rec h = block_empty (c ∷ cs) z
block_pick fuel c cs l (inr (hx, hk)) rec h = block_cases fuel c cs (begins escaped_quotes (c ∷ cs)) l hx hk refl rec h

block_none : block_length 0 [] ≡ 0
unfolding block_length
block_none = refl

block_front : (fuel : ℕ) (text : List ℕ) → length text ≤ fuel → Closed text
block_front fuel [] l h = block_empty [] block_none
block_front zero (c ∷ cs) l h = absurd (omega arith)
block_front (suc fuel) (c ∷ cs) l h =
    block_pick fuel c cs (omega arith) (block_if c cs (begins three_quotes (c ∷ cs)) (is_source c) (begins escaped_quotes (c ∷ cs)) refl refl refl) (λ r k. block_front fuel r k) h

three_after : (body : List ℕ) (n : ℕ) → begins three_quotes (drop n body) ≡ true → take (n + 6) (34 ∷ 34 ∷ 34 ∷ body) ≡ three_quotes ++ (take n body ++ three_quotes)
three_after body n h =
    let m : n + 6 ≡ suc (suc (suc (n + 3))) = omega arith in
    ap (λ k. take k (34 ∷ 34 ∷ 34 ∷ body)) m ∙ ap (λ t. 34 ∷ 34 ∷ 34 ∷ t) (take-add n 3 body ∙ ap (λ t. take n body ++ t) (ap (take 3) (begins_split three_quotes (drop n body) h)))

found_block : (body : List ℕ) → IsFront (34 ∷ 34 ∷ 34 ∷ body) (block_string_at (34 ∷ 34 ∷ 34 ∷ body))
unfolding block_string_at
found_block body =
    let n = block_length 0 body in
    let text = 34 ∷ 34 ∷ 34 ∷ body in
    found_if text ((nat_le n (length body) && is_utf8 (take n body)) && begins three_quotes (drop n body)) (block_string (take n body), n + 6) (fault, 0)
    (λ h. let parts = both_of (nat_le n (length body) && is_utf8 (take n body)) (begins three_quotes (drop n body)) h in
    let valid = both_of (nat_le n (length body)) (is_utf8 (take n body)) parts.0 in
    here text (block_string (take n body)) (n + 6) refl (three_after body n parts.1, block_front (length body) body (omega arith) parts.1, IsUtf8-from_is_utf8 (take n body) valid.1))
    (λ _. found_fault text)

found_triple : (text : List ℕ) → begins three_quotes text ≡ true → IsFront text (block_string_at text)
found_triple text h = subst (λ t. IsFront t (block_string_at t)) (sym (begins_split three_quotes text h)) (found_block (drop 3 text))

found_any_string : (cs : List ℕ) → IsFront (34 ∷ cs) (any_string_at (34 ∷ cs))
unfolding any_string_at
found_any_string cs = found_if (34 ∷ cs) (begins three_quotes (34 ∷ cs)) (block_string_at (34 ∷ cs)) (string_at (34 ∷ cs)) (λ h. found_triple (34 ∷ cs) h) (λ h. found_string cs h)

-- ---- punctuators
three_points : (text : List ℕ) → (((at text 0 == 46) && (at text 1 == 46)) && (at text 2 == 46)) ≡ true → take 3 text ≡ spelling Spread
three_points [] h = cc
three_points (a ∷ []) h = let parts = both_of ((a == 46) && false) false h in cc
three_points (a ∷ b ∷ []) h = let parts = both_of ((a == 46) && (b == 46)) false h in cc
three_points (a ∷ b ∷ c ∷ r) h =
    let parts = both_of ((a == 46) && (b == 46)) (c == 46) h in
    let first = both_of (a == 46) (b == 46) parts.0 in
    let x = point_is a first.0 in
    let y = point_is b first.1 in
    let z = point_is c parts.1 in
    cc

found_spread : (text : List ℕ) → IsFront text (spread_at text)
unfolding spread_at
found_spread text = found_if text (((at text 0 == 46) && (at text 1 == 46)) && (at text 2 == 46)) (punctuator Spread, 3) (fault, 0) (λ h. here text (punctuator Spread) 3 refl (three_points text h)) (λ _. found_fault text)

is_byte : (c k : ℕ) → (c == k) ≡ true → c ≡ k
is_byte c k h = grind (arith, nat_tests)

found_choice : (c : ℕ) (cs : List ℕ) (k : ℕ) (p : Punctuator) (b : Bool) (o : Option Punctuator) → spelling p ≡ k ∷ [] → (c == k) ≡ b → IsFront (c ∷ cs) (punctuator_token o) → IsFront (c ∷ cs) (punctuator_token (if b then Some p else o))
found_choice c cs k p true o s h more = here (c ∷ cs) (punctuator p) 1 refl (ap (λ x. x ∷ []) (is_byte c k h) ∙ sym s)
found_choice c cs k p false o s h more = more

found_punctuator : (c : ℕ) (cs : List ℕ) → IsFront (c ∷ cs) (punctuator_token (punctuator_of c))
unfolding punctuator_of
found_punctuator c cs =
    found_choice c cs 33 Bang (c == 33) _ refl refl
    (found_choice c cs 36 Dollar (c == 36) _ refl refl
    (found_choice c cs 38 Ampersand (c == 38) _ refl refl
    (found_choice c cs 40 ParenOpen (c == 40) _ refl refl
    (found_choice c cs 41 ParenClose (c == 41) _ refl refl
    (found_choice c cs 58 Colon (c == 58) _ refl refl
    (found_choice c cs 61 Equals (c == 61) _ refl refl
    (found_choice c cs 64 At (c == 64) _ refl refl
    (found_choice c cs 91 BracketOpen (c == 91) _ refl refl
    (found_choice c cs 93 BracketClose (c == 93) _ refl refl
    (found_choice c cs 123 BraceOpen (c == 123) _ refl refl
    (found_choice c cs 124 Pipe (c == 124) _ refl refl
    (found_choice c cs 125 BraceClose (c == 125) None refl refl (found_fault (c ∷ cs))))))))))))))

found_quote : (c : ℕ) (cs : List ℕ) → (c == 34) ≡ true → IsFront (c ∷ cs) (any_string_at (c ∷ cs))
found_quote c cs h = subst (λ x. IsFront (x ∷ cs) (any_string_at (x ∷ cs))) (sym (is_34 c h)) (found_any_string cs)

abbrev rest_4 : ℕ → List ℕ → Token × ℕ
rest_4 c cs = punctuator_token (punctuator_of c)

abbrev rest_3 : ℕ → List ℕ → Token × ℕ
rest_3 c cs = if is_name_start c then name_at (c ∷ cs) else rest_4 c cs

abbrev rest_2 : ℕ → List ℕ → Token × ℕ
rest_2 c cs = if (c == 45) || is_digit c then number_at (c ∷ cs) else rest_3 c cs

abbrev rest_1 : ℕ → List ℕ → Token × ℕ
rest_1 c cs = if c == 46 then spread_at (c ∷ cs) else rest_2 c cs

pub tokens_found : (text : List ℕ) → IsFront text (token_at text)
unfolding token_at
tokens_found [] = (λ e. cc, λ e. refl, λ e. refl)
tokens_found (c ∷ cs) =
    found_if (c ∷ cs) (c == 34) (any_string_at (c ∷ cs)) (rest_1 c cs) (λ h. found_quote c cs h)
    (λ _. found_if (c ∷ cs) (c == 46) (spread_at (c ∷ cs)) (rest_2 c cs) (λ _. found_spread (c ∷ cs))
    (λ _. found_if (c ∷ cs) ((c == 45) || is_digit c) (number_at (c ∷ cs)) (rest_3 c cs) (λ _. found_number (c ∷ cs))
    (λ _. found_if (c ∷ cs) (is_name_start c) (name_at (c ∷ cs)) (rest_4 c cs) (λ h. found_name c cs h)
    (λ _. found_punctuator c cs))))
