-- Numbers are read as the grammar writes them.
use Rattle.std.proofs.Common.{◌≡◌, ◌<◌, ◌+◌, inl, inr, ℕ, List, [], ◌∷◌, ◌++◌, true, false, ◌||◌, ◌==◌, if◌then◌else◌, length, drop, refl, sym, subst, ◌∙◌, zero-add, arith, Some, ap, append_assoc, length-append}
use Rattle.std.proofs.lemmas.Bool.Decides.{nat_tests}
use Rattle.std.specs.List.{list_all}
use Rattle.std.specs.Str.{IsAscii}
use Rattle.std.proofs.lemmas.Str.Ascii.{IsAscii-nil, IsAscii-cons}
use Rattle.std.proofs.lemmas.Str.{IsAscii-append}
use Rattle.std.proofs.Math.Seq.{drop-append_seam, drop-append-add}
use Rattle.graphql_strings.specs.Characters.{at}
use Rattle.graphql_strings.proofs.Runs.{both, run_length}
use Rattle.graphql_lexer.specs.Lexical.{Token, int, float, fault, is_digit, is_sign, is_indicator, is_number_byte, IsDigits, IsWhole, IsIntegerPart, IsFraction, IsExponent, IsFloat, EndsNumber}
use Rattle.graphql_lexer.specs.Scanning.{digits, sign_length, whole_length, fraction, exponent, and_then, number_of, number_at, token_at}
use Rattle.graphql_lexer.proofs.Names.{all_ascii, written_there, number_first}

not_digit : (c : ℕ) → is_number_byte c ≡ false → is_digit c ≡ false
not_digit c h = grind (arith, nat_tests)

not_point : (c : ℕ) → is_number_byte c ≡ false → (c == 46) ≡ false
not_point c h = grind (arith, nat_tests)

not_indicator : (c : ℕ) → is_number_byte c ≡ false → is_indicator c ≡ false
not_indicator c h = grind (arith, nat_tests)

indicator_no_digit : (c : ℕ) → is_indicator c ≡ true → is_digit c ≡ false
indicator_no_digit c h = grind (arith, nat_tests)

indicator_no_point : (c : ℕ) → is_indicator c ≡ true → (c == 46) ≡ false
indicator_no_point c h = grind (arith, nat_tests)

digit_no_plus : (c : ℕ) → is_digit c ≡ true → is_sign c ≡ false
digit_no_plus c h = grind (arith, nat_tests)

digit_ascii : (c : ℕ) → is_digit c ≡ true → c < 128
digit_ascii c h = grind (arith, nat_tests)

sign_ascii : (c : ℕ) → is_sign c ≡ true → c < 128
sign_ascii c h = grind (arith, nat_tests)

indicator_ascii : (c : ℕ) → is_indicator c ≡ true → c < 128
indicator_ascii c h = grind (arith, nat_tests)

-- digits before what is none
digits_read : (s r : List ℕ) → IsDigits s → is_digit (at r 0) ≡ false → digits (s ++ r) ≡ length s
digits_read s r (some, all) e = run_length is_digit s r all e

some_digits : (s : List ℕ) → IsDigits s → (length s == 0) ≡ false
some_digits s (some, all) = grind (arith, nat_tests)

digits_first : (c : ℕ) (cs : List ℕ) → IsDigits (c ∷ cs) → is_digit c ≡ true
digits_first c cs (some, all) = (both (is_digit c) (list_all is_digit cs) all).0

digits_ascii : (s : List ℕ) → IsDigits s → IsAscii s
digits_ascii s (some, all) = all_ascii is_digit digit_ascii s all

-- ---- FractionalPart, where it stands and where none does
pub fraction_read : (f r : List ℕ) → IsFraction f → is_digit (at r 0) ≡ false → fraction (f ++ r) ≡ Some (length f)
unfolding fraction
fraction_read f r (d, same, h) e =
    let k = digits_read d r h e in
    let n : (length d == 0) ≡ false = some_digits d h in
    rw (same, k, n) (ap Some (omega arith))

pub no_fraction : (r : List ℕ) → (at r 0 == 46) ≡ false → fraction r ≡ Some 0
unfolding fraction
no_fraction r h = rw h refl

-- ---- ExponentPart
exponent_signed : (i c : ℕ) (d r : List ℕ) → is_indicator i ≡ true → is_sign c ≡ true → IsDigits d → is_digit (at r 0) ≡ false → exponent (i ∷ c ∷ (d ++ r)) ≡ Some (length (i ∷ c ∷ d))
unfolding exponent
exponent_signed i c d r p q h e =
    let k = digits_read d r h e in
    let n : (length d == 0) ≡ false = some_digits d h in
    rw (p, q, k, n) (ap Some (omega arith))

exponent_plain : (i : ℕ) (d r : List ℕ) → is_indicator i ≡ true → IsDigits d → is_digit (at r 0) ≡ false → exponent (i ∷ (d ++ r)) ≡ Some (length (i ∷ d))
unfolding exponent
exponent_plain i [] r p (some, all) e = absurd (omega arith)
exponent_plain i (c ∷ cs) r p h e =
    let k = digits_read (c ∷ cs) r h e in
    let n : (length (c ∷ cs) == 0) ≡ false = some_digits (c ∷ cs) h in
    let s : is_sign c ≡ false = digit_no_plus c (digits_first c cs h) in
    rw (p, s, k, n) (ap Some (omega arith))

pub exponent_read : (x r : List ℕ) → IsExponent x → is_digit (at r 0) ≡ false → exponent (x ++ r) ≡ Some (length x)
exponent_read x r (i, t, same, p, inl h) e = rw same (exponent_plain i t r p h e)
exponent_read x r (i, t, same, p, inr (c, d, more, q, h)) e = rw (same, more) (exponent_signed i c d r p q h e)

pub no_exponent : (r : List ℕ) → is_indicator (at r 0) ≡ false → exponent r ≡ Some 0
unfolding exponent
no_exponent r h = rw h refl

-- ---- 0, or digits that a 0 does not begin
pub whole_read : (s r : List ℕ) → IsWhole s → is_digit (at r 0) ≡ false → whole_length (s ++ r) ≡ length s
unfolding whole_length
whole_read s r (inl zero) e = subst (λ t. (if at (t ++ r) 0 == 48 then 1 else digits (t ++ r)) ≡ length t) (sym zero) refl
whole_read [] r (inr ((some, all), h)) e = absurd (omega arith)
whole_read (c ∷ cs) r (inr ((some, all), h)) e =
    let other : (c == 48) ≡ false = grind (arith, nat_tests) in
    rw other (run_length is_digit (c ∷ cs) r all e)

whole_ascii : (s : List ℕ) → IsWhole s → IsAscii s
whole_ascii s (inl zero) = subst IsAscii (sym zero) (IsAscii-cons 48 [] (omega arith) IsAscii-nil)
whole_ascii s (inr (h, k)) = digits_ascii s h

whole_some : (s : List ℕ) → IsWhole s → 0 < length s
whole_some s (inl zero) = rw zero (omega arith)
whole_some s (inr ((some, all), h)) = some

whole_first : (c : ℕ) (cs : List ℕ) → IsWhole (c ∷ cs) → is_digit c ≡ true
whole_first c cs (inl zero) = let same : c ≡ 48 = cc in rw same refl
whole_first c cs (inr (h, k)) = digits_first c cs h

-- ---- all parts
at_seam : (s r : List ℕ) → at (s ++ r) (length s) ≡ at r 0
at_seam [] r = refl
at_seam (c ∷ cs) r = at_seam cs r

ends_int : (s r : List ℕ) → IsAscii s → EndsNumber r → number_of (s ++ r) (length s) (length s) ≡ (int s, length s)
unfolding number_of
ends_int s r a e =
    let ends : is_number_byte (at (s ++ r) (length s)) ≡ false = rw (at_seam s r) e in
    let same : (length s == length s) ≡ true = grind (arith, nat_tests) in
    rw (ends, same) (written_there int s r (length s) a refl)

ends_float : (s r : List ℕ) (whole : ℕ) → whole < length s → IsAscii s → EndsNumber r → number_of (s ++ r) (length s) whole ≡ (float s, length s)
unfolding number_of
ends_float s r whole less a e =
    let ends : is_number_byte (at (s ++ r) (length s)) ≡ false = rw (at_seam s r) e in
    let other : (length s == whole) ≡ false = grind (arith, nat_tests) in
    rw (ends, other) (written_there float s r (length s) a refl)

abbrev from : List ℕ → ℕ → ℕ → Token × ℕ
from text sign whole =
    if whole == sign then (fault, 0)
    else and_then (fraction (drop whole text)) whole (λ mantissa. and_then (exponent (drop mantissa text)) mantissa (λ n. number_of text n whole))

number_from : (text : List ℕ) (sign whole : ℕ) → sign_length text ≡ sign → sign + whole_length (drop sign text) ≡ whole → number_at text ≡ from text sign whole
unfolding number_at
number_from text sign whole p q =
    subst (λ w. number_at text ≡ from text sign w) q
    (subst (λ k. number_at text ≡ from text k (k + whole_length (drop k text))) p refl)

drop_two : (i f y : List ℕ) → drop (length i + length f) (i ++ (f ++ y)) ≡ y
drop_two i f y = drop-append-add i (f ++ y) (length f) ∙ drop-append_seam f y

parts_read : (i f e r : List ℕ) (sign : ℕ) → sign < length i → fraction (f ++ (e ++ r)) ≡ Some (length f) → exponent (e ++ r) ≡ Some (length e) → from (i ++ (f ++ (e ++ r))) sign (length i) ≡ number_of (i ++ (f ++ (e ++ r))) (length i + length f + length e) (length i)
parts_read i f e r sign some p q =
    let more : (length i == sign) ≡ false = grind (arith, nat_tests) in
    rw (more, drop-append_seam i (f ++ (e ++ r)), p, drop_two i f (e ++ r), q) refl

digit_no_sign : (c : ℕ) → is_digit c ≡ true → (c == 45) ≡ false
digit_no_sign c h = grind (arith, nat_tests)

digit_no_quote : (c : ℕ) → is_digit c ≡ true → (c == 34) ≡ false
digit_no_quote c h = grind (arith, nat_tests)

digit_no_dot : (c : ℕ) → is_digit c ≡ true → (c == 46) ≡ false
digit_no_dot c h = grind (arith, nat_tests)

digit_number : (c : ℕ) → is_digit c ≡ true → ((c == 45) || is_digit c) ≡ true
digit_number c h = grind (arith, nat_tests)

no_sign : (c : ℕ) (cs : List ℕ) → is_digit c ≡ true → sign_length (c ∷ cs) ≡ 0
unfolding sign_length
no_sign c cs h = rw (digit_no_sign c h) refl

sign_there : (cs : List ℕ) → sign_length (45 ∷ cs) ≡ 1
unfolding sign_length
sign_there cs = refl

-- an IntegerPart, and what it leads to
abbrev Leads : List ℕ → List ℕ → Type 0
Leads i x = (sign : ℕ) × (sign < length i) × (token_at (i ++ x) ≡ from (i ++ x) sign (length i))

leads : (i x : List ℕ) → IsIntegerPart i → is_digit (at x 0) ≡ false → Leads i x
leads [] x (inl h) e = absurd (let some = whole_some [] h in omega arith)
leads (c ∷ cs) x (inl h) e =
    let d = whole_first c cs h in (
      0,
      omega arith,
      number_first c (cs ++ x) (digit_no_quote c d) (digit_no_dot c d) (digit_number c d)
          ∙ number_from ((c ∷ cs) ++ x) 0 (length (c ∷ cs)) (no_sign c (cs ++ x) d) (zero-add _ ∙ whole_read (c ∷ cs) x h e),
    )
leads i x (inr (w, same, h)) e =
    let some = whole_some w h in
    let k = whole_read w x h e in
    let there : Leads (45 ∷ w) x = (1, omega arith, number_first 45 (w ++ x) refl refl refl ∙ number_from ((45 ∷ w) ++ x) 1 (length (45 ∷ w)) (sign_there (w ++ x)) (omega arith)) in
    subst (λ j. Leads j x) (sym same) there

integer_ascii : (i : List ℕ) → IsIntegerPart i → IsAscii i
integer_ascii i (inl h) = whole_ascii i h
integer_ascii i (inr (w, same, h)) = subst IsAscii (sym same) (IsAscii-cons 45 w (omega arith) (whole_ascii w h))

-- the number i f e, read to its end
whole_number : (i f e r : List ℕ) → Leads i (f ++ (e ++ r)) → fraction (f ++ (e ++ r)) ≡ Some (length f) → exponent (e ++ r) ≡ Some (length e) → token_at (i ++ (f ++ (e ++ r))) ≡ number_of (i ++ (f ++ (e ++ r))) (length i + length f + length e) (length i)
whole_number i f e r (sign, some, there) p q = there ∙ parts_read i f e r sign some p q

regroup : (i f e r : List ℕ) → (i ++ (f ++ e)) ++ r ≡ i ++ (f ++ (e ++ r))
regroup i f e r = simp append_assoc

lengths : (i f e : List ℕ) → length (i ++ (f ++ e)) ≡ length i + length f + length e
lengths i f e = let a = length-append i (f ++ e) in let b = length-append f e in omega arith

pub ints_read : (s r : List ℕ) → IsIntegerPart s → EndsNumber r → token_at (s ++ r) ≡ (int s, length s)
ints_read s r h e =
    let p : fraction ([] ++ ([] ++ r)) ≡ Some 0 = no_fraction r (not_point (at r 0) e) in
    let q : exponent ([] ++ r) ≡ Some 0 = no_exponent r (not_indicator (at r 0) e) in
    let n : length s + 0 + 0 ≡ length s = omega arith in
    whole_number s [] [] r (leads s r h (not_digit (at r 0) e)) p q
    ∙ ap (λ k. number_of (s ++ r) k (length s)) n
    ∙ ends_int s r (integer_ascii s h) e

float_from : (i f e r : List ℕ) → IsIntegerPart i → IsAscii f → IsAscii e → 0 < length f + length e → Leads i (f ++ (e ++ r)) → fraction (f ++ (e ++ r)) ≡ Some (length f) → exponent (e ++ r) ≡ Some (length e) → EndsNumber r → token_at ((i ++ (f ++ e)) ++ r) ≡ (float (i ++ (f ++ e)), length (i ++ (f ++ e)))
float_from i f e r hi af ae some l p q ends =
    let n = lengths i f e in
    let less : length i < length (i ++ (f ++ e)) = omega arith in
    let ascii = IsAscii-append i (f ++ e) (integer_ascii i hi) (IsAscii-append f e af ae) in
    ap token_at (regroup i f e r) ∙ whole_number i f e r l p q
    ∙ ap (λ t. number_of t (length i + length f + length e) (length i)) (sym (regroup i f e r))
    ∙ ap (λ k. number_of ((i ++ (f ++ e)) ++ r) k (length i)) (sym n)
    ∙ ends_float (i ++ (f ++ e)) r (length i) less ascii ends

fraction_ascii : (f : List ℕ) → IsFraction f → IsAscii f
fraction_ascii f (d, same, h) = subst IsAscii (sym same) (IsAscii-cons 46 d (omega arith) (digits_ascii d h))

exponent_ascii : (x : List ℕ) → IsExponent x → IsAscii x
exponent_ascii x (i, t, same, p, inl h) = subst IsAscii (sym same) (IsAscii-cons i t (indicator_ascii i p) (digits_ascii t h))
exponent_ascii x (i, t, same, p, inr (c, d, more, q, h)) =
    subst IsAscii (sym same) (IsAscii-cons i t (indicator_ascii i p) (subst IsAscii (sym more) (IsAscii-cons c d (sign_ascii c q) (digits_ascii d h))))

-- what follows is no digit
point_first : (f r : List ℕ) → IsFraction f → is_digit (at (f ++ r) 0) ≡ false
point_first f r (d, same, h) = rw same refl

indicator_first : (x r : List ℕ) → IsExponent x → is_indicator (at (x ++ r) 0) ≡ true
indicator_first x r (i, t, same, p, h) = rw same p

fraction_some : (f : List ℕ) → IsFraction f → 0 < length f
fraction_some f (d, same, h) = rw same (omega arith)

exponent_some : (x : List ℕ) → IsExponent x → 0 < length x
exponent_some x (i, t, same, p, h) = rw same (omega arith)

pub floats_read : (s r : List ℕ) → IsFloat s → EndsNumber r → token_at (s ++ r) ≡ (float s, length s)
floats_read s r (i, f, e, same, hi, inl (hf, he)) ends =
    let d = indicator_no_digit (at (e ++ r) 0) (indicator_first e r he) in
    let some = fraction_some f hf in
    subst (λ t. token_at (t ++ r) ≡ (float t, length t)) (sym same)
    (float_from i f e r hi (fraction_ascii f hf) (exponent_ascii e he) (omega arith) (leads i (f ++ (e ++ r)) hi (point_first f (e ++ r) hf)) (fraction_read f (e ++ r) hf d) (exponent_read e r he (not_digit (at r 0) ends)) ends)
floats_read s r (i, f, e, same, hi, inr (inl (hf, none))) ends =
    let d = not_digit (at r 0) ends in
    let some = fraction_some f hf in
    subst (λ t. token_at (t ++ r) ≡ (float t, length t)) (sym (same ∙ ap (λ x. i ++ (f ++ x)) none))
    (float_from i f [] r hi (fraction_ascii f hf) IsAscii-nil (omega arith) (leads i (f ++ r) hi (point_first f r hf)) (fraction_read f r hf d) (no_exponent r (not_indicator (at r 0) ends)) ends)
floats_read s r (i, f, e, same, hi, inr (inr (none, he))) ends =
    let first = indicator_first e r he in
    let some = exponent_some e he in
    subst (λ t. token_at (t ++ r) ≡ (float t, length t)) (sym (same ∙ ap (λ x. i ++ (x ++ e)) none))
    (float_from i [] e r hi IsAscii-nil (exponent_ascii e he) (omega arith) (leads i (e ++ r) hi (indicator_no_digit (at (e ++ r) 0) first)) (no_fraction (e ++ r) (indicator_no_point (at (e ++ r) 0) first)) (exponent_read e r he (not_digit (at r 0) ends)) ends)
