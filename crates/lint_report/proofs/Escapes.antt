-- How long escapes are.
use Rattle.std.proofs.Common.{◌≡◌, ◌∙◌, ◌+◌, ◌<◌, ◌≤◌, ◌/◌, ◌%◌, ℕ, suc, List, [], ◌∷◌, ap, arith, codes, cond, eq-eqb, false, length, length-append, ne_eqb}
use Rattle.std.proofs.lemmas.Fmt.{hex_one_digit, hex_two_digits}
use Rattle.std.specs.Fmt.{digit_glyph, digits, digits_onto}
use Rattle.std.proofs.lemmas.Bool.Decides.{nat_tests}
use Rattle.lint_report.specs.Printable.{escape, is_printable}

-- one digit of a number, and the last one
digits_step : (k n : ℕ) (acc : List ℕ) → 16 ≤ n → digits_onto (suc k) 16 false n acc ≡ digits_onto k 16 false (n / 16) (digit_glyph false (n % 16) ∷ acc)
digits_step k n acc large = ap (λ b. cond b (digit_glyph false (n % 16) ∷ acc) (digits_onto k 16 false (n / 16) (digit_glyph false (n % 16) ∷ acc))) (ne_eqb (n / 16) 0 (λ none. omega (arith, none)))

digits_last : (k n : ℕ) (acc : List ℕ) → n < 16 → digits_onto (suc k) 16 false n acc ≡ digit_glyph false (n % 16) ∷ acc
digits_last k n acc small = ap (λ b. cond b (digit_glyph false (n % 16) ∷ acc) (digits_onto k 16 false (n / 16) (digit_glyph false (n % 16) ∷ acc))) (eq-eqb (n / 16) 0 (omega arith))

three_digits : (n : ℕ) → 0x100 ≤ n → n < 0x1000 → length (digits 16 false n) ≡ 3
unfolding digits
three_digits n large small = ap length (digits_step 63 n [] (omega arith) ∙ digits_step 62 (n / 16) _ (omega arith) ∙ digits_last 61 (n / 16 / 16) _ (omega arith))

four_digits : (n : ℕ) → 0x1000 ≤ n → n < 0x10000 → length (digits 16 false n) ≡ 4
unfolding digits
four_digits n large small = ap length (digits_step 63 n [] (omega arith) ∙ digits_step 62 (n / 16) _ (omega arith) ∙ digits_step 61 (n / 16 / 16) _ (omega arith) ∙ digits_last 60 (n / 16 / 16 / 16) _ (omega arith))

-- with what stands round the digits
with_frame : (n k : ℕ) → length (digits 16 false n) ≡ k → length (escape n) ≡ 4 + k
with_frame n k is = let framed = length-append (digits 16 false n) (codes "}") in omega (arith, framed, is)

pub escape_one : (n : ℕ) → n < 0x10 → length (escape n) ≡ 5
escape_one n small = with_frame n 1 (ap length (hex_one_digit false n small))

pub escape_two : (n : ℕ) → 0x10 ≤ n → n < 0x100 → length (escape n) ≡ 6
escape_two n large small = with_frame n 2 (ap length (hex_two_digits false n large small))

pub escape_three : (n : ℕ) → 0x100 ≤ n → n < 0x1000 → length (escape n) ≡ 7
escape_three n large small = with_frame n 3 (three_digits n large small)

pub escape_four : (n : ℕ) → 0x1000 ≤ n → n < 0x10000 → length (escape n) ≡ 8
escape_four n large small = with_frame n 4 (four_digits n large small)

-- no other character has an escape
pub hidden_small : (n : ℕ) → is_printable n ≡ false → n < 0x10000
hidden_small n hidden = grind (arith, nat_tests)
