-- Texts whose characters are all printable.
use Rattle.std.proofs.Common.{◌≡◌, ◌∙◌, ◌+◌, ◌<◌, ◌≤◌, ◌/◌, ◌%◌, ◌==◌, ◌⊎◌, ◌&&◌, ℕ, zero, suc, Bool, List, [], ◌∷◌, ◌++◌, append-nil, ap, arith, codes, cond, false, inl, inr, leb-true, length, mod-lt, refl, replicate, subst, sym, true, true≢false}
use Rattle.std.proofs.Math.Utf8.{encode, encodes}
use Rattle.std.proofs.lemmas.Bool.Decides.{nat_tests}
use Rattle.std.proofs.lemmas.List.Elements.{All-append, All-cons, All-head, All-nil, All-replicate, All-tail, All-weaker}
use Rattle.std.proofs.lemmas.List.Sums.{AllPass-from_list_all}
use Rattle.std.proofs.lemmas.Str.{encode_ascii, encodes-append}
use Rattle.std.specs.Prelude.{nat_le, nat_lt}
use Rattle.std.specs.Fmt.{digit_glyph, digits, digits_onto}
use Rattle.std.specs.List.{All, list_all}
use Rattle.lint_report.specs.Lines.{IsPrintable}
use Rattle.lint_report.specs.Printable.{escape, is_printable, printed_all, printed_character}
use Rattle.lint_report.specs.Windows.{blank_for, blanks, columns}

-- two texts in a row
pub both_printable : (a b : List ℕ) → IsPrintable a → IsPrintable b → IsPrintable (a ++ b)
both_printable a b x y = record {
  characters = x.characters ++ y.characters;
  text_is = ap (λ t. t ++ b) x.text_is ∙ ap (λ t. encodes x.characters ++ t) y.text_is ∙ sym (encodes-append x.characters y.characters);
  all = All-append (λ c. is_printable c ≡ true) x.characters y.characters x.all y.all;
}

-- ---- printable ASCII

abbrev pub IsLow : ℕ → Type 0
IsLow c = (c ≡ 9) ⊎ ((32 ≤ c) × (c < 127))

middle_printable : (c : ℕ) → 32 ≤ c → c < 127 → is_printable c ≡ true
middle_printable c above below = grind (arith, nat_tests)

low_printable : (c : ℕ) → IsLow c → is_printable c ≡ true
low_printable c (inl tab) = subst (λ n. is_printable n ≡ true) (sym tab) refl
low_printable c (inr (above, below)) = middle_printable c above below

low_ascii : (c : ℕ) → IsLow c → c < 128
low_ascii c (inl tab) = omega (arith, tab)
low_ascii c (inr (above, below)) = omega (arith, below)

low_encodes : (text : List ℕ) → All IsLow text → text ≡ encodes text
low_encodes [] low = refl
low_encodes (c ∷ cs) low =
    ap (λ t. c ∷ t) (low_encodes cs (All-tail IsLow c cs low)) ∙ ap (λ e. e ++ encodes cs) (sym (encode_ascii c (low_ascii c (All-head IsLow c cs low))))

low_text : (text : List ℕ) → All IsLow text → IsPrintable text
low_text text low = record { characters = text; text_is = low_encodes text low; all = All-weaker IsLow (λ c. is_printable c ≡ true) low_printable text low }

-- a literal
abbrev pub is_middle : ℕ → Bool
is_middle c = nat_le 32 c && nat_le c 126

both : (p q : Bool) → (p && q) ≡ true → (p ≡ true) × (q ≡ true)
both true q h = (refl, h)
both false q h = absurd (true≢false (sym h))

middle_low : (c : ℕ) → is_middle c ≡ true → IsLow c
middle_low c h = let (above, below) = both (nat_le 32 c) (nat_le c 126) h in inr (leb-true 32 c above, let last = leb-true c 126 below in omega (arith, last))

pub literal : (text : List ℕ) → list_all is_middle text ≡ true → IsPrintable text
literal text all = low_text text (All-weaker (λ c. is_middle c ≡ true) IsLow middle_low text (AllPass-from_list_all is_middle text all))

-- ---- digits

glyph_low : (d : ℕ) → d < 16 → IsLow (digit_glyph false d)
glyph_low d small = by (nat_lt d 10)
  where
    by : (b : Bool) → IsLow (cond b (48 + d) (87 + d))
    by true = inr (omega arith, omega (arith, small))
    by false = inr (omega arith, omega (arith, small))

either_low : (b : Bool) (xs ys : List ℕ) → All IsLow xs → All IsLow ys → All IsLow (cond b xs ys)
either_low true xs ys p q = p
either_low false xs ys p q = q

onto_low : (k base n : ℕ) (acc : List ℕ) → 0 < base → base ≤ 16 → All IsLow acc → All IsLow (digits_onto k base false n acc)
onto_low zero base n acc some small low = low
onto_low (suc k) base n acc some small low =
    let more = All-cons IsLow (digit_glyph false (n % base)) acc (glyph_low (n % base) (let m = mod-lt n some in omega (arith, m, small))) low in
    either_low (n / base == 0) _ _ more (onto_low k base (n / base) _ some small more)

pub digits_printable : (base n : ℕ) → 0 < base → base ≤ 16 → IsPrintable (digits base false n)
unfolding digits
digits_printable base n some small = low_text (digits_onto 64 base false n []) (onto_low 64 base n [] some small (All-nil IsLow))

-- ---- characters

escape_printable : (c : ℕ) → IsPrintable (escape c)
escape_printable c =
    both_printable (codes "\\u{") (digits 16 false c ++ codes "}") (literal (codes "\\u{") refl)
    (both_printable (digits 16 false c) (codes "}") (digits_printable 16 c (omega arith) (omega arith)) (literal (codes "}") refl))

pub character_printable : (c : ℕ) → IsPrintable (printed_character c)
character_printable c = by (is_printable c) refl
  where
    by : (b : Bool) → is_printable c ≡ b → IsPrintable (cond b (encode c) (escape c))
    by true is = record { characters = c ∷ []; text_is = sym (append-nil (encode c)); all = All-cons (λ d. is_printable d ≡ true) c [] is (All-nil (λ d. is_printable d ≡ true)) }
    by false is = escape_printable c

pub all_printable : (cs : List ℕ) → IsPrintable (printed_all cs)
all_printable [] = literal [] refl
all_printable (c ∷ cs) = both_printable (printed_character c) (printed_all cs) (character_printable c) (all_printable cs)

-- ---- blanks

blank_low : (c : ℕ) → All IsLow (blank_for c)
blank_low c = either_low (c == 9) (9 ∷ []) (replicate (columns c) 32) (All-cons IsLow 9 [] (inl refl) (All-nil IsLow)) (All-replicate IsLow (columns c) 32 (inr (omega arith, omega arith)))

pub blanks_printable : (cs : List ℕ) → IsPrintable (blanks cs)
blanks_printable [] = literal [] refl
blanks_printable (c ∷ cs) = both_printable (blank_for c) (blanks cs) (low_text (blank_for c) (blank_low c)) (blanks_printable cs)
