-- Texts of several lines whose characters are printable.
use Rattle.std.proofs.Common.{◌≡◌, ◌∙◌, ◌==◌, ◌||◌, ℕ, Bool, List, [], ◌∷◌, ◌++◌, append-nil, ap, arith, codes, cond, false, refl, sym, true}
use Rattle.std.proofs.Math.Utf8.{encode, encodes}
use Rattle.std.proofs.lemmas.List.Elements.{All-append, All-cons, All-nil, All-weaker}
use Rattle.std.proofs.lemmas.Str.{encode_ascii, encodes-append}
use Rattle.std.specs.Prelude.{nat_lt}
use Rattle.std.specs.Fmt.{digits}
use Rattle.std.specs.List.{flat_map}
use Rattle.lint_report.specs.JsonEscapes.{escape, escaped_character, zeros}
use Rattle.lint_report.specs.Lines.{IsPrintable, IsPrintableInLines}
use Rattle.lint_report.specs.Printable.{is_printable, printed_character, printed_in_lines}
use Rattle.lint_report.proofs.PrintableTexts.{both_printable, character_printable, digits_printable, literal}

abbrev IsInLines : ℕ → Type 0
IsInLines c = (c == 10 || is_printable c) ≡ true

or_right : (p q : Bool) → q ≡ true → (p || q) ≡ true
or_right true q is = refl
or_right false q is = is

in_lines : (text : List ℕ) → IsPrintable text → IsPrintableInLines text
in_lines text h = record {
  characters = h.characters;
  text_is = h.text_is;
  all = All-weaker (λ c. is_printable c ≡ true) IsInLines (λ c is. or_right (c == 10) (is_printable c) is) h.characters h.all;
}

none_in_lines : IsPrintableInLines []
none_in_lines = record { characters = []; text_is = refl; all = All-nil IsInLines }

both_in_lines : (a b : List ℕ) → IsPrintableInLines a → IsPrintableInLines b → IsPrintableInLines (a ++ b)
both_in_lines a b x y = record {
  characters = x.characters ++ y.characters;
  text_is = ap (λ t. t ++ b) x.text_is ∙ ap (λ t. encodes x.characters ++ t) y.text_is ∙ sym (encodes-append x.characters y.characters);
  all = All-append IsInLines x.characters y.characters x.all y.all;
}

-- ---- a text with line feeds

printed_one : (c : ℕ) → IsPrintableInLines (printed_in_lines c)
printed_one c = by (c == 10)
  where
    by : (b : Bool) → IsPrintableInLines (cond b (10 ∷ []) (printed_character c))
    by true = record { characters = 10 ∷ []; text_is = sym (ap (λ e. e ++ []) (encode_ascii 10 (omega arith))); all = All-cons IsInLines 10 [] refl (All-nil IsInLines) }
    by false = in_lines (printed_character c) (character_printable c)

pub printed_in_lines_all : (cs : List ℕ) → IsPrintableInLines (flat_map printed_in_lines cs)
printed_in_lines_all [] = none_in_lines
printed_in_lines_all (c ∷ cs) = both_in_lines (printed_in_lines c) (flat_map printed_in_lines cs) (printed_one c) (printed_in_lines_all cs)

-- ---- JSON

either_printable : (b : Bool) (x y : List ℕ) → IsPrintable x → IsPrintable y → IsPrintable (cond b x y)
either_printable true x y p q = p
either_printable false x y p q = q

zeros_printable : (c : ℕ) → IsPrintable (zeros c)
zeros_printable c =
    either_printable (nat_lt c 0x10) (codes "000") _ (literal (codes "000") refl)
    (either_printable (nat_lt c 0x100) (codes "00") _ (literal (codes "00") refl) (either_printable (nat_lt c 0x1000) (codes "0") [] (literal (codes "0") refl) (literal [] refl)))

escape_printable : (c : ℕ) → IsPrintable (escape c)
escape_printable c =
    both_printable (codes "\\u") (zeros c ++ digits 16 false c) (literal (codes "\\u") refl)
    (both_printable (zeros c) (digits 16 false c) (zeros_printable c) (digits_printable 16 c (omega arith) (omega arith)))

escaped_one : (c : ℕ) → IsPrintableInLines (escaped_character c)
escaped_one c = by (c == 10 || is_printable c) refl
  where
    by : (b : Bool) → (c == 10 || is_printable c) ≡ b → IsPrintableInLines (cond b (encode c) (escape c))
    by true is = record { characters = c ∷ []; text_is = sym (append-nil (encode c)); all = All-cons IsInLines c [] is (All-nil IsInLines) }
    by false is = in_lines (escape c) (escape_printable c)

pub escaped_all : (cs : List ℕ) → IsPrintableInLines (flat_map escaped_character cs)
escaped_all [] = none_in_lines
escaped_all (c ∷ cs) = both_in_lines (escaped_character c) (flat_map escaped_character cs) (escaped_one c) (escaped_all cs)
