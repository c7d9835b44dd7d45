-- Where a line ends, a character does, and where it ends is found; and each byte of ASCII is a character.
use Rattle.std.proofs.Common.{◌≡◌, ◌∙◌, ◌+◌, ◌<◌, ◌≤◌, ◌||◌, ◌&&◌, ℕ, zero, suc, Bool, List, None, Some, ap, false, get_or, length, not, take, true, arith, refl, sym}
use Rattle.std.proofs.lemmas.Bool.Decides.{nat_tests}
use Rattle.std.proofs.lemmas.List.{take_all}
use Rattle.std.proofs.lemmas.List.Sums.{count_by_more_yes, prefix_len-le-length, prefix_len_is, prefix_len_stops}
use Rattle.memchr.specs.Find.{IsFirstByte, is_byte2}
use Rattle.std.specs.List.{count_by, prefix_len}
use Rattle.std.specs.Str.{IsAscii, IsCharBoundary}
use Rattle.lint_sources.specs.ShownLines.{begins_character, is_in_line}

-- the byte that ends a line is a whole character
line_end_small : (byte : ℕ) → is_in_line byte ≡ false → byte < 128
line_end_small byte ends = grind (arith, nat_tests)

low_or_high : (byte : ℕ) → is_in_line byte ≡ false → 128 ≤ byte → 192 ≤ byte
low_or_high byte ends high = let small = line_end_small byte ends in omega arith

pub line_end_boundary : (text : List ℕ) → IsCharBoundary text (prefix_len is_in_line text)
line_end_boundary text = (prefix_len-le-length is_in_line text, λ within high. low_or_high _ (prefix_len_stops is_in_line text 0 within) high)

-- a byte ends a line, or is in it
ends_or_not : (feed return : Bool) → (feed || return) ≡ true → (not feed && not return) ≡ false
ends_or_not true return ends = refl
ends_or_not false true ends = refl
ends_or_not false false ends = cc

in_or_not : (feed return : Bool) → ((feed || return) ≡ true → ⊥) → (not feed && not return) ≡ true
in_or_not true return stays = absurd (stays refl)
in_or_not false true stays = absurd (stays refl)
in_or_not false false stays = refl

-- the first byte that ends a line
pub end_found : (text : List ℕ) (n : ℕ) → IsFirstByte (is_byte2 10 13) text (Some n) → n ≡ prefix_len is_in_line text
end_found text n (first, ends) =
    sym (prefix_len_is is_in_line text n 0 (omega (arith, first.high))
    (λ k before. in_or_not _ _ (first.before k (omega arith) before)) (λ within. ends_or_not _ _ ends))

-- none does
pub no_end : (text : List ℕ) → IsFirstByte (is_byte2 10 13) text None → length text ≡ prefix_len is_in_line text
no_end text none =
    sym (prefix_len_is is_in_line text (length text) 0 (omega arith) (λ k before. in_or_not _ _ (none k (omega arith) before)) (λ over. absurd (omega (arith, over))))

-- a byte of ASCII begins a character
ascii_begins : (byte : ℕ) → byte < 128 → begins_character byte ≡ true
ascii_begins byte small = grind (arith, nat_tests)

so_many_begin : (text : List ℕ) (n : ℕ) → IsAscii text → n ≤ length text → count_by begins_character (take n text) ≡ n
so_many_begin text zero ascii within = refl
so_many_begin text (suc n) ascii within =
    let more = count_by_more_yes begins_character text n 0 (omega (arith, within)) (ascii_begins (get_or text n 0) (ascii n)) in
    let next : count_by begins_character (take (n + 1) text) ≡ n + 1 = more ∙ ap (λ k. k + 1) (so_many_begin text n ascii (omega (arith, within))) in
    let on : n + 1 ≡ suc n = omega arith in
    ap (λ k. count_by begins_character (take k text)) (sym on) ∙ next ∙ on

-- so each byte of a text of ASCII does
pub all_begin : (text : List ℕ) → IsAscii text → length text ≡ count_by begins_character text
all_begin text ascii = sym (ap (count_by begins_character) (sym (take_all (length text) text (omega arith))) ∙ so_many_begin text (length text) ascii (omega arith))
