-- On one line a position goes on by as many columns as bytes.
use Rattle.std.proofs.Common.{◌≡◌, ◌≤◌, ◌+◌, ℕ, suc, List, [], ◌∷◌, Bool, true, false, ◌&&◌, ◌==◌, length, take, refl, sym, ap, ◌∙◌, arith}
use Rattle.std.proofs.lemmas.Bool.Decides.{nat_tests}
use Rattle.std.specs.List.{list_all}
use Rattle.std.proofs.lemmas.List.{length-take-le}
use Rattle.graphql_strings.proofs.Runs.{both}
use Rattle.graphql_lexer.specs.Lexical.{is_comment_char}
use Rattle.graphql_lexer.specs.Places.{after, after_all, along}
use Rattle.graphql_lexer.specs.declared.cursor.Cursor.{Cursor}

no_return : (c : ℕ) → is_comment_char c ≡ true → (c == 13) ≡ false
no_return c h = grind (arith, nat_tests)

no_feed : (c : ℕ) → is_comment_char c ≡ true → (c == 10) ≡ false
no_feed c h = grind (arith, nat_tests)

pub after_plain : (p : Cursor) (c : ℕ) → is_comment_char c ≡ true → after p c ≡ along p 1
unfolding after
after_plain p c h = rw (no_return c h, no_feed c h) refl

and_false : (b : Bool) → (b && false) ≡ false
and_false true = refl
and_false false = refl

both_stop : (n : ℕ) (b : Bool) → ((n == 0) && false) ≡ ((suc n == 0) && b)
both_stop n b = let no : (suc n == 0) ≡ false = grind (arith, nat_tests) in rw no (and_false (n == 0))

abbrev at_place : ℕ → ℕ → ℕ → Bool → Cursor
at_place i l c r = record { index = i; line = l; column = c; after_return = r }

same_place : (l i j c d : ℕ) (r s : Bool) → i ≡ j → c ≡ d → r ≡ s → at_place i l c r ≡ at_place j l d s
same_place l i j c d r s h k e = cc

along_none : (p : Cursor) → p ≡ along p 0
along_none p =
    let i : p.index ≡ p.index + 0 = omega arith in
    let j : p.column ≡ p.column + 0 = omega arith in
    same_place p.line p.index (p.index + 0) p.column (p.column + 0) p.after_return p.after_return i j refl

along_more : (p : Cursor) (n : ℕ) → along (along p 1) n ≡ along p (suc n)
along_more p n =
    let i : (p.index + 1) + n ≡ p.index + suc n = omega arith in
    let j : (p.column + 1) + n ≡ p.column + suc n = omega arith in
    same_place p.line ((p.index + 1) + n) (p.index + suc n) ((p.column + 1) + n) (p.column + suc n) ((n == 0) && false) ((suc n == 0) && p.after_return) i j (both_stop n p.after_return)

pub along_all : (p : Cursor) (s : List ℕ) → list_all is_comment_char s ≡ true → after_all p s ≡ along p (length s)
along_all p [] h = along_none p
along_all p (c ∷ cs) h =
    let parts = both (is_comment_char c) (list_all is_comment_char cs) h in
    along_all (after p c) cs parts.1 ∙ ap (λ q. along q (length cs)) (after_plain p c parts.0) ∙ along_more p (length cs)

pub along_front : (p : Cursor) (text : List ℕ) (n : ℕ) → n ≤ length text → list_all is_comment_char (take n text) ≡ true → along p n ≡ after_all p (take n text)
along_front p text n within h = sym (along_all p (take n text) h ∙ ap (along p) (length-take-le n text within))
