-- Behind an ignored token the next token is the same, at the same place.
use Rattle.std.proofs.Common.{◌≡◌, ◌<◌, ◌+◌, inl, inr, ℕ, zero, suc, List, [], ◌∷◌, ◌++◌, ◌&&◌, ◌||◌, ◌==◌, ◌⊎◌, not, nat_eq, true, false, length, take, drop, refl, sym, ap, subst, ◌∙◌, arith, length-drop}
use Rattle.std.proofs.lemmas.Bool.Decides.{nat_tests}
use Rattle.std.specs.List.{list_all}
use Rattle.std.proofs.lemmas.List.{drop-drop}
use Rattle.std.proofs.lemmas.List.Sums.{fold-append}
use Rattle.std.proofs.Math.Seq.{take-add}
use Rattle.graphql_strings.specs.Characters.{at, is_line_end}
use Rattle.graphql_lexer.specs.Lexical.{is_blank, is_comment_char, IsIgnored}
use Rattle.graphql_lexer.specs.Places.{after, after_all, along, Counts}
use Rattle.graphql_lexer.specs.Scan.{gap, Passes}
use Rattle.graphql_lexer.specs.Scanning.{ignored_at}
use Rattle.graphql_lexer.specs.declared.cursor.Cursor.{Cursor}
use Rattle.graphql_lexer.proofs.Along.{along_front}
use Rattle.graphql_lexer.proofs.Passed.{skip_step, skip_none, ignored_found, ignored_within}

gap_step : (text : List ℕ) (n : ℕ) → ignored_at text ≡ n → 0 < n → gap text ≡ n + gap (drop n text)
unfolding gap
gap_step text n e some = let there : 0 < ignored_at text = omega arith in skip_step text there ∙ ap (λ k. k + gap (drop k text)) e

pub passes : (p q : Cursor) (text more : List ℕ) (n : ℕ) → ignored_at text ≡ n → 0 < n → q ≡ after_all p (take n text) → more ≡ drop n text → q.index ≡ p.index + n → Counts q → Passes p text q more
passes p q text more n e some here there index counts =
    let g = gap more in
    let step : gap text ≡ n + g = gap_step text n e some ∙ ap (λ t. n + gap t) (sym there) in
    let within = ignored_within text in
    let left = ap length there in
    let long = length-drop n text in
    let front : take (n + g) text ≡ take n text ++ take g more = take-add n g text ∙ ap (λ t. take n text ++ take g t) (sym there) in
    record {
      same_start = ap (λ c. after_all c (take g more)) here ∙ sym (fold-append after p (take n text) (take g more)) ∙ ap (after_all p) (sym front) ∙ ap (λ k. after_all p (take k text)) (sym step);
      same_ahead = ap (drop g) there ∙ drop-drop g n text ∙ ap (λ k. drop k text) (sym step);
      index = omega arith;
      less = omega arith;
      counts = counts;
    }

pub none_there : (text : List ℕ) → ignored_at text ≡ 0 → gap text ≡ 0
unfolding gap
none_there text h = skip_none text h

blank_inline : (c : ℕ) → is_blank c ≡ true → is_line_end c ≡ false → is_comment_char c ≡ true
blank_inline c h k = grind (arith, nat_tests)

-- no ignored token but a line terminator ends a line
ignored_inline : (s r : List ℕ) → IsIgnored s r → is_line_end (at s 0) ≡ false → list_all is_comment_char s ≡ true
ignored_inline s r (inl same) k = rw same refl
ignored_inline s r (inr (inl (c, same, h))) k = rw (same, blank_inline c h (ap (λ t. is_line_end (at t 0)) (sym same) ∙ k)) refl
ignored_inline s r (inr (inr (cs, same, h, e))) k = rw same h

first_of : (n : ℕ) (text : List ℕ) → 0 < n → at (take n text) 0 ≡ at text 0
first_of zero text h = absurd (omega arith)
first_of (suc n) [] h = refl
first_of (suc n) (c ∷ cs) h = refl

pub passed_inline : (p : Cursor) (text : List ℕ) (n : ℕ) → ignored_at text ≡ n → 0 < n → is_line_end (at text 0) ≡ false → along p n ≡ after_all p (take n text)
passed_inline p text n e some h =
    let there : 0 < ignored_at text = omega arith in
    let within = ignored_within text in
    let P : ℕ → Type 0 = λ k. IsIgnored (take k text) (drop k text) in
    let front : P n = subst P e (ignored_found text there) in
    along_front p text n (omega arith) (ignored_inline (take n text) (drop n text) front (ap is_line_end (first_of n text some) ∙ h))

pub passed_line : (p : Cursor) (text : List ℕ) (c : ℕ) → 0 < length text → at text 0 ≡ c → after p c ≡ after_all p (take 1 text)
passed_line p [] c some h = absurd (omega arith)
passed_line p (x ∷ xs) c some h = ap (after p) (sym h)

no_blank : (c : ℕ) → (is_blank c && not (is_line_end c)) ≡ false → (c ≡ 10 → ⊥) → (c ≡ 13 → ⊥) → is_blank c ≡ false
no_blank c h a b = grind (arith, nat_tests)

other_byte : (c k : ℕ) → (c ≡ k → ⊥) → (c == k) ≡ false
other_byte c k h = grind (arith, nat_tests)

other_mark : (c : ℕ) → (c ≡ 239 → ⊥) → nat_eq 239 c ≡ false
other_mark c h = grind (arith, nat_tests)

pub nothing_ignored : (text : List ℕ) → (is_blank (at text 0) && not (is_line_end (at text 0))) ≡ false → (at text 0 ≡ 10 → ⊥) → (at text 0 ≡ 13 → ⊥) → (at text 0 ≡ 35 → ⊥) → (at text 0 ≡ 239 → ⊥) → gap text ≡ 0
unfolding ignored_at
nothing_ignored [] h a b d e = none_there [] refl
nothing_ignored (c ∷ cs) h a b d e = none_there (c ∷ cs) (rw (no_blank c h a b, other_byte c 35 d, other_mark c e) refl)

pub space_inline : (c : ℕ) → (is_blank c && not (is_line_end c)) ≡ true → is_line_end c ≡ false
space_inline c h = grind (arith, nat_tests)

space_blank : (c : ℕ) → (is_blank c && not (is_line_end c)) ≡ true → is_blank c ≡ true
space_blank c h = grind (arith, nat_tests)

pub blank_taken : (text : List ℕ) → (is_blank (at text 0) && not (is_line_end (at text 0))) ≡ true → ignored_at text ≡ 1
unfolding ignored_at
blank_taken [] h = cc
blank_taken (c ∷ cs) h = rw (space_blank c h) refl

other_not : (c k : ℕ) → (is_line_end c || ((c == 35) || (c == 239))) ≡ false → (k ≡ 10) ⊎ (k ≡ 13) ⊎ (k ≡ 35) ⊎ (k ≡ 239) → c ≡ k → ⊥
other_not c k h (inl e) same = absurd (grind (arith, nat_tests))
other_not c k h (inr (inl e)) same = absurd (grind (arith, nat_tests))
other_not c k h (inr (inr (inl e))) same = absurd (grind (arith, nat_tests))
other_not c k h (inr (inr (inr e))) same = absurd (grind (arith, nat_tests))

pub nothing_else : (text : List ℕ) → (is_blank (at text 0) && not (is_line_end (at text 0))) ≡ false → (is_line_end (at text 0) || ((at text 0 == 35) || (at text 0 == 239))) ≡ false → gap text ≡ 0
nothing_else text h k =
    nothing_ignored text h
    (other_not (at text 0) 10 k (inl refl))
    (other_not (at text 0) 13 k (inr (inl refl)))
    (other_not (at text 0) 35 k (inr (inr (inl refl))))
    (other_not (at text 0) 239 k (inr (inr (inr refl))))
