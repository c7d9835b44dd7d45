-- What the scanner passes is ignored by the grammar, and what the grammar ignores is passed.
use Rattle.std.proofs.Common.{◌≡◌, ◌<◌, ◌≤◌, ◌+◌, ◌-◌, inl, inr, ℕ, zero, suc, List, [], ◌∷◌, ◌++◌, Bool, true, false, ◌==◌, if◌then◌else◌, length, take, drop, refl, sym, ap, subst, ◌∙◌, arith, zero-add}
use Rattle.std.proofs.lemmas.Bool.Decides.{nat_tests}
use Rattle.std.specs.List.{prefix_len}
use Rattle.std.proofs.lemmas.List.Sums.{prefix_len-le-length}
use Rattle.graphql_strings.specs.Characters.{begins}
use Rattle.graphql_strings.proofs.Runs.{run_all, run_stops, begins_split, run_length}
use Rattle.graphql_lexer.specs.Lexical.{is_blank, is_comment_char, byte_order_mark, IsIgnored}
use Rattle.graphql_lexer.specs.Scanning.{comment_length, ignored_at, ignored_from, ignored_length}

mark_at : (r : List ℕ) → ignored_at (byte_order_mark ++ r) ≡ 3
unfolding ignored_at
mark_at r = refl

blank_at : (c : ℕ) (r : List ℕ) → is_blank c ≡ true → ignored_at (c ∷ r) ≡ 1
unfolding ignored_at
blank_at c r h = rw h refl

comment_at : (r : List ℕ) → ignored_at (35 ∷ r) ≡ 1 + prefix_len is_comment_char r
unfolding ignored_at comment_length
comment_at r = refl

pub ignored_read : (s r : List ℕ) → IsIgnored s r → ignored_at (s ++ r) ≡ length s
ignored_read s r (inl same) = subst (λ t. ignored_at (t ++ r) ≡ length t) (sym same) (mark_at r)
ignored_read s r (inr (inl (c, same, h))) = subst (λ t. ignored_at (t ++ r) ≡ length t) (sym same) (blank_at c r h)
ignored_read s r (inr (inr (cs, same, h, e))) =
    let n : 1 + prefix_len is_comment_char (cs ++ r) ≡ length (35 ∷ cs) = let k = run_length is_comment_char cs r h e in omega arith in
    subst (λ t. ignored_at (t ++ r) ≡ length t) (sym same) (comment_at (cs ++ r) ∙ n)

pub ignored_some : (s r : List ℕ) → IsIgnored s r → 0 < length s
ignored_some s r (inl same) = rw same (omega arith)
ignored_some s r (inr (inl (c, same, h))) = rw same (omega arith)
ignored_some s r (inr (inr (cs, same, h, e))) = rw same (omega arith)

is_hash : (c : ℕ) → (c == 35) ≡ true → c ≡ 35
is_hash c h = grind (arith, nat_tests)

abbrev Front : List ℕ → ℕ → Type 0
Front text n = IsIgnored (take n text) (drop n text)

front_at : (c : ℕ) (cs : List ℕ) (x y z : Bool) → is_blank c ≡ x → (c == 35) ≡ y → begins byte_order_mark (c ∷ cs) ≡ z → 0 < (if x then 1 else if y then 1 + comment_length cs else if z then 3 else 0) → Front (c ∷ cs) (if x then 1 else if y then 1 + comment_length cs else if z then 3 else 0)
unfolding comment_length
front_at c cs true y z h k l some = inr (inl (c, refl, h))
front_at c cs false true z h k l some =
    let n : suc (prefix_len is_comment_char cs) ≡ 1 + prefix_len is_comment_char cs = omega arith in
    subst (Front (c ∷ cs)) n (inr (inr (take (prefix_len is_comment_char cs) cs, ap (λ x. x ∷ take (prefix_len is_comment_char cs) cs) (is_hash c k), run_all is_comment_char cs, run_stops is_comment_char refl cs)))
front_at c cs false false true h k l some = inl (ap (take 3) (begins_split byte_order_mark (c ∷ cs) l))
front_at c cs false false false h k l some = absurd (omega arith)

pub ignored_found : (text : List ℕ) → 0 < ignored_at text → Front text (ignored_at text)
unfolding ignored_at
ignored_found [] some = absurd (omega arith)
ignored_found (c ∷ cs) some = front_at c cs (is_blank c) (c == 35) (begins byte_order_mark (c ∷ cs)) refl refl refl some

within_if : (c : ℕ) (cs : List ℕ) (x y z : Bool) → begins byte_order_mark (c ∷ cs) ≡ z → (if x then 1 else if y then 1 + comment_length cs else if z then 3 else 0) ≤ length (c ∷ cs)
unfolding comment_length
within_if c cs true y z l = omega arith
within_if c cs false true z l = let k = prefix_len-le-length is_comment_char cs in omega arith
within_if c cs false false true l = let e = ap length (begins_split byte_order_mark (c ∷ cs) l) in let some : 3 ≤ length (byte_order_mark ++ drop 3 (c ∷ cs)) = omega arith in omega arith
within_if c cs false false false l = omega arith

pub ignored_within : (text : List ℕ) → ignored_at text ≤ length text
unfolding ignored_at
ignored_within [] = omega arith
ignored_within (c ∷ cs) = within_if c cs (is_blank c) (c == 35) (begins byte_order_mark (c ∷ cs)) refl

-- ---- one after the other
passing : (k : ℕ) (text : List ℕ) → k ≤ length text → ignored_from k text ≡ k + ignored_from 0 (drop k text)
unfolding ignored_from
passing zero text h = sym (zero-add (ignored_from 0 text))
passing (suc k) [] h = absurd (omega arith)
passing (suc k) (c ∷ cs) h = let more = passing k cs (omega arith) in omega arith

first_step : (c : ℕ) (cs : List ℕ) (n : ℕ) → 0 < n → n ≤ length (c ∷ cs) → (if n == 0 then 0 else 1 + ignored_from (n - 1) cs) ≡ n + ignored_from 0 (drop n (c ∷ cs))
first_step c cs zero some h = absurd (omega arith)
first_step c cs (suc k) some h =
    let e : suc k - 1 ≡ k = omega arith in
    let no : (suc k == 0) ≡ false = grind (arith, nat_tests) in
    let more = passing k cs (omega arith) in
    rw (no, e) (omega arith)

pub skip_step : (text : List ℕ) → 0 < ignored_at text → ignored_length text ≡ ignored_at text + ignored_length (drop (ignored_at text) text)
unfolding ignored_from
skip_step [] some = absurd (let k = ignored_within [] in omega arith)
skip_step (c ∷ cs) some = first_step c cs (ignored_at (c ∷ cs)) some (ignored_within (c ∷ cs))

pub skip_none : (text : List ℕ) → ignored_at text ≡ 0 → ignored_length text ≡ 0
unfolding ignored_from
skip_none [] h = refl
skip_none (c ∷ cs) h = let no : (ignored_at (c ∷ cs) == 0) ≡ true = grind (arith, nat_tests) in rw no refl
