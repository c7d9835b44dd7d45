-- The scanner's tokens are those of the grammar, and there are no others.
use Rattle.std.proofs.Common.{◌≡◌, ◌<◌, ◌≤◌, ◌+◌, ℕ, zero, suc, List, [], ◌∷◌, ◌++◌, Bool, true, false, if◌then◌else◌, length, take, drop, refl, sym, ap, subst, ◌∙◌, arith, length-drop}
use Rattle.std.proofs.lemmas.List.{drop-drop, take-append-drop}
use Rattle.std.proofs.lemmas.List.Sums.{fold-append}
use Rattle.std.proofs.Math.Seq.{take-add}
use Rattle.graphql_lexer.specs.Lexical.{Token, punctuator, name, int, float, string, block_string, end, fault, IsIgnored, IsToken}
use Rattle.graphql_lexer.specs.Lexemes.{Lexeme, is_last, position, origin, Reads, nothing, ignored, token, Stuck, Ends, last_at, AreLexemes}
use Rattle.graphql_lexer.specs.Places.{after, after_all}
use Rattle.graphql_lexer.specs.Scan.{gap, ahead, start_at, stop_at, rest_at, lexeme_at, lexemes, tokens}
use Rattle.graphql_lexer.specs.Scanning.{ignored_at, ignored_length, token_at}
use Rattle.graphql_lexer.specs.declared.cursor.Cursor.{Cursor}
use Rattle.graphql_lexer.proofs.Found.{tokens_found}
use Rattle.graphql_lexer.proofs.Passed.{ignored_read, ignored_some, ignored_found, skip_step, skip_none}
use Rattle.graphql_lexer.proofs.Progress.{shorter}
use Rattle.graphql_lexer.proofs.Read.{tokens_read}

-- ---- what ends a text
pub token_goes_on : (t : Token) (s r : List ℕ) → IsToken t s r → is_last t ≡ false
token_goes_on (punctuator p) s r h = refl
token_goes_on (name n) s r h = refl
token_goes_on (int n) s r h = refl
token_goes_on (float n) s r h = refl
token_goes_on (string n) s r h = refl
token_goes_on (block_string n) s r h = refl
token_goes_on end s r h = absurd h
token_goes_on fault s r h = absurd h

stuck_there : (text : List ℕ) → ignored_at text ≡ 0 → is_last ((token_at text).0) ≡ true → Stuck text
stuck_there text none last s more same = (
  λ i. let n = ignored_read s more i in let some = ignored_some s more i in let e = ap ignored_at same in absurd (omega arith),
  λ t h. let e = ap token_at same ∙ tokens_read t s more h in let goes = token_goes_on t s more h in let both : true ≡ false = sym last ∙ ap (λ r. is_last (r.0)) e ∙ goes in cc,
)

ends_by : (text : List ℕ) (t : Token) → is_last t ≡ true → (t ≡ end → text ≡ []) → (text ≡ [] → t ≡ end) → Stuck text → Ends t text
ends_by text (punctuator p) l h k s = cc
ends_by text (name n) l h k s = cc
ends_by text (int n) l h k s = cc
ends_by text (float n) l h k s = cc
ends_by text (string n) l h k s = cc
ends_by text (block_string n) l h k s = cc
ends_by text end l h k s = h refl
ends_by text fault l h k s = (λ e. let both = k e in cc, s)

pub end_there : (text : List ℕ) → text ≡ [] → (token_at text).0 ≡ end
unfolding token_at
end_there text h = rw h refl

ends_at : (text : List ℕ) → ignored_at text ≡ 0 → is_last ((token_at text).0) ≡ true → Ends ((token_at text).0) text
ends_at text none last = ends_by text ((token_at text).0) last (tokens_found text).2 (end_there text) (stuck_there text none last)

-- ---- what is ignored
dropped : (m n : ℕ) (text : List ℕ) → drop m (drop n text) ≡ drop (n + m) text
dropped m n text = drop-drop m n text

skipped_by : (n : ℕ) (text : List ℕ) → ignored_at text ≡ n → (0 < n → ignored_at (drop (ignored_length (drop n text)) (drop n text)) ≡ 0) → ignored_at (drop (ignored_length text) text) ≡ 0
skipped_by zero text h more = let g = skip_none text h in rw g h
skipped_by (suc n) text h more =
    let g : ignored_length text ≡ suc n + ignored_length (drop (suc n) text) = let some : 0 < ignored_at text = omega arith in skip_step text some ∙ ap (λ k. k + ignored_length (drop k text)) h in
    ap (λ k. ignored_at (drop k text)) g ∙ ap ignored_at (sym (dropped (ignored_length (drop (suc n) text)) (suc n) text)) ∙ more (omega arith)

drop_short : (n fuel : ℕ) (text : List ℕ) → 0 < n → length text ≤ suc fuel → length (drop n text) ≤ fuel
drop_short n fuel text some h = let k = length-drop n text in omega arith

nil_none : (text : List ℕ) → length text ≤ 0 → ignored_at text ≡ 0
unfolding ignored_at
nil_none [] h = refl
nil_none (c ∷ cs) h = absurd (omega arith)

skipped_all : (fuel : ℕ) (text : List ℕ) → length text ≤ fuel → ignored_at (drop (ignored_length text) text) ≡ 0
skipped_all zero text h = let n = nil_none text h in skipped_by 0 text n (λ some. absurd (omega arith))
skipped_all (suc fuel) text h = skipped_by (ignored_at text) text refl (λ some. skipped_all fuel (drop (ignored_at text) text) (drop_short (ignored_at text) fuel text some h))

pass_by : (n : ℕ) (p q : Cursor) (text rest : List ℕ) (xs : List Lexeme) → ignored_at text ≡ n
    → (0 < n → Reads (after_all (after_all p (take n text)) (take (ignored_length (drop n text)) (drop n text))) (drop (ignored_length (drop n text)) (drop n text)) xs q rest → Reads (after_all p (take n text)) (drop n text) xs q rest)
    → Reads (start_at p text) (ahead text) xs q rest → Reads p text xs q rest
unfolding gap
pass_by zero p q text rest xs h more r = let g = skip_none text h in let P : ℕ → Type 0 = λ k. Reads (after_all p (take k text)) (drop k text) xs q rest in subst P g r
pass_by (suc n) p q text rest xs h more r =
    let m = suc n in
    let k = ignored_length (drop m text) in
    let g : ignored_length text ≡ m + k = let some : 0 < ignored_at text = omega arith in skip_step text some ∙ ap (λ j. j + ignored_length (drop j text)) h in
    let P : ℕ → Type 0 = λ j. Reads (after_all p (take j text)) (drop j text) xs q rest in
    let first = subst P g r in
    let Q : List ℕ → Type 0 = λ u. Reads (after_all p u) (drop (m + k) text) xs q rest in
    let second = subst Q (take-add m k text) first in
    let S : Cursor → Type 0 = λ u. Reads u (drop (m + k) text) xs q rest in
    let third = subst S (fold-append after p (take m text) (take k (drop m text))) second in
    let T : List ℕ → Type 0 = λ u. Reads (after_all (after_all p (take m text)) (take k (drop m text))) u xs q rest in
    let fourth = subst T (sym (dropped k m text)) third in
    let front : IsIgnored (take m text) (drop m text) = let F : ℕ → Type 0 = λ j. IsIgnored (take j text) (drop j text) in subst F h (ignored_found text (let some : 0 < ignored_at text = omega arith in some)) in
    let whole = ignored p q (take m text) (drop m text) rest xs front (more (omega arith) fourth) in
    let U : List ℕ → Type 0 = λ u. Reads p u xs q rest in
    subst U (take-append-drop m text) whole

-- the ignored tokens before a token are passed
pass : (fuel : ℕ) (p q : Cursor) (text rest : List ℕ) (xs : List Lexeme) → length text ≤ fuel → Reads (start_at p text) (ahead text) xs q rest → Reads p text xs q rest
unfolding gap
pass zero p q text rest xs h r = let n = nil_none text h in pass_by 0 p q text rest xs n (λ some. absurd (omega arith)) r
pass (suc fuel) p q text rest xs h r =
    pass_by (ignored_at text) p q text rest xs refl
    (λ some. pass fuel (after_all p (take (ignored_at text) text)) q (drop (ignored_at text) text) rest xs (drop_short (ignored_at text) fuel text some h)) r

-- ---- the scanner's tokens are those of the grammar
abbrev Are : Cursor → List ℕ → List Lexeme → Type 0
Are p text ls = (xs : List Lexeme) × (t : Token) × (q : Cursor) × (rest : List ℕ) × (ls ≡ xs ++ (last_at t q ∷ [])) × Reads p text xs q rest × Ends t rest

gone : (text : List ℕ) → ignored_at (ahead text) ≡ 0
unfolding gap
gone text = skipped_all (length text) text (omega arith)

last_there : (p : Cursor) (text : List ℕ) → is_last ((token_at (ahead text)).0) ≡ true → lexeme_at p text ≡ last_at ((token_at (ahead text)).0) (start_at p text)
last_there p text last =
    let n = (tokens_found (ahead text)).1 last in
    ap (λ k. record { token = (token_at (ahead text)).0; start = position (start_at p text); stop = position (after_all (start_at p text) (take k (ahead text))) }) n

are_more : (p : Cursor) (text : List ℕ) (more : List Lexeme) → IsToken ((token_at (ahead text)).0) (take ((token_at (ahead text)).1) (ahead text)) (rest_at text) → Are (stop_at p text) (rest_at text) more → Are p text (lexeme_at p text ∷ more)
are_more p text more h (xs, t, q, rest, same, r, e) =
    let n = (token_at (ahead text)).1 in
    let s = take n (ahead text) in
    let one = token (start_at p text) q ((token_at (ahead text)).0) s (rest_at text) rest xs h r in
    let U : List ℕ → Type 0 = λ u. Reads (start_at p text) u (lexeme_at p text ∷ xs) q rest in
    let whole = subst U (take-append-drop n (ahead text)) one in
    (lexeme_at p text ∷ xs, t, q, rest, ap (λ ls. lexeme_at p text ∷ ls) same, pass (length text) p q text rest (lexeme_at p text ∷ xs) (omega arith) whole, e)

are_by : (b : Bool) (p : Cursor) (text : List ℕ) (more : List Lexeme) → is_last ((token_at (ahead text)).0) ≡ b → (b ≡ false → Are (stop_at p text) (rest_at text) more) → Are p text (lexeme_at p text ∷ (if b then [] else more))
are_by true p text more last h = (
  [],
  (token_at (ahead text)).0,
  start_at p text,
  ahead text,
  ap (λ x. x ∷ []) (last_there p text last),
  pass (length text) p (start_at p text) text (ahead text) [] (omega arith) (nothing (start_at p text) (ahead text)),
  ends_at (ahead text) (gone text) last,
)
are_by false p text more last h = are_more p text more ((tokens_found (ahead text)).0 last) (h refl)

lexemes_are : (fuel : ℕ) (p : Cursor) (text : List ℕ) → length text < fuel → Are p text (lexemes fuel p text)
unfolding lexemes
lexemes_are zero p text h = absurd (omega arith)
lexemes_are (suc fuel) p text h =
    are_by (is_last ((token_at (ahead text)).0)) p text (lexemes fuel (stop_at p text) (rest_at text)) refl
    (λ e. let k = shorter text e in lexemes_are fuel (stop_at p text) (rest_at text) (omega arith))

pub tokens_are : (text : List ℕ) → AreLexemes text (tokens text)
tokens_are text = lexemes_are (suc (length text)) origin text (omega arith)
