-- A text has no other tokens than the scanner's.
use Rattle.std.proofs.Common.{◌≡◌, ◌<◌, ◌+◌, ◌⊎◌, inl, inr, ℕ, zero, suc, List, [], ◌∷◌, ◌++◌, Bool, true, false, ◌==◌, if◌then◌else◌, length, take, drop, refl, sym, ap, ◌∙◌, arith}
use Rattle.std.proofs.lemmas.Bool.Decides.{nat_tests}
use Rattle.std.proofs.lemmas.List.{take-append-drop}
use Rattle.std.proofs.lemmas.List.Sums.{fold-append}
use Rattle.std.proofs.Math.Seq.{take-append_seam, drop-append_seam, take-append-add, drop-append-add}
use Rattle.graphql_strings.specs.Characters.{begins}
use Rattle.graphql_strings.proofs.Runs.{begins_split}
use Rattle.graphql_lexer.specs.Lexical.{Token, punctuator, name, int, float, string, block_string, end, fault, is_blank, byte_order_mark, IsIgnored, IsToken}
use Rattle.graphql_lexer.specs.Lexemes.{Lexeme, is_last, position, Reads, nothing, ignored, token, Stuck, Ends, last_at, AreLexemes}
use Rattle.graphql_lexer.specs.Places.{after, after_all}
use Rattle.graphql_lexer.specs.Scan.{gap, tokens_from, tokens}
use Rattle.graphql_lexer.specs.Scanning.{comment_length, ignored_at, ignored_length, token_at, punctuator_of}
use Rattle.graphql_lexer.specs.declared.cursor.Cursor.{Cursor}
use Rattle.graphql_lexer.proofs.Found.{tokens_found}
use Rattle.graphql_lexer.proofs.Lists.{token_goes_on, end_there}
use Rattle.graphql_lexer.proofs.Passed.{ignored_read, ignored_some, ignored_found, skip_step, skip_none}
use Rattle.graphql_lexer.proofs.Progress.{scanned}
use Rattle.graphql_lexer.proofs.Read.{tokens_read}

abbrev parts : Cursor → List ℕ → List Lexeme
parts start a =
    record { token = (token_at a).0; start = position start; stop = position (after_all start (take ((token_at a).1) a)) }
    ∷ (if is_last ((token_at a).0) then [] else tokens_from (after_all start (take ((token_at a).1) a)) (drop ((token_at a).1) a))

no_gap : (p : Cursor) (text : List ℕ) → ignored_at text ≡ 0 → tokens_from p text ≡ parts p text
unfolding gap
no_gap p text h = scanned p text ∙ ap (λ k. parts (after_all p (take k text)) (drop k text)) (skip_none text h)

same_ignored : (p : Cursor) (s more : List ℕ) → IsIgnored s more → tokens_from p (s ++ more) ≡ tokens_from (after_all p s) more
unfolding gap
same_ignored p s more i =
    let e = ignored_read s more i in
    let some = ignored_some s more i in
    let g = ignored_length more in
    let n : ignored_length (s ++ more) ≡ length s + g =
    skip_step (s ++ more) (omega arith) ∙ ap (λ k. k + ignored_length (drop k (s ++ more))) e ∙ ap (λ t. length s + ignored_length t) (drop-append_seam s more) in
    scanned p (s ++ more)
    ∙ ap (λ k. parts (after_all p (take k (s ++ more))) (drop k (s ++ more))) n
    ∙ ap (λ t. parts (after_all p t) (drop (length s + g) (s ++ more))) (take-append-add s more g)
    ∙ ap (λ t. parts (after_all p (s ++ take g more)) t) (drop-append-add s more g)
    ∙ ap (λ u. parts u (drop g more)) (fold-append after p s (take g more))
    ∙ sym (scanned (after_all p s) more)

-- ---- no token begins where something is ignored
blank_is : (c : ℕ) → is_blank c ≡ true → (c ≡ 9) ⊎ ((c ≡ 32) ⊎ ((c ≡ 10) ⊎ ((c ≡ 13) ⊎ (c ≡ 44))))
blank_is c h = grind (arith, nat_tests)

hash_is : (c : ℕ) → (c == 35) ≡ true → c ≡ 35
hash_is c h = grind (arith, nat_tests)

abbrev NoToken : List ℕ → Type 0
NoToken text = is_last ((token_at text).0) ≡ true

blank_none : (c : ℕ) (cs : List ℕ) → (c ≡ 9) ⊎ ((c ≡ 32) ⊎ ((c ≡ 10) ⊎ ((c ≡ 13) ⊎ (c ≡ 44)))) → NoToken (c ∷ cs)
unfolding token_at punctuator_of
blank_none c cs (inl e) = rw e refl
blank_none c cs (inr (inl e)) = rw e refl
blank_none c cs (inr (inr (inl e))) = rw e refl
blank_none c cs (inr (inr (inr (inl e)))) = rw e refl
blank_none c cs (inr (inr (inr (inr e)))) = rw e refl

hash_none : (c : ℕ) (cs : List ℕ) → c ≡ 35 → NoToken (c ∷ cs)
unfolding token_at punctuator_of
hash_none c cs e = rw e refl

mark_none : (text r : List ℕ) → text ≡ byte_order_mark ++ r → NoToken text
unfolding token_at punctuator_of
mark_none text r e = rw e refl

none_if : (c : ℕ) (cs : List ℕ) (x y z : Bool) → is_blank c ≡ x → (c == 35) ≡ y → begins byte_order_mark (c ∷ cs) ≡ z → is_last ((token_at (c ∷ cs)).0) ≡ false → (if x then 1 else if y then 1 + comment_length cs else if z then 3 else 0) ≡ 0
none_if c cs true y z h k l goes = let no = blank_none c cs (blank_is c h) in cc
none_if c cs false true z h k l goes = let no = hash_none c cs (hash_is c k) in cc
none_if c cs false false true h k l goes = let no = mark_none (c ∷ cs) (drop 3 (c ∷ cs)) (begins_split byte_order_mark (c ∷ cs) l) in cc
none_if c cs false false false h k l goes = refl

token_none : (text : List ℕ) → is_last ((token_at text).0) ≡ false → ignored_at text ≡ 0
unfolding ignored_at
token_none [] goes = refl
token_none (c ∷ cs) goes = none_if c cs (is_blank c) (c == 35) (begins byte_order_mark (c ∷ cs)) refl refl refl goes

-- ---- a token
goes_if : (b : Bool) (xs ys : List Lexeme) → b ≡ false → (if b then xs else ys) ≡ ys
goes_if true xs ys h = cc
goes_if false xs ys h = refl

same_token : (p : Cursor) (t : Token) (s more : List ℕ) → IsToken t s more → tokens_from p (s ++ more) ≡ record { token = t; start = position p; stop = position (after_all p s) } ∷ tokens_from (after_all p s) more
same_token p t s more h =
    let e = tokens_read t s more h in
    let goes = token_goes_on t s more h in
    let last : is_last ((token_at (s ++ more)).0) ≡ false = ap (λ r. is_last (r.0)) e ∙ goes in
    let a = s ++ more in
    no_gap p a (token_none a last)
    ∙ ap (λ (r : Token × ℕ). record { token = r.0; start = position p; stop = position (after_all p (take (r.1) a)) } ∷ (if is_last (r.0) then [] else tokens_from (after_all p (take (r.1) a)) (drop (r.1) a))) e
    ∙ ap (λ u. record { token = t; start = position p; stop = position (after_all p u) } ∷ (if is_last t then [] else tokens_from (after_all p u) (drop (length s) a))) (take-append_seam s more)
    ∙ ap (λ u. record { token = t; start = position p; stop = position (after_all p s) } ∷ (if is_last t then [] else tokens_from (after_all p s) u)) (drop-append_seam s more)
    ∙ ap (λ ls. record { token = t; start = position p; stop = position (after_all p s) } ∷ ls) (goes_if (is_last t) [] (tokens_from (after_all p s) more) goes)

-- ---- the end, or the fault
stuck_none : (n : ℕ) (text : List ℕ) → ignored_at text ≡ n → Stuck text → n ≡ 0
stuck_none zero text h stuck = refl
stuck_none (suc n) text h stuck =
    let some : 0 < ignored_at text = omega arith in
    absurd ((stuck (take (ignored_at text) text) (drop (ignored_at text) text) (sym (take-append-drop (ignored_at text) text))).0 (ignored_found text some))

stuck_last : (b : Bool) (text : List ℕ) → is_last ((token_at text).0) ≡ b → Stuck text → b ≡ true
stuck_last true text h stuck = refl
stuck_last false text h stuck =
    let n = (token_at text).1 in
    absurd ((stuck (take n text) (drop n text) (sym (take-append-drop n text))).1 ((token_at text).0) ((tokens_found text).0 h))

last_kind : (t : Token) → is_last t ≡ true → (t ≡ end → ⊥) → t ≡ fault
last_kind (punctuator p) h k = cc
last_kind (name n) h k = cc
last_kind (int n) h k = cc
last_kind (float n) h k = cc
last_kind (string n) h k = cc
last_kind (block_string n) h k = cc
last_kind end h k = absurd (k refl)
last_kind fault h k = refl

nil_at : ignored_at [] ≡ 0
unfolding ignored_at
nil_at = refl

last_token : (t : Token) (text : List ℕ) → Ends t text → (ignored_at text ≡ 0) × (is_last ((token_at text).0) ≡ true) × ((token_at text).0 ≡ t)
last_token (punctuator p) text h = absurd h
last_token (name n) text h = absurd h
last_token (int n) text h = absurd h
last_token (float n) text h = absurd h
last_token (string n) text h = absurd h
last_token (block_string n) text h = absurd h
last_token end text h = let e = end_there text h in (ap ignored_at h ∙ nil_at, ap is_last e, e)
last_token fault text (some, stuck) =
    let last = stuck_last (is_last ((token_at text).0)) text refl stuck in
    (stuck_none (ignored_at text) text refl stuck, last, last_kind ((token_at text).0) last (λ e. some ((tokens_found text).2 e)))

last_parts : (p : Cursor) (text : List ℕ) → is_last ((token_at text).0) ≡ true → parts p text ≡ last_at ((token_at text).0) p ∷ []
last_parts p text h =
    let n = (tokens_found text).1 h in
    ap (λ b. record { token = (token_at text).0; start = position p; stop = position (after_all p (take ((token_at text).1) text)) } ∷ (if b then [] else tokens_from (after_all p (take ((token_at text).1) text)) (drop ((token_at text).1) text))) h
    ∙ ap (λ k. record { token = (token_at text).0; start = position p; stop = position (after_all p (take k text)) } ∷ []) n

unique : {p q : Cursor} {text rest : List ℕ} {xs : List Lexeme} → Reads p text xs q rest → (t : Token) → Ends t rest → tokens_from p text ≡ xs ++ (last_at t q ∷ [])
unique (nothing p text) t h =
    let l = last_token t text h in
    no_gap p text l.0 ∙ last_parts p text l.1 ∙ ap (λ x. last_at x p ∷ []) l.2
unique (ignored p q s more rest xs i r) t h = same_ignored p s more i ∙ unique r t h
unique (token p q k s more rest xs i r) t h = same_token p k s more i ∙ ap (λ ls. record { token = k; start = position p; stop = position (after_all p s) } ∷ ls) (unique r t h)

pub only_tokens : (text : List ℕ) (ls : List Lexeme) → AreLexemes text ls → ls ≡ tokens text
only_tokens text ls (xs, t, q, rest, same, r, h) = same ∙ sym (unique r t h)

front_same : (s r v w : List ℕ) → s ++ r ≡ v ++ w → length s ≡ length v → s ≡ v
front_same s r v w e n = sym (take-append_seam s r) ∙ ap (λ k. take k (s ++ r)) n ∙ ap (take (length v)) e ∙ take-append_seam v w

pub one_token : (t u : Token) (s r v w : List ℕ) → IsToken t s r → IsToken u v w → s ++ r ≡ v ++ w → (t ≡ u) × (s ≡ v)
one_token t u s r v w h k e =
    let both : (t, length s) ≡ (u, length v) = sym (tokens_read t s r h) ∙ ap token_at e ∙ tokens_read u v w k in
    (ap (λ (x : Token × ℕ). x.0) both, front_same s r v w e (ap (λ (x : Token × ℕ). x.1) both))
