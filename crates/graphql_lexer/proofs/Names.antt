-- Names and whole numbers are read as the grammar writes them.
use Rattle.std.proofs.Common.{◌≡◌, ◌<◌, ◌≤◌, ℕ, List, [], ◌∷◌, ◌++◌, Bool, true, false, ◌||◌, ◌==◌, nat_le, if◌then◌else◌, length, take, refl, sym, ap, subst, ◌∙◌, arith, length-append}
use Rattle.std.proofs.lemmas.Bool.Decides.{nat_tests}
use Rattle.std.proofs.lemmas.List.Sums.{prefix_len-le-length}
use Rattle.std.specs.List.{list_all}
use Rattle.std.specs.Str.{is_utf8, IsAscii, IsUtf8}
use Rattle.std.proofs.lemmas.Str.{is_utf8-from_IsUtf8, IsUtf8-from_ascii}
use Rattle.std.proofs.lemmas.Str.Ascii.{IsAscii-nil, IsAscii-cons}
use Rattle.std.proofs.Math.Seq.{take-append_seam}
use Rattle.graphql_strings.specs.Characters.{at}
use Rattle.graphql_strings.proofs.Runs.{both, run_all, run_length}
use Rattle.graphql_lexer.specs.Lexical.{Token, name, is_digit, is_name_start, is_name_continue, IsName, EndsName}
use Rattle.graphql_lexer.specs.Scanning.{name_length, written, name_at, token_at, any_string_at, spread_at, number_at, punctuator_token, punctuator_of}

pub all_ascii : (p : ℕ → Bool) → ((c : ℕ) → p c ≡ true → c < 128) → (s : List ℕ) → list_all p s ≡ true → IsAscii s
all_ascii p h [] k = IsAscii-nil
all_ascii p h (c ∷ cs) k = let parts = both (p c) (list_all p cs) k in IsAscii-cons c cs (h c parts.0) (all_ascii p h cs parts.1)

pub continue_ascii : (c : ℕ) → is_name_continue c ≡ true → c < 128
continue_ascii c h = grind (arith, nat_tests)

start_continue : (c : ℕ) → is_name_start c ≡ true → is_name_continue c ≡ true
start_continue c h = grind (arith, nat_tests)

-- what is written in ASCII is there
pub written_there : (kind : List ℕ → Token) (s r : List ℕ) (n : ℕ) → IsAscii s → n ≡ length s → written kind (s ++ r) n n ≡ (kind s, length s)
written_there kind s r n a e =
    let long : nat_le (length s) (length (s ++ r)) ≡ true = rw (length-append s r) (grind (arith, nat_tests)) in
    let valid : is_utf8 s ≡ true = is_utf8-from_IsUtf8 s (IsUtf8-from_ascii s a) in
    rw (e, take-append_seam s r, long, valid) refl

not_quote : (c : ℕ) → is_name_start c ≡ true → (c == 34) ≡ false
not_quote c h = grind (arith, nat_tests)

not_dot : (c : ℕ) → is_name_start c ≡ true → (c == 46) ≡ false
not_dot c h = grind (arith, nat_tests)

not_number : (c : ℕ) → is_name_start c ≡ true → ((c == 45) || is_digit c) ≡ false
not_number c h = grind (arith, nat_tests)

abbrev choice : Bool → Bool → Bool → Bool → ℕ → List ℕ → Token × ℕ
choice a b d e c cs =
    if a then any_string_at (c ∷ cs) else if b then spread_at (c ∷ cs) else if d then number_at (c ∷ cs) else if e then name_at (c ∷ cs) else punctuator_token (punctuator_of c)

names_first : (c : ℕ) (cs : List ℕ) → is_name_start c ≡ true → token_at (c ∷ cs) ≡ name_at (c ∷ cs)
unfolding token_at
names_first c cs h =
    ap (λ a. choice a (c == 46) ((c == 45) || is_digit c) (is_name_start c) c cs) (not_quote c h)
    ∙ ap (λ b. choice false b ((c == 45) || is_digit c) (is_name_start c) c cs) (not_dot c h)
    ∙ ap (λ d. choice false false d (is_name_start c) c cs) (not_number c h)
    ∙ ap (λ e. choice false false false e c cs) h

pub named : (text : List ℕ) → is_name_start (at text 0) ≡ true → name_at text ≡ token_at text
named [] h = cc
named (c ∷ cs) h = sym (names_first c cs h)

name_read : (c : ℕ) (cs r : List ℕ) → is_name_start c ≡ true → list_all is_name_continue cs ≡ true → EndsName r → name_at ((c ∷ cs) ++ r) ≡ (name (c ∷ cs), length (c ∷ cs))
unfolding name_length
name_read c cs r h k e =
    let all : list_all is_name_continue (c ∷ cs) ≡ true = rw (start_continue c h) k in
    written_there name (c ∷ cs) r (name_length ((c ∷ cs) ++ r)) (all_ascii is_name_continue continue_ascii (c ∷ cs) all) (run_length is_name_continue (c ∷ cs) r all e)

pub names_read : (s r : List ℕ) → IsName s → EndsName r → token_at (s ++ r) ≡ (name s, length s)
names_read s r (c, cs, same, h, k) e =
    subst (λ t. token_at (t ++ r) ≡ (name t, length t)) (sym same) (names_first c (cs ++ r) h ∙ name_read c cs r h k e)

pub number_first : (c : ℕ) (cs : List ℕ) → (c == 34) ≡ false → (c == 46) ≡ false → ((c == 45) || is_digit c) ≡ true → token_at (c ∷ cs) ≡ number_at (c ∷ cs)
unfolding token_at
number_first c cs h k l =
    ap (λ a. choice a (c == 46) ((c == 45) || is_digit c) (is_name_start c) c cs) h
    ∙ ap (λ b. choice false b ((c == 45) || is_digit c) (is_name_start c) c cs) k
    ∙ ap (λ d. choice false false d (is_name_start c) c cs) l

-- the name at the front is there, and is UTF-8
pub name_utf8 : (text : List ℕ) → IsUtf8 (take (name_length text) text)
unfolding name_length
name_utf8 text = IsUtf8-from_ascii _ (all_ascii is_name_continue continue_ascii _ (run_all is_name_continue text))

name_within : (text : List ℕ) → name_length text ≤ length text
unfolding name_length
name_within text = prefix_len-le-length is_name_continue text

pub name_there : (text : List ℕ) → (name (take (name_length text) text), name_length text) ≡ name_at text
name_there text =
    let n = name_length text in
    let within : n ≤ length text = name_within text in
    let long : nat_le n (length text) ≡ true = grind (arith, nat_tests) in
    let valid : is_utf8 (take n text) ≡ true = is_utf8-from_IsUtf8 (take n text) (name_utf8 text) in
    rw (long, valid) refl
