-- Strings are read as the grammar writes them.
use Rattle.std.proofs.Common.{◌≡◌, ◌+◌, ℕ, List, [], ◌∷◌, ◌++◌, Some, true, false, ◌==◌, nat_le, length, refl, ap, subst, ◌∙◌, arith, append_assoc, length-append}
use Rattle.std.proofs.lemmas.Bool.Decides.{nat_tests}
use Rattle.std.specs.Str.{is_utf8, IsUtf8}
use Rattle.std.proofs.lemmas.Str.{is_utf8-from_IsUtf8}
use Rattle.std.proofs.Math.Seq.{take-append_seam, drop-append_seam}
use Rattle.graphql_strings.specs.Characters.{at, begins, three_quotes, escaped_quotes}
use Rattle.graphql_lexer.specs.Lexical.{string, block_string, is_source, is_string_char, IsStringText, no_char, char, escaped, IsBlockText, no_block_char, block_char, escaped_block}
use Rattle.graphql_lexer.specs.Scanning.{front, string_length, string_at, block_length, block_turn, block_string_at, any_string_at, token_at}

-- ---- on one line
string_plain : (c : ℕ) (cs : List ℕ) → is_string_char c ≡ true → (c == 34) ≡ false → (c == 92) ≡ false → string_length false (c ∷ cs) ≡ 1 + string_length false cs
unfolding string_length
string_plain c cs h q b = rw (q, h, b) refl

string_escape : (c : ℕ) (cs : List ℕ) → is_string_char c ≡ true → string_length false (92 ∷ c ∷ cs) ≡ 2 + string_length false cs
unfolding string_length
string_escape c cs h = rw h (omega arith)

string_end : {raw : List ℕ} (r : List ℕ) → IsStringText raw → string_length false (raw ++ (34 ∷ r)) ≡ length raw
unfolding string_length
string_end r no_char = refl
string_end r (char {c} {cs} h q b t) = let more = string_end r t in let step = string_plain c (cs ++ (34 ∷ r)) h q b in omega arith
string_end r (escaped {c} {cs} h t) = let more = string_end r t in let step = string_escape c (cs ++ (34 ∷ r)) h in omega arith

front_there : (s r : List ℕ) → IsUtf8 s → front (s ++ r) (length s) ≡ Some s
front_there s r u =
    let long : nat_le (length s) (length (s ++ r)) ≡ true = rw (length-append s r) (grind (arith, nat_tests)) in
    let valid : is_utf8 s ≡ true = is_utf8-from_IsUtf8 s u in
    rw (take-append_seam s r, long, valid) refl

at_end : (s : List ℕ) (c : ℕ) (r : List ℕ) → at (s ++ (c ∷ r)) (length s) ≡ c
at_end [] c r = refl
at_end (x ∷ xs) c r = at_end xs c r

string_there : (raw r : List ℕ) → IsStringText raw → IsUtf8 raw → string_at (34 ∷ (raw ++ (34 ∷ r))) ≡ (string raw, length raw + 2)
unfolding string_at
string_there raw r t u =
    let long : nat_le (length raw) (length (raw ++ (34 ∷ r))) ≡ true = rw (length-append raw (34 ∷ r)) (grind (arith, nat_tests)) in
    let valid : is_utf8 raw ≡ true = is_utf8-from_IsUtf8 raw u in
    rw (string_end r t, take-append_seam raw (34 ∷ r), long, valid, at_end raw 34 r) refl

quoted : (raw r : List ℕ) → (34 ∷ (raw ++ (34 ∷ []))) ++ r ≡ 34 ∷ (raw ++ (34 ∷ r))
quoted raw r = ap (λ t. 34 ∷ t) (append_assoc raw (34 ∷ []) r)

single : (cs : List ℕ) → begins three_quotes (34 ∷ cs) ≡ false → token_at (34 ∷ cs) ≡ string_at (34 ∷ cs)
unfolding token_at any_string_at
single cs h = rw h refl

pub strings_read : (raw r : List ℕ) → IsStringText raw → IsUtf8 raw → begins three_quotes ((34 ∷ (raw ++ (34 ∷ []))) ++ r) ≡ false → token_at ((34 ∷ (raw ++ (34 ∷ []))) ++ r) ≡ (string raw, length (34 ∷ (raw ++ (34 ∷ []))))
strings_read raw r t u h =
    let e = quoted raw r in
    let k : begins three_quotes (34 ∷ (raw ++ (34 ∷ r))) ≡ false = subst (λ x. begins three_quotes x ≡ false) e h in
    let n : length raw + 2 ≡ length (34 ∷ (raw ++ (34 ∷ []))) = omega (arith, length-append raw (34 ∷ [])) in
    ap token_at e ∙ single (raw ++ (34 ∷ r)) k ∙ string_there raw r t u ∙ ap (λ m. (string raw, m)) n

-- ---- over lines
-- what four bytes tell is told by what follows them, too
pub three_more : (a b c d : ℕ) (xs r : List ℕ) → begins three_quotes (a ∷ b ∷ c ∷ d ∷ (xs ++ r)) ≡ begins three_quotes (a ∷ b ∷ c ∷ d ∷ xs)
three_more a b c d xs r = refl

pub four_more : (a b c d : ℕ) (xs r : List ℕ) → begins escaped_quotes (a ∷ b ∷ c ∷ d ∷ (xs ++ r)) ≡ begins escaped_quotes (a ∷ b ∷ c ∷ d ∷ xs)
four_more a b c d xs r = refl

abbrev Same : List ℕ → List ℕ → Type 0
Same s t = (begins three_quotes s ≡ begins three_quotes t) × (begins escaped_quotes s ≡ begins escaped_quotes t)

-- what follows the closing quotes does not matter
pub closing : (c : ℕ) (cs r : List ℕ) → Same (c ∷ (cs ++ (34 ∷ 34 ∷ 34 ∷ r))) (c ∷ (cs ++ three_quotes))
closing c [] r = (refl, refl)
closing c (x ∷ []) r = (refl, refl)
closing c (x ∷ y ∷ []) r = (refl, refl)
closing c (x ∷ y ∷ z ∷ zs) r = (refl, refl)

pub block_plain : (c : ℕ) (cs : List ℕ) → is_source c ≡ true → begins three_quotes (c ∷ cs) ≡ false → begins escaped_quotes (c ∷ cs) ≡ false → block_length 0 (c ∷ cs) ≡ 1 + block_length 0 cs
unfolding block_length block_turn
block_plain c cs h q b = rw (q, h, b) refl

pub block_escape : (cs : List ℕ) → block_length 0 (92 ∷ 34 ∷ 34 ∷ 34 ∷ cs) ≡ 4 + block_length 0 cs
unfolding block_length block_turn
block_escape cs = omega arith

block_closed : (r : List ℕ) → block_length 0 (34 ∷ 34 ∷ 34 ∷ r) ≡ 0
unfolding block_length block_turn
block_closed r = refl

block_end : {raw : List ℕ} (r : List ℕ) → IsBlockText raw → block_length 0 (raw ++ (34 ∷ 34 ∷ 34 ∷ r)) ≡ length raw
block_end r no_block_char = block_closed r
block_end r (block_char {c} {cs} h q b t) =
    let same = closing c cs r in
    let more = block_end r t in
    let step = block_plain c (cs ++ (34 ∷ 34 ∷ 34 ∷ r)) h (same.0 ∙ q) (same.1 ∙ b) in
    omega arith
block_end r (escaped_block {cs} t) = let more = block_end r t in let step = block_escape (cs ++ (34 ∷ 34 ∷ 34 ∷ r)) in omega arith

block_there : (raw r : List ℕ) → IsBlockText raw → IsUtf8 raw → block_string_at (34 ∷ 34 ∷ 34 ∷ (raw ++ (34 ∷ 34 ∷ 34 ∷ r))) ≡ (block_string raw, length raw + 6)
unfolding block_string_at
block_there raw r t u =
    let long : nat_le (length raw) (length (raw ++ (34 ∷ 34 ∷ 34 ∷ r))) ≡ true = rw (length-append raw (34 ∷ 34 ∷ 34 ∷ r)) (grind (arith, nat_tests)) in
    let valid : is_utf8 raw ≡ true = is_utf8-from_IsUtf8 raw u in
    rw (block_end r t, take-append_seam raw (34 ∷ 34 ∷ 34 ∷ r), long, valid, drop-append_seam raw (34 ∷ 34 ∷ 34 ∷ r)) refl

triple : (cs : List ℕ) → token_at (34 ∷ 34 ∷ 34 ∷ cs) ≡ block_string_at (34 ∷ 34 ∷ 34 ∷ cs)
unfolding token_at any_string_at
triple cs = refl

pub blocks_read : (raw r : List ℕ) → IsBlockText raw → IsUtf8 raw → token_at ((three_quotes ++ (raw ++ three_quotes)) ++ r) ≡ (block_string raw, length (three_quotes ++ (raw ++ three_quotes)))
blocks_read raw r t u =
    let e : (three_quotes ++ (raw ++ three_quotes)) ++ r ≡ 34 ∷ 34 ∷ 34 ∷ (raw ++ (34 ∷ 34 ∷ 34 ∷ r)) = ap (λ x. 34 ∷ 34 ∷ 34 ∷ x) (append_assoc raw three_quotes r) in
    let n : length raw + 6 ≡ length (three_quotes ++ (raw ++ three_quotes)) = omega (arith, length-append raw three_quotes) in
    ap token_at e ∙ triple (raw ++ (34 ∷ 34 ∷ 34 ∷ r)) ∙ block_there raw r t u ∙ ap (λ m. (block_string raw, m)) n
