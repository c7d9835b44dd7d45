-- What is read of a text does not depend on what follows on another line.
use Rattle.std.proofs.Common.{◌≡◌, ◌+◌, ◌⊎◌, inl, inr, ℕ, Bool, true, false, ◌&&◌, ◌==◌, if◌then◌else◌, List, []}
use Rattle.std.proofs.Common.{◌∷◌, ◌++◌, length, refl, sym, ap, subst, ◌∙◌, append_assoc, length-append, arith}
use Rattle.expected_tokens.specs.Answers.{next_line}
use Rattle.graphql_strings.specs.Characters.{at, begins, three_quotes}
use Rattle.graphql_lexer.specs.Lexemes.{Lexeme, AreLexemes, Reads, nothing, ignored, token, is_last, last_at, origin, position}
use Rattle.graphql_lexer.specs.Lexical.{Token, punctuator, name, int, float, string, block_string, end, fault, IsIgnored}
use Rattle.graphql_lexer.specs.Lexical.{IsToken, is_comment_char, is_name_continue, is_number_byte}
use Rattle.graphql_lexer.specs.Places.{after, after_all}
use Rattle.graphql_lexer.specs.declared.cursor.Cursor.{Cursor}
use Rattle.graphql_lexer.proofs.Lists.{token_goes_on}

-- ---- what follows a token or an ignored one
first_kept : (f : ℕ → Bool) (c rest tail : List ℕ) → f 10 ≡ false → f (at (c ++ rest) 0) ≡ false → f (at (c ++ 10 ∷ tail) 0) ≡ false
first_kept f [] rest tail line h = line
first_kept f (x ∷ c) rest tail line h = h

ignored_kept : (s c rest tail : List ℕ) → IsIgnored s (c ++ rest) → IsIgnored s (c ++ 10 ∷ tail)
ignored_kept s c rest tail (inl e) = inl e
ignored_kept s c rest tail (inr (inl h)) = inr (inl h)
ignored_kept s c rest tail (inr (inr (cs, e, all, stop))) = inr (inr (cs, e, all, first_kept is_comment_char c rest tail refl stop))

quotes_kept : (raw c rest tail : List ℕ) → begins three_quotes ((34 ∷ (raw ++ 34 ∷ [])) ++ (c ++ rest)) ≡ false
    → begins three_quotes ((34 ∷ (raw ++ 34 ∷ [])) ++ (c ++ 10 ∷ tail)) ≡ false
quotes_kept [] [] rest tail h = refl
quotes_kept [] (x ∷ c) rest tail h = h
quotes_kept (a ∷ []) c rest tail h = h
quotes_kept (a ∷ b ∷ raw) c rest tail h = h

token_kept : (t : Token) (s c rest tail : List ℕ) → IsToken t s (c ++ rest) → IsToken t s (c ++ 10 ∷ tail)
token_kept (punctuator p) s c rest tail h = h
token_kept (name n) s c rest tail (e, is, ends) = (e, is, first_kept is_name_continue c rest tail refl ends)
token_kept (int n) s c rest tail (e, is, ends) = (e, is, first_kept is_number_byte c rest tail refl ends)
token_kept (float n) s c rest tail (e, is, ends) = (e, is, first_kept is_number_byte c rest tail refl ends)
token_kept (string raw) s c rest tail (e, is, utf8, ends) =
    let given = subst (λ z. begins three_quotes (z ++ (c ++ rest)) ≡ false) e ends in
    (e, is, utf8, subst (λ z. begins three_quotes (z ++ (c ++ 10 ∷ tail)) ≡ false) (sym e) (quotes_kept raw c rest tail given))
token_kept (block_string raw) s c rest tail h = h
token_kept end s c rest tail h = h
token_kept fault s c rest tail h = h

-- ---- places
-- the place after a byte, by what it is
abbrev stepped : Bool → Bool → Bool → Cursor → Cursor
stepped a b d p =
    if a then record { index = p.index + 1; line = p.line + 1; column = 0; after_return = true }
    else if b then record { index = p.index + 1; line = p.line; column = 0; after_return = false }
    else if d then record { index = p.index + 1; line = p.line + 1; column = 0; after_return = false }
    else record { index = p.index + 1; line = p.line; column = p.column + 1; after_return = false }

after_by : (a b d : Bool) (p : Cursor) → (stepped a b d p).index ≡ p.index + 1
after_by true b d p = refl
after_by false true d p = refl
after_by false false true p = refl
after_by false false false p = refl

after_one : (p : Cursor) (c : ℕ) → (after p c).index ≡ p.index + 1
unfolding after
after_one p c = after_by (c == 13) ((c == 10) && p.after_return) (c == 10) p

after_index : (p : Cursor) (s : List ℕ) → (after_all p s).index ≡ p.index + length s
after_index p [] = omega arith
after_index p (c ∷ s) = omega (arith, after_one p c, after_index (after p c) s)

-- ---- what was read
-- These bytes were read. Where a line feed follows them, no matter what else, the same is read.
pub record Read (p : Cursor) (text : List ℕ) (xs : List Lexeme) (q : Cursor) (rest : List ℕ) : Type 0 where
  pub bytes : List ℕ
  pub joined : text ≡ bytes ++ rest
  pub index : q.index ≡ p.index + length bytes
  pub again : (tail : List ℕ) → Reads p (bytes ++ 10 ∷ tail) xs q (10 ∷ tail)

grown : (p q : Cursor) (s bytes : List ℕ) → q.index ≡ (after_all p s).index + length bytes → q.index ≡ p.index + length (s ++ bytes)
grown p q s bytes h = omega (arith, after_index p s, length-append s bytes)

pub read : {p q : Cursor} {text rest : List ℕ} {xs : List Lexeme} → Reads p text xs q rest → Read p text xs q rest
read (nothing p text) = record { bytes = []; joined = refl; index = omega arith; again = λ tail. nothing p (10 ∷ tail) }
read (ignored p q s more rest xs i r) =
    let h = read r in
    record {
      bytes = s ++ h.bytes;
      joined = ap (λ z. s ++ z) h.joined ∙ sym (append_assoc s h.bytes rest);
      index = grown p q s h.bytes h.index;
      again = λ tail.
          let kept = ignored_kept s h.bytes rest tail (subst (IsIgnored s) h.joined i) in
          subst (λ z. Reads p z xs q (10 ∷ tail)) (sym (append_assoc s h.bytes (10 ∷ tail)))
          (ignored p q s (h.bytes ++ 10 ∷ tail) (10 ∷ tail) xs kept (h.again tail));
    }
read (token p q t s more rest xs i r) =
    let h = read r in
    let x : Lexeme = record { token = t; start = position p; stop = position (after_all p s) } in
    record {
      bytes = s ++ h.bytes;
      joined = ap (λ z. s ++ z) h.joined ∙ sym (append_assoc s h.bytes rest);
      index = grown p q s h.bytes h.index;
      again = λ tail.
          let kept = token_kept t s h.bytes rest tail (subst (IsToken t s) h.joined i) in
          subst (λ z. Reads p z (x ∷ xs) q (10 ∷ tail)) (sym (append_assoc s h.bytes (10 ∷ tail)))
          (token p q t s (h.bytes ++ 10 ∷ tail) (10 ∷ tail) xs kept (h.again tail));
    }

pub joined : {p q r : Cursor} {text mid rest : List ℕ} {xs ys : List Lexeme} → Reads p text xs q mid
    → Reads q mid ys r rest → Reads p text (xs ++ ys) r rest
joined (nothing p text) k = k
joined {r = r} {rest = rest} {ys = ys} (ignored p q s more mid xs i h) k = ignored p r s more rest (xs ++ ys) i (joined h k)
joined {r = r} {rest = rest} {ys = ys} (token p q t s more mid xs i h) k = token p r t s more rest (xs ++ ys) i (joined h k)

-- ---- the tokens before one of them
pub nil_not : (b m : List Lexeme) (x : Lexeme) → [] ≡ b ++ x ∷ m → ⊥
nil_not [] m x e = cc
nil_not (y ∷ b) m x e = cc

-- x is the last of these, or it is before
abbrev pub LastOrBefore : List Lexeme → Lexeme → List Lexeme → Lexeme → Type 0
LastOrBefore w last b x = ((w ≡ b) × (last ≡ x)) ⊎ ((m : List Lexeme) × (w ≡ b ++ x ∷ m))

behind_one : (y z : Lexeme) (w b : List Lexeme) (last x : Lexeme) → y ≡ z → LastOrBefore w last b x → LastOrBefore (y ∷ w) last (z ∷ b) x
behind_one y z w b last x e (inl (f, g)) = let h : y ∷ w ≡ z ∷ b = cc in inl (h, g)
behind_one y z w b last x e (inr (m, f)) = let h : y ∷ w ≡ z ∷ (b ++ x ∷ m) = cc in inr (m, h)

pub last_or_before : (w b m : List Lexeme) (last x : Lexeme) → w ++ last ∷ [] ≡ b ++ x ∷ m → LastOrBefore w last b x
last_or_before [] [] m last x e = let f : last ≡ x = cc in inl (refl, f)
last_or_before [] (z ∷ b) m last x e = let f : [] ≡ b ++ x ∷ m = cc in absurd (nil_not b m x f)
last_or_before (y ∷ w) [] m last x e = let f : y ≡ x = cc in inr (w, ap (λ u. u ∷ w) f)
last_or_before (y ∷ w) (z ∷ b) m last x e =
    let f : y ≡ z = cc in
    let g : w ++ last ∷ [] ≡ b ++ x ∷ m = cc in
    behind_one y z w b last x f (last_or_before w b m last x g)

-- no token is the end
pub no_end : {p q : Cursor} {text rest : List ℕ} {xs : List Lexeme} → Reads p text xs q rest
    → (b m : List Lexeme) (x : Lexeme) → xs ≡ b ++ x ∷ m → x.token ≡ end → ⊥
no_end (nothing p text) b m x e k = nil_not b m x e
no_end (ignored p q s more rest xs i r) b m x e k = no_end r b m x e k
no_end (token p q t s more rest xs i r) [] m x e k =
    let y : Lexeme = record { token = t; start = position p; stop = position (after_all p s) } in
    let f : y ≡ x = cc in
    let g : t ≡ end = ap (λ (u : Lexeme). u.token) f ∙ k in
    let h : false ≡ true = sym (token_goes_on t s more i) ∙ ap is_last g in
    cc
no_end (token p q t s more rest xs i r) (z ∷ b) m x e k =
    let g : xs ≡ b ++ x ∷ m = cc in
    no_end r b m x g k

-- where x stands, and the tokens before it
pub record Before (text : List ℕ) (origin : Cursor) (before : List Lexeme) (x : Lexeme) : Type 0 where
  pub place : Cursor
  pub rest : List ℕ
  pub there : position place ≡ x.start
  pub reads : Reads origin text before place rest

before_one : {p q : Cursor} {text rest : List ℕ} {xs : List Lexeme} → Reads p text xs q rest
    → (b m : List Lexeme) (x : Lexeme) → xs ≡ b ++ x ∷ m → Before text p b x
before_one (nothing p text) b m x e = absurd (nil_not b m x e)
before_one (ignored p q s more rest xs i r) b m x e =
    let f = before_one r b m x e in
    record { place = f.place; rest = f.rest; there = f.there; reads = ignored p f.place s more f.rest b i f.reads }
before_one (token p q t s more rest xs i r) [] m x e =
    let y : Lexeme = record { token = t; start = position p; stop = position (after_all p s) } in
    let f : y ≡ x = cc in
    record { place = p; rest = s ++ more; there = ap (λ (u : Lexeme). u.start) f; reads = nothing p (s ++ more) }
before_one (token p q t s more rest xs i r) (z ∷ b) m x e =
    let y : Lexeme = record { token = t; start = position p; stop = position (after_all p s) } in
    let g : xs ≡ b ++ x ∷ m = cc in
    let h : y ≡ z = cc in
    let f = before_one r b m x g in
    record {
      place = f.place;
      rest = f.rest;
      there = f.there;
      reads = subst (λ u. Reads p (s ++ more) (u ∷ b) f.place f.rest) h (token p f.place t s more f.rest b i f.reads);
    }

before_any : {q : Cursor} {text rest : List ℕ} {xs : List Lexeme} (b : List Lexeme) (x last : Lexeme)
    → Reads origin text xs q rest → position q ≡ last.start → LastOrBefore xs last b x → Before text origin b x
before_any {q} {text} {rest} b x last r starts (inl (e, f)) = record {
  place = q;
  rest = rest;
  there = starts ∙ ap (λ (u : Lexeme). u.start) f;
  reads = subst (λ u. Reads origin text u q rest) e r;
}
before_any b x last r starts (inr (m, e)) = before_one r b m x e

pub before_lexeme : (text : List ℕ) (b m : List Lexeme) (x : Lexeme) → AreLexemes text (b ++ x ∷ m) → Before text origin b x
before_lexeme text b m x (xs, t, q, rest, e, r, ends) = before_any b x (last_at t q) r refl (last_or_before xs b m (last_at t q) x (sym e))

-- ---- the same on another line
-- wherever a text begins, it has the same tokens
pub record Moved (p : Cursor) (text rest : List ℕ) : Type 0 where
  pub xs : List Lexeme
  pub place : Cursor
  pub reads : Reads p text xs place rest

pub moved : {p q : Cursor} {text rest : List ℕ} {xs : List Lexeme} → Reads p text xs q rest → (r : Cursor) → Moved r text rest
moved (nothing p text) r = record { xs = []; place = r; reads = nothing r text }
moved (ignored p q s more rest xs i h) r =
    let f = moved h (after_all r s) in
    record { xs = f.xs; place = f.place; reads = ignored r f.place s more rest f.xs i f.reads }
moved (token p q t s more rest xs i h) r =
    let f = moved h (after_all r s) in
    let x : Lexeme = record { token = t; start = position r; stop = position (after_all r s) } in
    record { xs = x ∷ f.xs; place = f.place; reads = token r f.place t s more rest f.xs i f.reads }

-- the tokens of a text that goes on on another line
pub behind_line : (front next rest : List ℕ) (before ys : List Lexeme) (p u : Cursor)
    → ((tail : List ℕ) → Reads origin (front ++ 10 ∷ tail) before p (10 ∷ tail)) → Reads (next_line p) next ys u rest
    → Reads origin (front ++ 10 ∷ next) (before ++ ys) u rest
behind_line front next rest before ys p u begun r =
    joined (begun next) (ignored p u (10 ∷ []) next rest ys (inr (inl (10, refl, refl))) r)
