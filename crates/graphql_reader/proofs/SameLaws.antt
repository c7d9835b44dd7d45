-- Two spellings of tokens that begin alike.
use Rattle.std.proofs.Common.{◌≡◌, List, [], ◌∷◌, ◌++◌, append_assoc, Option, Some, None, refl, sym, ap, subst, ◌∙◌}
use Rattle.language_types.specs.declared.position.SourcePosition.{SourcePosition}
use Rattle.language_types.specs.declared.position.Span.{Span}
use Rattle.graphql_lexer.specs.Lexemes.{Lexeme}
use Rattle.graphql_lexer.specs.Lexical as token
use Rattle.value_reader.specs.Grammar.{lexeme}
use Rattle.value_reader.specs.Values.{Key}
use Rattle.graphql_reader.specs.Arguments.{key_sign, SpellsEach}
use Rattle.graphql_reader.specs.Passed.{end_after, Covers, One, Then, Optional}
use Rattle.graphql_reader.specs.Selections.{SpellsName}
use Rattle.graphql_reader.proofs.ArgumentLaws.{key_same}
use Rattle.graphql_reader.proofs.PartLaws.{tail_same}
use Rattle.graphql_reader.proofs.PassedLaws.{Tokened, head_same}

-- where P and Q begin the same tokens, and F is of what follows each, they take the same tokens, and E holds
pub record Same (P Q F : Tokened) (E : Type 0) : Type 0 where
  pub same : (a b r s : List Lexeme) → P a → Q b → F r → F s → a ++ r ≡ b ++ s → E × (a ≡ b) × (r ≡ s)

-- they never do
pub record Apart (P Q F : Tokened) : Type 0 where
  pub apart : (a b r s : List Lexeme) → P a → Q b → F r → F s → a ++ r ≡ b ++ s → ⊥

-- the first token, or the end where there is none
abbrev pub first : List Lexeme → token.Token
first [] = token.end
first (x ∷ xs) = x.token

-- K is of the first token
pub record Starts (K : token.Token → Type 0) (P : Tokened) : Type 0 where
  pub starts : (a r : List Lexeme) → P a → K (first (a ++ r))

-- where F is of what follows Q, G is of that with Q before it
pub record Before (Q F G : Tokened) : Type 0 where
  pub before : (b r : List Lexeme) → Q b → F r → G (b ++ r)

abbrev pub Any : Tokened
Any r = Unit {0}

abbrev pub No : (token.Token → Type 0) → Tokened
No K r = K (first r) → ⊥

abbrev pub And : Tokened → Tokened → Tokened
And F G r = F r × G r

-- ---- what follows
pub same_less : {P Q F G : Tokened} {E : Type 0} → ((r : List Lexeme) → G r → F r) → Same P Q F E → Same P Q G E
same_less f h = record { same = λ a b r s p q u v w. h.same a b r s p q (f r u) (f s v) w }

pub same_so : {P Q F : Tokened} {E D : Type 0} → (E → D) → Same P Q F E → Same P Q F D
same_so f h = record { same = λ a b r s p q u v w. let (e, x, y) = h.same a b r s p q u v w in (f e, x, y) }

pub same_swap : {P Q F : Tokened} {E : Type 0} → Same P Q F E → Same Q P F E
same_swap h = record { same = λ a b r s q p u v w. let (e, x, y) = h.same b a s r p q v u (sym w) in (e, sym x, sym y) }

pub same_apart : {P Q F : Tokened} {E : Type 0} → Apart P Q F → Same P Q F E
same_apart h = record { same = λ a b r s p q u v w. absurd (h.apart a b r s p q u v w) }

pub apart_swap : {P Q F : Tokened} → Apart P Q F → Apart Q P F
apart_swap h = record { apart = λ a b r s q p u v w. h.apart b a s r p q v u (sym w) }

pub apart_first : {P Q F : Tokened} {K M : token.Token → Type 0} → Starts K P → Starts M Q → ((t : token.Token) → K t → M t → ⊥) → Apart P Q F
apart_first {K = K} k m f = record { apart = λ a b r s p q u v w. f (first (b ++ s)) (subst K (ap first w) (k.starts a r p)) (m.starts b s q) }

-- ---- what is another by another word
pub same_through : {P Q P2 Q2 F : Tokened} {E : Type 0} → ((ts : List Lexeme) → P2 ts → P ts) → ((ts : List Lexeme) → Q2 ts → Q ts) → Same P Q F E → Same P2 Q2 F E
same_through f g h = record { same = λ a b r s p q u v w. h.same a b r s (f a p) (g b q) u v w }

pub starts_through : {K : token.Token → Type 0} {P Q : Tokened} → ((ts : List Lexeme) → Q ts → P ts) → Starts K P → Starts K Q
starts_through f h = record { starts = λ a r q. h.starts a r (f a q) }

pub apart_through : {P Q P2 Q2 F : Tokened} → ((ts : List Lexeme) → P2 ts → P ts) → ((ts : List Lexeme) → Q2 ts → Q ts) → Apart P Q F → Apart P2 Q2 F
apart_through f g h = record { apart = λ a b r s p q u v w. h.apart a b r s (f a p) (g b q) u v w }

-- ---- one token
pub starts_one : (t : token.Token) → Starts (λ u. u ≡ t) (One t)
starts_one t = record { starts = λ a r (p, q, e). ap (λ z. first (z ++ r)) e }

pub starts_name : (k : Key) → Starts (λ u. u ≡ token.name k.name) (SpellsName k)
starts_name k = record { starts = λ a r e. ap (λ z. first (z ++ r)) e }

shown : (x y : Lexeme) (a b r s : List Lexeme) → a ≡ x ∷ [] → b ≡ y ∷ [] → a ++ r ≡ b ++ s → x ∷ r ≡ y ∷ s
shown x y a b r s e f w = sym (ap (λ z. z ++ r) e) ∙ w ∙ ap (λ z. z ++ s) f

pub same_one : (t u : token.Token) → Same (One t) (One u) Any (t ≡ u)
same_one t u = record {
  same = λ a b r s (p, q, e) (p2, q2, f) x y w.
      let h : lexeme t p q ∷ r ≡ lexeme u p2 q2 ∷ s = shown (lexeme t p q) (lexeme u p2 q2) a b r s e f w in
      let i : lexeme t p q ≡ lexeme u p2 q2 = head_same _ _ _ _ h in
      (ap (λ l. l.token) i, e ∙ ap (λ l. l ∷ []) i ∙ sym f, tail_same _ _ _ _ h);
}

pub same_name : (j k : Key) → Same (SpellsName j) (SpellsName k) Any (j ≡ k)
same_name j k = record {
  same = λ a b r s e f x y w.
      let h : key_sign j ∷ r ≡ key_sign k ∷ s = shown (key_sign j) (key_sign k) a b r s e f w in
      let i : key_sign j ≡ key_sign k = head_same _ _ _ _ h in
      (key_same j k i, e ∙ ap (λ l. l ∷ []) i ∙ sym f, tail_same _ _ _ _ h);
}

-- ---- two productions
pub starts_then : {K : token.Token → Type 0} {P Q : Tokened} → Starts K P → Starts K (Then P Q)
starts_then {K} h = record {
  starts = λ a r (x, y, e, p, q). subst K (sym (ap (λ z. first (z ++ r)) e ∙ ap first (append_assoc x y r))) (h.starts x (y ++ r) p);
}

pub before_then : {P Q F G H : Tokened} → Before Q F G → Before P G H → Before (Then P Q) F H
before_then {H = H} g h = record {
  before = λ b r (x, y, e, p, q) f. subst H (sym (ap (λ z. z ++ r) e ∙ append_assoc x y r)) (h.before x (y ++ r) p (g.before y r q f));
}

pub before_any : {Q F : Tokened} → Before Q F Any
before_any = record { before = λ b r q f. tt }

pub before_and : {Q F G H : Tokened} → Before Q F G → Before Q F H → Before Q F (And G H)
before_and g h = record { before = λ b r q f. (g.before b r q f, h.before b r q f) }

pub before_less : {Q F G H : Tokened} → ((r : List Lexeme) → H r → F r) → Before Q F G → Before Q H G
before_less f g = record { before = λ b r q h. g.before b r q (f r h) }

pub before_starts : {K M : token.Token → Type 0} {Q F : Tokened} → Starts K Q → ((t : token.Token) → K t → M t → ⊥) → Before Q F (No M)
before_starts s f = record { before = λ b r q h m. f (first (b ++ r)) (s.starts b r q) m }

pub same_then : {P P2 Q Q2 F G : Tokened} {D E : Type 0} → Same P P2 F D → Same Q Q2 G E → Before Q G F → Before Q2 G F → Same (Then P Q) (Then P2 Q2) G (D × E)
same_then h k g g2 = record {
  same = λ a b r s (a1, a2, e, p, q) (b1, b2, f, p2, q2) u v w.
      let w1 : a1 ++ (a2 ++ r) ≡ b1 ++ (b2 ++ s) = sym (ap (λ z. z ++ r) e ∙ append_assoc a1 a2 r) ∙ w ∙ ap (λ z. z ++ s) f ∙ append_assoc b1 b2 s in
      let (x, ea, w2) = h.same a1 b1 (a2 ++ r) (b2 ++ s) p p2 (g.before a2 r q u) (g2.before b2 s q2 v) w1 in
      let (y, eb, w3) = k.same a2 b2 r s q q2 u v w2 in
      ((x, y), e ∙ ap (λ z. z ++ a2) ea ∙ ap (λ z. b1 ++ z) eb ∙ sym f, w3);
}

-- P alone does not begin as P2 does with Q behind it
pub apart_longer : {P P2 Q F G : Tokened} {D : Type 0} {K : token.Token → Type 0} → Same P P2 F D → ((r : List Lexeme) → G r → F r) → Before Q G F → Starts K Q → ((r : List Lexeme) → G r → K (first r) → ⊥) → Apart P (Then P2 Q) G
apart_longer {K = K} h f g k n = record {
  apart = λ a b r s p (b1, b2, e, p2, q) u v w.
      let (x, ea, w2) = h.same a b1 r (b2 ++ s) p p2 (f r u) (g.before b2 s q v) (w ∙ ap (λ z. z ++ s) e ∙ append_assoc b1 b2 s) in
      n r u (subst K (ap first (sym w2)) (k.starts b2 s q));
}

-- ---- what may be absent
nothing : (a b r s : List Lexeme) → a ≡ [] → a ++ r ≡ b ++ s → r ≡ b ++ s
nothing a b r s e w = sym (ap (λ z. z ++ r) e) ∙ w

pub same_optional : {T : Type 0} {S : T → Tokened} {K : token.Token → Type 0} {F : Tokened} → ((x y : T) → Same (S x) (S y) F (x ≡ y)) → ((x : T) → Starts K (S x)) → (o p : Option T) → Same (Optional S o) (Optional S p) (And (No K) F) (o ≡ p)
same_optional h k None None = record { same = λ a b r s e f u v w. (refl, e ∙ sym f, nothing a b r s e w ∙ ap (λ z. z ++ s) f) }
same_optional {K = K} h k None (Some y) = record {
  same = λ a b r s e q u v w. absurd (u.0 (subst K (ap first (sym (nothing a b r s e w))) ((k y).starts b s q)));
}
same_optional {K = K} h k (Some x) None = record {
  same = λ a b r s p f u v w. absurd (v.0 (subst K (ap first (sym (nothing b a s r f (sym w)))) ((k x).starts a r p)));
}
same_optional h k (Some x) (Some y) = record {
  same = λ a b r s p q u v w. let (e, f, g) = (h x y).same a b r s p q u.1 v.1 w in (ap Some e, f, g);
}

pub before_optional : {T : Type 0} {S : T → Tokened} {K M : token.Token → Type 0} {F : Tokened} → ((x : T) → Starts K (S x)) → ((t : token.Token) → K t → M t → ⊥) → (o : Option T) → ((r : List Lexeme) → F r → No M r) → Before (Optional S o) F (No M)
before_optional {M = M} k f None g = record { before = λ b r e h m. g r h (subst M (ap (λ z. first (z ++ r)) e) m) }
before_optional k f (Some x) g = record { before = λ b r q h m. f (first (b ++ r)) ((k x).starts b r q) m }

-- ---- one after the other
pub before_each : {T : Type 0} {S : T → Tokened} {F : Tokened} (K : token.Token → Type 0) → ((x : T) → Before (S x) Any F) → (xs : List T) → Before (SpellsEach S xs) (And (No K) F) F
before_each {F = F} K g [] = record { before = λ b r e h. subst F (sym (ap (λ z. z ++ r) e)) h.1 }
before_each {F = F} K g (x ∷ xs) = record {
  before = λ b r (b1, b2, e, p, ps) h. subst F (sym (ap (λ z. z ++ r) e ∙ append_assoc b1 b2 r)) ((g x).before b1 (b2 ++ r) p tt);
}

pub same_each : {T : Type 0} {S : T → Tokened} {K : token.Token → Type 0} {F : Tokened} → ((x y : T) → Same (S x) (S y) F (x ≡ y)) → ((x : T) → Starts K (S x)) → ((x : T) → Before (S x) Any F) → (xs ys : List T) → Same (SpellsEach S xs) (SpellsEach S ys) (And (No K) F) (xs ≡ ys)
same_each h k g [] [] = record { same = λ a b r s e f u v w. (refl, e ∙ sym f, nothing a b r s e w ∙ ap (λ z. z ++ s) f) }
same_each {S = S} {K = K} h k g [] (y ∷ ys) = record {
  same = λ a b r s e (b1, b2, f, q, qs) u v w.
      absurd (u.0 (subst K (ap first (sym (nothing a b r s e w))) ((starts_then {Q = SpellsEach S ys} (k y)).starts b s (b1, b2, f, q, qs))));
}
same_each {S = S} {K = K} h k g (x ∷ xs) [] = record {
  same = λ a b r s (a1, a2, e, p, ps) f u v w.
      absurd (v.0 (subst K (ap first (sym (nothing b a s r f (sym w)))) ((starts_then {Q = SpellsEach S xs} (k x)).starts a r (a1, a2, e, p, ps))));
}
same_each {S = S} {K = K} {F = F} h k g (x ∷ xs) (y ∷ ys) =
    same_so (λ (e, f). ap (λ z. z ∷ xs) e ∙ ap (λ zs. y ∷ zs) f) (same_then (h x y) (same_each h k g xs ys) (before_each K g xs) (before_each K g ys))

-- ---- spans
abbrev span_of : SourcePosition → SourcePosition → Span
span_of a b = record { start = a; end = b }

pub span_same : (s t : Span) (a b : List Lexeme) → Covers s a → Covers t b → a ≡ b → s ≡ t
span_same s t a b (x, xs, e, p, q) (y, ys, f, p2, q2) w =
    let h : x ∷ xs ≡ y ∷ ys = sym e ∙ w ∙ f in
    let i : x ≡ y = head_same _ _ _ _ h in
    let j : xs ≡ ys = tail_same _ _ _ _ h in
    ap (λ z. span_of z s.end) (p ∙ ap (λ l. l.start) i ∙ sym p2)
    ∙ ap (λ z. span_of t.start z) (q ∙ ap (λ l. end_after l.stop xs) i ∙ ap (λ ls. end_after y.stop ls) j ∙ sym q2)

pub same_covered : {P Q F : Tokened} {E : Type 0} (s t : Span) → Same P Q F E → Same (λ ts. P ts × Covers s ts) (λ ts. Q ts × Covers t ts) F (E × (s ≡ t))
same_covered s t h = record {
  same = λ a b r z (p, c) (q, d) u v w. let (e, f, g) = h.same a b r z p q u v w in ((e, span_same s t a b c d f), f, g);
}
