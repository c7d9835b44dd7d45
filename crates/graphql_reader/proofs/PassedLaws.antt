-- Productions that are read one after the other.
use Rattle.std.proofs.lemmas.List.{map_push}
use Rattle.std.proofs.Common.{◌≡◌, false, List, [], ◌∷◌, ◌++◌, map, append_assoc, append-nil, refl, sym, ap, subst, ◌∙◌}
use Rattle.language_types.specs.declared.position.SourcePosition.{SourcePosition}
use Rattle.language_types.specs.declared.position.Span.{Span}
use Rattle.graphql_lexer.specs.Ahead.{ahead_of, behind, left, last_end_of, IsTaken, IsSpanOf}
use Rattle.graphql_lexer.specs.Lexemes.{Lexeme, is_last}
use Rattle.graphql_lexer.specs.Lexical as token
use Rattle.graphql_lexer.specs.declared.tokens.Tokens.{Tokens}
use Rattle.value_reader.specs.Grammar.{lexeme}
use Rattle.value_reader.specs.Values.{Key}
use Rattle.graphql_reader.specs.Arguments.{key_sign, SpellsEach}
use Rattle.graphql_reader.specs.Passed.{end_after, Took, Reads, BeginsWith, Covers, One, Then}
use Rattle.graphql_reader.specs.Selections.{SpellsName}
use Rattle.graphql_reader.specs.OpenSets.{From}
use Rattle.graphql_reader.proofs.PartLaws.{taken}

abbrev pub Tokened : Type 1
Tokened = List Lexeme → Type 0

pub head_same : (x y : Lexeme) (xs ys : List Lexeme) → x ∷ xs ≡ y ∷ ys → x ≡ y
head_same x y xs ys e = cc

-- ---- where tokens end
pub end_append : (place : SourcePosition) (xs ys : List Lexeme) → end_after place (xs ++ ys) ≡ end_after (end_after place xs) ys
end_append place [] ys = refl
end_append place (x ∷ xs) ys = end_append x.stop xs ys

pub took_both : (a b c : Tokens) (xs ys : List Lexeme) → Took a xs b → Took b ys c → Took a (xs ++ ys) c
took_both a b c xs ys (e, s) (f, t) = (
  e ∙ ap (λ zs. xs ++ zs) f ∙ sym (append_assoc xs ys (left c)),
  t ∙ ap (λ p. end_after p ys) s ∙ sym (end_append (last_end_of a) xs ys),
)

-- ---- one token, or none
pub named : (k : Key) (old mid : Tokens) → IsTaken (token.name k.name) old mid → IsSpanOf (ahead_of old) k.span → left old ≡ key_sign k ∷ left mid
named k old mid t (s, e) =
    taken (token.name k.name) old mid t
    ∙ ap (λ a. lexeme (token.name k.name) a (ahead_of old).stop ∷ left mid) (sym s) ∙ ap (λ b. lexeme (token.name k.name) k.span.start b ∷ left mid) (sym e)

pub reads_one : (t : token.Token) (a b : Tokens) → IsTaken t a b → Reads (One t) a b
reads_one t a b h =
    (lexeme t (ahead_of a).start (ahead_of a).stop ∷ [], (taken t a b h, h.2), ((ahead_of a).start, (ahead_of a).stop, refl))

pub reads_name : (k : Key) (a b : Tokens) → IsTaken (token.name k.name) a b → IsSpanOf (ahead_of a) k.span → Reads (SpellsName k) a b
reads_name k a b t s = (key_sign k ∷ [], (named k a b t s, t.2 ∙ sym s.1), refl)

pub reads_none : (a b : Tokens) → b ≡ a → Reads (λ ts. ts ≡ []) a b
reads_none a b e = ([], (ap left (sym e), ap last_end_of e), refl)

-- ---- a token that is known
pub advanced : (t : token.Token) (old new : Tokens) → is_last t ≡ false → (ahead_of old).token ≡ t → (is_last (ahead_of old).token ≡ false → left new ≡ behind old) → last_end_of new ≡ (ahead_of old).stop → IsTaken t old new
advanced t old new more e l s = (e, l (ap is_last e ∙ more), s)

-- ---- two productions
pub reads_then : (P Q : Tokened) (a b c : Tokens) → Reads P a b → Reads Q b c → Reads (Then P Q) a c
reads_then P Q a b c (xs, t, p) (ys, u, q) = (xs ++ ys, took_both a b c xs ys t u, (xs, ys, refl, p, q))

pub reads_as : (P Q : Tokened) (a b : Tokens) → ((ts : List Lexeme) → P ts → Q ts) → Reads P a b → Reads Q a b
reads_as P Q a b f (xs, t, p) = (xs, t, f xs p)

pub then_right : (P Q R : Tokened) (ts : List Lexeme) → Then (Then P Q) R ts → Then P (Then Q R) ts
then_right P Q R ts (u, c, e, (a, b, f, p, q), r) = (a, b ++ c, e ∙ ap (λ xs. xs ++ c) f ∙ append_assoc a b c, p, (b, c, refl, q, r))

pub then_left : (P Q R : Tokened) (ts : List Lexeme) → Then P (Then Q R) ts → Then (Then P Q) R ts
then_left P Q R ts (a, u, e, p, (b, c, f, q, r)) = (a ++ b, c, e ∙ ap (λ xs. a ++ xs) f ∙ sym (append_assoc a b c), (a, b, refl, p, q), r)

pub reads_right : (P Q R : Tokened) (a b : Tokens) → Reads (Then (Then P Q) R) a b → Reads (Then P (Then Q R)) a b
reads_right P Q R a b = reads_as (Then (Then P Q) R) (Then P (Then Q R)) a b (then_right P Q R)

-- ---- what has some token
abbrev pub HasSome : Tokened → Type 0
HasSome P = (ts : List Lexeme) → P ts → ts ≡ [] → ⊥

pub some_one : (t : token.Token) → HasSome (One t)
some_one t ts (a, b, e) n = cc

pub some_name : (k : Key) → HasSome (SpellsName k)
some_name k ts e n = cc

front_none : (xs ys : List Lexeme) → xs ++ ys ≡ [] → xs ≡ []
front_none [] ys e = refl
front_none (x ∷ xs) ys e = cc

back_none : (xs ys : List Lexeme) → xs ++ ys ≡ [] → ys ≡ []
back_none [] ys e = e
back_none (x ∷ xs) ys e = cc

pub some_first : (P Q : Tokened) → HasSome P → HasSome (Then P Q)
some_first P Q some ts (a, b, e, p, q) n = some a p (front_none a b (sym e ∙ n))

pub some_second : (P Q : Tokened) → HasSome Q → HasSome (Then P Q)
some_second P Q some ts (a, b, e, p, q) n = some b q (back_none a b (sym e ∙ n))

-- ---- places
pub reads_covers : (P : Tokened) (span : Span) (a b : Tokens) → HasSome P → span.start ≡ (ahead_of a).start → span.end ≡ last_end_of b → Reads P a b → Reads (λ ts. P ts × Covers span ts) a b
reads_covers P span a b some s e ([], t, p) = absurd (some [] p refl)
reads_covers P span a b some s e (x ∷ xs, (l, f), p) =
    (x ∷ xs, (l, f), (p, (x, xs, refl, s ∙ ap (λ y. y.start) (head_same _ _ _ _ l), e ∙ f)))

pub reads_from : (P : Tokened) (start : SourcePosition) (a b : Tokens) → HasSome P → start ≡ (ahead_of a).start → Reads P a b → Reads (From start P) a b
reads_from P start a b some s ([], t, p) = absurd (some [] p refl)
reads_from P start a b some s (x ∷ xs, (l, f), p) =
    (x ∷ xs, (l, f), (x, xs, refl, s ∙ ap (λ y. y.start) (head_same _ _ _ _ l), p))

pub covers_part : (span : Span) (place : SourcePosition) (before part : List Lexeme) (x : Lexeme) (xs : List Lexeme) → part ≡ x ∷ xs → span.start ≡ x.start → span.end ≡ end_after place (before ++ part) → Covers span part
covers_part span place before part x xs e s t =
    (x, xs, e, s, t ∙ end_append place before part ∙ ap (λ ys. end_after (end_after place before) ys) e)

-- ---- one after the other
pub each_more : {T : Type 0} (S : T → List Lexeme → Type 0) (xs : List T) (x : T) (front one : List Lexeme) → SpellsEach S xs front → S x one → SpellsEach S (xs ++ x ∷ []) (front ++ one)
each_more S [] x front one e h = (one, [], ap (λ ts. ts ++ one) e ∙ sym (append-nil one), h, refl)
each_more S (w ∷ ws) x front one (a, b, e, hw, hs) h =
    (a, b ++ one, ap (λ ts. ts ++ one) e ∙ append_assoc a b one, hw, each_more S ws x b one hs h)

pub seen_more : {T U : Type 0} (f : U → T) (items new : List U) (x : U) → new ≡ items ++ x ∷ [] → map f new ≡ map f items ++ f x ∷ []
seen_more f items new x e = ap (λ xs. map f xs) e ∙ map_push f items x

pub reads_each : {T : Type 0} (S : T → Tokened) (a : Tokens) → Reads (SpellsEach S []) a a
reads_each S a = ([], (refl, refl), refl)

pub reads_more : {T : Type 0} (S : T → Tokened) (xs : List T) (x : T) (a b c : Tokens) → Reads (SpellsEach S xs) a b → Reads (S x) b c → Reads (SpellsEach S (xs ++ x ∷ [])) a c
reads_more S xs x a b c (front, t, h) (one, u, s) = (front ++ one, took_both a b c front one t u, each_more S xs x front one h s)

pub reads_push : {T U : Type 0} (S : T → Tokened) (f : U → T) (items new : List U) (x : U) (a b c : Tokens) → Reads (SpellsEach S (map f items)) a b → Reads (S (f x)) b c → new ≡ items ++ x ∷ [] → Reads (SpellsEach S (map f new)) a c
reads_push S f items new x a b c h r e =
    subst (λ xs. Reads (SpellsEach S xs) a c) (sym (seen_more f items new x e)) (reads_more S (map f items) (f x) a b c h r)

pub reads_new : {T U : Type 0} (S : T → Tokened) (f : U → T) (items : List U) (a : Tokens) → items ≡ [] → Reads (SpellsEach S (map f items)) a a
reads_new S f items a e = subst (λ xs. Reads (SpellsEach S (map f xs)) a a) (sym e) (reads_each S a)

-- ---- without the places where tokens end
pub begins : (P : Tokened) (a b : Tokens) → Reads P a b → BeginsWith P (left a) (left b)
begins P a b (xs, t, p) = (xs, t.0, p)

pub begins_then : (P Q : Tokened) (us vs ws : List Lexeme) → BeginsWith P us vs → BeginsWith Q vs ws → BeginsWith (Then P Q) us ws
begins_then P Q us vs ws (xs, e, p) (ys, f, q) =
    (xs ++ ys, e ∙ ap (λ zs. xs ++ zs) f ∙ sym (append_assoc xs ys ws), (xs, ys, refl, p, q))

-- a token that is taken ends them
pub begins_ended : (P : Tokened) (t : token.Token) (a b c : Tokens) → BeginsWith P (left a) (left b) → IsTaken t b c → Reads (Then P (One t)) a c
unfolding reads_one
begins_ended P t a b c (xs, e, p) h =
    let one = reads_one t b c h in (
      xs ++ one.0,
      (e ∙ ap (λ zs. xs ++ zs) (taken t b c h) ∙ sym (append_assoc xs one.0 (left c)), h.2 ∙ sym (end_append (last_end_of a) xs one.0)),
      (xs, one.0, refl, p, one.2),
    )
