-- An argument, and the arguments between parentheses.
use Rattle.std.proofs.Common.{◌≡◌, ℕ, List, [], ◌∷◌, ◌++◌, map, append_assoc, Option, Some, None, option_map, refl, sym, ap, subst, ◌∙◌}
use Rattle.language_types.specs.declared.position.SourcePosition.{SourcePosition}
use Rattle.language_types.specs.declared.position.Span.{Span}
use Rattle.language_types.specs.declared.position.Spanning.{Spanning}
use Rattle.language.specs.declared.tree.Arguments.{Arguments}
use Rattle.sdl_scalars.specs.declared.scalar.SourceScalar.{SourceScalar}
use Rattle.graphql_lexer.specs.Ahead.{ahead_of, behind, left, last_end_of, IsTaken, IsLeft, IsSpanOf}
use Rattle.graphql_lexer.specs.Lexemes.{Lexeme}
use Rattle.graphql_lexer.specs.Lexical as token
use Rattle.graphql_lexer.specs.declared.error.ReadError.{ReadError}
use Rattle.graphql_lexer.specs.declared.error.ReadError.TheVariants.{Syntax, OutOfMemory}
use Rattle.graphql_lexer.specs.declared.lexer.Punctuator.TheVariants.{At, Colon, ParenOpen, ParenClose}
use Rattle.graphql_lexer.specs.declared.tokens.Tokens.{Tokens}
use Rattle.value_reader.specs.Faults.{IsFirstFault}
use Rattle.value_reader.specs.Grammar.{Rules, lexeme, sign, null_name, Spells, Begins}
use Rattle.value_reader.specs.Values.{Key, Value, plain, null}
use Rattle.graphql_reader.specs.Arguments.{Argument, Directive, key_sign, parens_seen, SpellsArgument, SpellsArguments, SpellsDirective, SpellsEach, BeginsArgument, BeginsArguments, IsArguments, GoesOnArgument, IsArgumentFault}
use Rattle.graphql_reader.specs.Passed.{end_after, Reads}
use Rattle.graphql_reader.proofs.PartLaws.{taken, tail_same, Only}
use Rattle.graphql_reader.proofs.PassedLaws.{end_append, head_same, named, each_more, seen_more}

abbrev pub argument : Key → Value → Argument
argument k v = record { name = k; value = v }

-- ---- two keys with one token are one
abbrev key_of : List ℕ → SourcePosition → SourcePosition → Key
key_of n a b = record { name = n; span = record { start = a; end = b } }

name_of : (m n : List ℕ) (a b p q : SourcePosition) → lexeme (token.name m) a b ≡ lexeme (token.name n) p q → (m ≡ n) × (a ≡ p) × (b ≡ q)
name_of m n a b p q e =
    let t : token.name m ≡ token.name n = ap (λ x. x.token) e in (cc, ap (λ x. x.start) e, ap (λ x. x.stop) e)

pub key_same : (j k : Key) → key_sign j ≡ key_sign k → j ≡ k
key_same j k e =
    let (n, s, t) = name_of j.name k.name j.span.start j.span.end k.span.start k.span.end e in
    ap (λ m. key_of m j.span.start j.span.end) n ∙ ap (λ a. key_of k.name a j.span.end) s ∙ ap (λ b. key_of k.name k.span.start b) t

-- ---- the name and the colon
abbrev colon_at : Tokens → Lexeme
colon_at t = sign Colon (ahead_of t).start (ahead_of t).stop

headed : (k : Key) (old mid new : Tokens) → IsTaken (token.name k.name) old mid → IsSpanOf (ahead_of old) k.span → IsTaken (token.punctuator Colon) mid new → left old ≡ key_sign k ∷ colon_at mid ∷ left new
headed k old mid new t s c = named k old mid t s ∙ ap (λ xs. key_sign k ∷ xs) (taken (token.punctuator Colon) mid new c)

-- ---- what is read
pub argument_read : (rules : Rules) (k : Key) (v : Value) (old mid new : Tokens) (rest : List Lexeme) → IsTaken (token.name k.name) old mid → IsSpanOf (ahead_of old) k.span → IsTaken (token.punctuator Colon) mid new → Begins rules (left new) v rest → BeginsArgument rules (left old) (argument k v) rest
argument_read rules k v old mid new rest t s c (front, e, h) = (
  key_sign k ∷ colon_at mid ∷ front,
  headed k old mid new t s c ∙ ap (λ xs. key_sign k ∷ colon_at mid ∷ xs) e,
  ((ahead_of mid).start, (ahead_of mid).stop, front, refl, h),
)

pub argument_once : (rules : Rules) (k : Key) (v : Value) (old mid new : Tokens) (rest : List Lexeme) → IsTaken (token.name k.name) old mid → IsSpanOf (ahead_of old) k.span → IsTaken (token.punctuator Colon) mid new → Only rules (left new) v rest → (b : Argument) (more : List Lexeme) → BeginsArgument rules (left old) b more → (b ≡ argument k v) × (more ≡ rest)
argument_once rules k v old mid new rest t s c only b more (front, e, (p, q, inner, f, h)) =
    let whole : key_sign b.name ∷ sign Colon p q ∷ (inner ++ more) ≡ key_sign k ∷ colon_at mid ∷ left new =
    sym (e ∙ ap (λ xs. xs ++ more) f) ∙ headed k old mid new t s c in
    let behind_name : sign Colon p q ∷ (inner ++ more) ≡ colon_at mid ∷ left new = tail_same _ _ _ _ whole in
    let same : left new ≡ inner ++ more = sym (tail_same _ _ _ _ behind_name) in
    let (w, r) = only b.value more (inner, same, h) in
    (ap (λ j. argument j b.value) (key_same b.name k (head_same _ _ _ _ whole)) ∙ ap (λ u. argument k u) w, r)

-- ---- the first fault
abbrev pub origin : SourcePosition
origin = record { index = 0; line = 0; column = 0 }

abbrev pub nothing : Value
nothing = plain null (record { start = origin; end = origin })

nothing_spelled : List Lexeme
nothing_spelled = lexeme (token.name null_name) origin origin ∷ []

after_colon : (rules : Rules) (k : Key) (p q : SourcePosition) (v : Value) (more : List Lexeme) → Spells rules 0 v more → SpellsArgument rules (argument k v) (key_sign k ∷ sign Colon p q ∷ more)
after_colon rules k p q v more h = (p, q, more, refl, h)

some_key : Key
some_key = key_of [] origin origin

goes_on_none : (rules : Rules) → GoesOnArgument rules []
unfolding nothing_spelled
goes_on_none rules =
    (argument some_key nothing, key_sign some_key ∷ sign Colon origin origin ∷ nothing_spelled, after_colon rules some_key origin origin nothing nothing_spelled refl)

goes_on_name : (rules : Rules) (k : Key) → GoesOnArgument rules (key_sign k ∷ [])
unfolding nothing_spelled
goes_on_name rules k = (argument k nothing, sign Colon origin origin ∷ nothing_spelled, after_colon rules k origin origin nothing nothing_spelled refl)

pub name_fault : (rules : Rules) (old new : Tokens) (e : ReadError) → ((s : List ℕ) → IsLeft (token.name s) old new) → IsArgumentFault rules (left old) (left new) e
name_fault rules old new OutOfMemory h = tt
name_fault rules old new (Syntax e) h = (
  [],
  ahead_of old,
  behind old,
  ap left (h []).1,
  refl,
  goes_on_none rules,
  λ (a, more, (p, q, inner, f, s)). (h a.name.name).0 (ap (λ x. x.token) (head_same _ _ _ _ f)),
)

pub colon_fault : (rules : Rules) (k : Key) (old mid new : Tokens) (e : ReadError) → IsTaken (token.name k.name) old mid → IsSpanOf (ahead_of old) k.span → IsLeft (token.punctuator Colon) mid new → IsArgumentFault rules (left old) (left new) e
colon_fault rules k old mid new OutOfMemory t s h = tt
colon_fault rules k old mid new (Syntax e) t s (n, h) = (
  key_sign k ∷ [],
  ahead_of mid,
  behind mid,
  ap left h,
  named k old mid t s,
  goes_on_name rules k,
  λ (a, more, (p, q, inner, f, u)). n (ap (λ x. x.token) (head_same _ _ _ _ (tail_same _ _ _ _ f))),
)

pub value_fault : (rules : Rules) (k : Key) (old mid new : Tokens) (at : List Lexeme) (e : ReadError) → IsTaken (token.name k.name) old mid → IsSpanOf (ahead_of old) k.span → IsTaken (token.punctuator Colon) mid new → IsFirstFault rules (left new) at e → IsArgumentFault rules (left old) at e
value_fault rules k old mid new at OutOfMemory t s c h = tt
value_fault rules k old mid new at (Syntax e) t s c (before, x, more, l, f, ((v, rest, u), none, place)) = (
  key_sign k ∷ colon_at mid ∷ before,
  x,
  more,
  l,
  headed k old mid new t s c ∙ ap (λ xs. key_sign k ∷ colon_at mid ∷ xs) f,
  (argument k v, rest, after_colon rules k (ahead_of mid).start (ahead_of mid).stop v (before ++ rest) u),
  λ (a, tail, (p, q, inner, g, w)). none (a.value, tail, subst (λ xs. Spells rules 0 a.value xs) (sym (tail_same _ _ _ _ (tail_same _ _ _ _ g))) w),
)

-- ---- one after the other
-- the tokens up to here spell these
abbrev pub Reached : {T : Type 0} → (T → List Lexeme → Type 0) → List Lexeme → List T → List Lexeme → Type 0
Reached S ts xs rest = (front : List Lexeme) × (ts ≡ front ++ rest) × SpellsEach S xs front

-- the next tokens spell one
abbrev pub Next : {T : Type 0} → (T → List Lexeme → Type 0) → List Lexeme → T → List Lexeme → Type 0
Next S ts x rest = (front : List Lexeme) × (ts ≡ front ++ rest) × S x front

reached_more : {T : Type 0} (S : T → List Lexeme → Type 0) (ts : List Lexeme) (xs : List T) (x : T) (mid rest : List Lexeme) → Reached S ts xs mid → Next S mid x rest → Reached S ts (xs ++ x ∷ []) rest
reached_more S ts xs x mid rest (front, e, h) (one, f, s) =
    (front ++ one, e ∙ ap (λ ys. front ++ ys) f ∙ sym (append_assoc front one rest), each_more S xs x front one h s)

pub reached_new : {T U : Type 0} (S : T → List Lexeme → Type 0) (f : U → T) (ts : List Lexeme) (items : List U) → items ≡ [] → Reached S ts (map f items) ts
reached_new S f ts items e = subst (λ xs. Reached S ts (map f xs) ts) (sym e) ([], refl, refl)

pub reached_push : {T U : Type 0} (S : T → List Lexeme → Type 0) (f : U → T) (ts : List Lexeme) (items new : List U) (x : U) (mid rest : List Lexeme) → Reached S ts (map f items) mid → Next S mid (f x) rest → new ≡ items ++ x ∷ [] → Reached S ts (map f new) rest
reached_push S f ts items new x mid rest h b e =
    subst (λ xs. Reached S ts xs rest) (sym (seen_more f items new x e)) (reached_more S ts (map f items) (f x) mid rest h b)

pub not_none : {T : Type 0} (xs : List T) (x : T) → xs ++ x ∷ [] ≡ [] → ⊥
not_none [] x e = cc
not_none (w ∷ ws) x e = cc

pub pushed_some : {T U : Type 0} (f : U → T) (items new : List U) (x : U) → new ≡ items ++ x ∷ [] → map f new ≡ [] → ⊥
pushed_some f items new x e h = not_none (map f items) (f x) (sym (seen_more f items new x e) ∙ h)

paren_open : (span : Span) (old first : Tokens) → IsTaken (token.punctuator ParenOpen) old first → span.start ≡ (ahead_of old).start → left old ≡ sign ParenOpen span.start (ahead_of old).stop ∷ left first
paren_open span old first o s = taken (token.punctuator ParenOpen) old first o ∙ ap (λ p. sign ParenOpen p (ahead_of old).stop ∷ left first) (sym s)

paren_close : (span : Span) (mid new : Tokens) → IsTaken (token.punctuator ParenClose) mid new → span.end ≡ last_end_of new → left mid ≡ sign ParenClose (ahead_of mid).start span.end ∷ left new
paren_close span mid new c t =
    taken (token.punctuator ParenClose) mid new c ∙ ap (λ p. sign ParenClose (ahead_of mid).start p ∷ left new) (sym (t ∙ c.2))

pub arguments_read : (rules : Rules) (given : List Argument) (span : Span) (old first mid new : Tokens) → IsTaken (token.punctuator ParenOpen) old first → Reached (SpellsArgument rules) (left first) given (left mid) → (given ≡ [] → ⊥) → IsTaken (token.punctuator ParenClose) mid new → span.start ≡ (ahead_of old).start → span.end ≡ last_end_of new → BeginsArguments rules (left old) given span (left new)
arguments_read rules given span old first mid new o (inner, e, h) some c s t = (
  sign ParenOpen span.start (ahead_of old).stop ∷ (inner ++ sign ParenClose (ahead_of mid).start span.end ∷ []),
  paren_open span old first o s
      ∙ ap (λ xs. sign ParenOpen span.start (ahead_of old).stop ∷ xs) (e ∙ ap (λ xs. inner ++ xs) (paren_close span mid new c t) ∙ sym (append_assoc inner (sign ParenClose (ahead_of mid).start span.end ∷ []) (left new))),
  (some, inner, (ahead_of old).stop, (ahead_of mid).start, refl, h),
)

-- ---- a directive
at_name : (k : Key) (span : Span) (old mid after : Tokens) → IsTaken (token.punctuator At) old mid → IsTaken (token.name k.name) mid after → IsSpanOf (ahead_of mid) k.span → span.start ≡ (ahead_of old).start → left old ≡ sign At span.start (ahead_of old).stop ∷ key_sign k ∷ left after
at_name k span old mid after t n s e =
    taken (token.punctuator At) old mid t
    ∙ ap (λ p. sign At p (ahead_of old).stop ∷ left mid) (sym e) ∙ ap (λ xs. sign At span.start (ahead_of old).stop ∷ xs) (named k mid after n s)

abbrev pub directive : Key → Option (Spanning (Arguments SourceScalar) Span) → Span → Directive
directive k given span = record { name = k; arguments = option_map parens_seen given; span = span }

pub arguments_end : (rules : Rules) (given : List Argument) (span : Span) (place : SourcePosition) (ts : List Lexeme) → SpellsArguments rules given span ts → end_after place ts ≡ span.end
arguments_end rules given span place ts (some, inner, a, b, e, h) = ap (end_after place) e ∙ end_append a inner (sign ParenClose b span.end ∷ [])

pub directive_read : (rules : Rules) (k : Key) (given : Option (Spanning (Arguments SourceScalar) Span)) (span : Span) (old mid after new : Tokens) → IsTaken (token.punctuator At) old mid → IsTaken (token.name k.name) mid after → IsSpanOf (ahead_of mid) k.span → IsArguments rules after new given → span.start ≡ (ahead_of old).start → span.end ≡ last_end_of new → Reads (SpellsDirective rules (directive k given span)) old new
directive_read rules k None span old mid after new t n s (other, same) e f =
    let stop : last_end_of new ≡ k.span.end = ap last_end_of same ∙ n.2 ∙ sym s.1 in (
      sign At span.start (ahead_of old).stop ∷ key_sign k ∷ [],
      (at_name k span old mid after t n s e ∙ ap (λ u. sign At span.start (ahead_of old).stop ∷ key_sign k ∷ left u) (sym same), stop),
      ((ahead_of old).stop, [], refl, (refl, f ∙ stop)),
    )
directive_read rules k (Some p) span old mid after new t n s ((front, g, h), stop) e f = (
  sign At span.start (ahead_of old).stop ∷ key_sign k ∷ front,
  (at_name k span old mid after t n s e ∙ ap (λ xs. sign At span.start (ahead_of old).stop ∷ key_sign k ∷ xs) g, sym stop ∙ sym (arguments_end rules (parens_seen p).given p.span k.span.end front h)),
  ((ahead_of old).stop, front, refl, (h, f ∙ sym stop)),
)
