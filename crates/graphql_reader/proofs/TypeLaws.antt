-- A type reference, from its name outwards.
use Rattle.std.proofs.Common.{◌≡◌, ℕ, suc, ◌-◌, true, List, [], ◌∷◌, ◌++◌, append_assoc, reverse, length, Option, Some, None, refl, sym, ap, subst, ◌∙◌, arith}
use Rattle.std.specs.Prelude.{slice_get}
use Rattle.std.proofs.lemmas.List.{reverse-append, reverse-reverse, length-append}
use Rattle.language_types.specs.Types.{TypeShape, outermost, by_outermost, non_null_of, list_of, wrapped_by, nullable_named}
use Rattle.language_types.specs.declared.types.TypeModifier.{TypeModifier}
use Rattle.language_types.specs.declared.types.TypeModifier.TheVariants as m
use Rattle.graphql_lexer.specs.Ahead.{IsTaken}
use Rattle.graphql_lexer.specs.Lexemes.{Lexeme}
use Rattle.graphql_lexer.specs.Lexical as token
use Rattle.graphql_lexer.specs.declared.lexer.Punctuator.TheVariants.{Bang, BracketOpen, BracketClose}
use Rattle.graphql_lexer.specs.declared.tokens.Tokens.{Tokens}
use Rattle.value_reader.specs.Grammar.{may_nest}
use Rattle.graphql_reader.specs.Passed.{Reads, One, Then}
use Rattle.graphql_reader.specs.Types.{MayBeNull, SpellsModified, SpellsShape, SpellsBrackets}
use Rattle.graphql_reader.proofs.PassedLaws.{HasSome, reads_one, reads_then, reads_as, some_one, some_first, some_second}

reverse_push : (ms : List TypeModifier) (x : TypeModifier) → reverse (ms ++ x ∷ []) ≡ x ∷ reverse ms
reverse_push ms x = reverse-append ms (x ∷ [])

-- ---- what may be made non-null
pub may_list : (k : TypeShape) → MayBeNull (reverse (list_of None k).modifiers)
may_list k rest e = let f : m.List None ∷ reverse k.modifiers ≡ m.NonNull ∷ rest = sym (reverse_push k.modifiers (m.List None)) ∙ e in cc

pub may_named : (k : TypeShape) → k.modifiers ≡ [] → MayBeNull (reverse k.modifiers)
may_named k e rest f = let g : [] ≡ m.NonNull ∷ rest = sym (ap reverse e) ∙ f in cc

last_at : (ms : List TypeModifier) (x : TypeModifier) → slice_get (ms ++ x ∷ []) (length ms) ≡ Some x
last_at [] x = refl
last_at (y ∷ ms) x = last_at ms x

last_pushed : (ms : List TypeModifier) (x : TypeModifier) → outermost (ms ++ x ∷ []) ≡ Some x
last_pushed ms x =
    let n : length (ms ++ x ∷ []) - 1 ≡ length ms = omega (arith, length-append ms (x ∷ [])) in
    ap (slice_get (ms ++ x ∷ [])) n ∙ last_at ms x

not_last : (rs : List TypeModifier) → MayBeNull rs → outermost (reverse rs) ≡ Some m.NonNull → ⊥
not_last [] may e = cc
not_last (r ∷ rs) may e =
    let f : Some r ≡ Some m.NonNull = sym (ap outermost (reverse-append (r ∷ []) rs) ∙ last_pushed (reverse rs) r) ∙ e in
    let g : r ≡ m.NonNull = cc in
    may rs (ap (λ x. x ∷ rs) g)

by_last : (k w : TypeShape) (o : Option TypeModifier) → (o ≡ Some m.NonNull → ⊥) → by_outermost k w w o ≡ w
by_last k w None n = refl
by_last k w (Some m.NonNull) n = absurd (n refl)
by_last k w (Some (m.List size)) n = refl

pub wraps : (k : TypeShape) → MayBeNull (reverse k.modifiers) → non_null_of k ≡ wrapped_by m.NonNull k
wraps k may =
    by_last k (wrapped_by m.NonNull k) (outermost k.modifiers) (λ e. not_last (reverse k.modifiers) may (ap outermost (reverse-reverse k.modifiers) ∙ e))

-- ---- one modifier more
shape_non_null : (limit : Option ℕ) (depth : ℕ) (k : TypeShape) (ts : List Lexeme) → MayBeNull (reverse k.modifiers) → Then (SpellsShape limit depth k) (One (token.punctuator Bang)) ts → SpellsShape limit depth (wrapped_by m.NonNull k) ts
shape_non_null limit depth k ts may h =
    subst (λ ms. SpellsModified limit depth k.name ms ts) (sym (reverse_push k.modifiers m.NonNull)) (may, h)

shape_list : (limit : Option ℕ) (depth : ℕ) (k : TypeShape) (ts : List Lexeme) → may_nest limit depth ≡ true → Then (One (token.punctuator BracketOpen)) (Then (SpellsShape limit (suc depth) k) (One (token.punctuator BracketClose))) ts → SpellsShape limit depth (list_of None k) ts
shape_list limit depth k ts nest h =
    subst (λ ms. SpellsModified limit depth k.name ms ts) (sym (reverse_push k.modifiers (m.List None))) (nest, h)

-- ---- between brackets
abbrev pub Inside : Option ℕ → ℕ → TypeShape → List Lexeme → Type 0
Inside limit depth k = Then (SpellsBrackets limit depth) (SpellsShape limit depth k)

bang_after : (limit : Option ℕ) (depth : ℕ) (k : TypeShape) → MayBeNull (reverse k.modifiers) → (ts : List Lexeme) → Then (Inside limit depth k) (One (token.punctuator Bang)) ts → Inside limit depth (wrapped_by m.NonNull k) ts
bang_after limit depth k may ts (u, bang, e, (outer, inner, f, hb, hs), h) = (
  outer,
  inner ++ bang,
  e ∙ ap (λ xs. xs ++ bang) f ∙ append_assoc outer inner bang,
  hb,
  shape_non_null limit depth k (inner ++ bang) may (inner, bang, refl, hs, h),
)

pub banged : (limit : Option ℕ) (depth : ℕ) (k w : TypeShape) (a b c : Tokens) → MayBeNull (reverse k.modifiers) → Reads (Inside limit depth k) a b → IsTaken (token.punctuator Bang) b c → w ≡ non_null_of k → Reads (Inside limit depth w) a c
banged limit depth k w a b c may h t e =
    subst (λ x. Reads (Inside limit depth x) a c) (sym (e ∙ wraps k may)) (reads_as (Then (Inside limit depth k) (One (token.punctuator Bang))) (Inside limit depth (wrapped_by m.NonNull k)) a c (bang_after limit depth k may) (reads_then (Inside limit depth k) (One (token.punctuator Bang)) a b c h (reads_one (token.punctuator Bang) b c t)))

regroup : (a b c d : List Lexeme) → ((a ++ b) ++ c) ++ d ≡ a ++ (b ++ (c ++ d))
regroup a b c d = simp append_assoc

close_after : (limit : Option ℕ) (depth : ℕ) (k : TypeShape) (ts : List Lexeme) → Then (Inside limit (suc depth) k) (One (token.punctuator BracketClose)) ts → Inside limit depth (list_of None k) ts
close_after limit depth k ts (v, close, e, (u, inner, f, (nest, (outer, bracket, g, hb, ho)), hs), hc) = (
  outer,
  bracket ++ (inner ++ close),
  e ∙ ap (λ xs. xs ++ close) (f ∙ ap (λ xs. xs ++ inner) g) ∙ regroup outer bracket inner close,
  hb,
  shape_list limit depth k (bracket ++ (inner ++ close)) nest (bracket, inner ++ close, refl, ho, (inner, close, refl, hs, hc)),
)

pub closed : (limit : Option ℕ) (depth : ℕ) (k w : TypeShape) (a b c : Tokens) → Reads (Inside limit (suc depth) k) a b → IsTaken (token.punctuator BracketClose) b c → w ≡ list_of None k → Reads (Inside limit depth w) a c
closed limit depth k w a b c h t e =
    subst (λ x. Reads (Inside limit depth x) a c) (sym e) (reads_as (Then (Inside limit (suc depth) k) (One (token.punctuator BracketClose))) (Inside limit depth (list_of None k)) a c (close_after limit depth k) (reads_then (Inside limit (suc depth) k) (One (token.punctuator BracketClose)) a b c h (reads_one (token.punctuator BracketClose) b c t)))

-- ---- the brackets, and the name behind them
pub bracket_more : (limit : Option ℕ) (n : ℕ) (a b c : Tokens) → Reads (SpellsBrackets limit n) a b → may_nest limit n ≡ true → IsTaken (token.punctuator BracketOpen) b c → Reads (SpellsBrackets limit (suc n)) a c
bracket_more limit n a b c h nest t =
    let (ts, took, s) = reads_then (SpellsBrackets limit n) (One (token.punctuator BracketOpen)) a b c h (reads_one (token.punctuator BracketOpen) b c t) in
    (ts, took, (nest, s))

pub named_inside : (limit : Option ℕ) (n : ℕ) (name : List ℕ) (k : TypeShape) (a b c : Tokens) → Reads (SpellsBrackets limit n) a b → IsTaken (token.name name) b c → k ≡ nullable_named name → Reads (Inside limit n k) a c
named_inside limit n name k a b c h t e =
    subst (λ x. Reads (Inside limit n x) a c) (sym e) (reads_then (SpellsBrackets limit n) (One (token.name name)) a b c h (reads_one (token.name name) b c t))

pub outside : (limit : Option ℕ) (k : TypeShape) (a b : Tokens) → Reads (Inside limit 0 k) a b → Reads (SpellsShape limit 0 k) a b
outside limit k a b h =
    reads_as (Inside limit 0 k) (SpellsShape limit 0 k) a b (λ ts (u, inner, e, none, s). subst (SpellsShape limit 0 k) (sym (e ∙ ap (λ xs. xs ++ inner) none)) s) h

some_modified : (limit : Option ℕ) (depth : ℕ) (name : List ℕ) (ms : List TypeModifier) → HasSome (SpellsModified limit depth name ms)
some_modified limit depth name [] = some_one (token.name name)
some_modified limit depth name (m.NonNull ∷ ms) = λ ts (may, h). some_second (SpellsModified limit depth name ms) (One (token.punctuator Bang)) (some_one (token.punctuator Bang)) ts h
some_modified limit depth name (m.List None ∷ ms) = λ ts (nest, h). some_first (One (token.punctuator BracketOpen)) (Then (SpellsModified limit (suc depth) name ms) (One (token.punctuator BracketClose))) (some_one (token.punctuator BracketOpen)) ts h
some_modified limit depth name (m.List (Some n) ∷ ms) = λ ts h. absurd h

pub some_shape : (limit : Option ℕ) (k : TypeShape) → HasSome (SpellsShape limit 0 k)
some_shape limit k = some_modified limit 0 k.name (reverse k.modifiers)
