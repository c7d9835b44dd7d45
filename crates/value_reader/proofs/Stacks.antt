-- The tokens that are read so far spell what is begun.
use Rattle.std.proofs.Common.{◌≡◌, ℕ, suc, Bool, true, false, if◌then◌else◌, List, [], ◌∷◌, ◌++◌, Option, Some, None, option_map, append_assoc, append-nil, bytes_eq, refl, sym, ap, subst, ◌∙◌}
use Rattle.std.proofs.lemmas.Slice.Eq.{bytes_eq-Decides}
use Rattle.language_types.specs.declared.position.SourcePosition.{SourcePosition}
use Rattle.graphql_strings.specs.BlockStrings.{block_string_value}
use Rattle.graphql_lexer.specs.Lexemes.{Lexeme}
use Rattle.graphql_lexer.specs.Lexical as token
use Rattle.graphql_lexer.specs.declared.lexer.Punctuator.TheVariants.{Dollar, Colon, BracketOpen, BracketClose, BraceOpen, BraceClose}
use Rattle.value_reader.specs.Grammar.{Rules, may_nest, lexeme, sign, boolean_name, null_name, SpellsPlain, Spells, SpellsItems, SpellsFields}
use Rattle.value_reader.specs.Values.{Plain, int, float, string, boolean, null, enum, variable, Key, Value, plain, list, object}
use Rattle.value_reader.specs.Machine.{Entry, Frame, in_list, at_key, at_colon, at_value, at_name, Turn, going, done, refused, items_of, fields_of, span_of, depth_of, attach, push, named, plain_of, string_text, attach_plain, value_turn, item_turn, key_turn, colon_turn, name_turn, step_by, takes_value}
use Rattle.value_reader.proofs.Texts.{string_reads}
use Rattle.value_reader.proofs.Complete.{entry}

-- an object that starts there, inside of what fs have begun; P of the tokens inside it
abbrev pub InObject : Rules → SourcePosition → List Frame → (List Lexeme → Type 0) → (List Lexeme → Type 0) → List Lexeme → Type 0
InObject rules from fs P Outer before =
    (outer : List Lexeme) × (inner : List Lexeme) × (a : SourcePosition) × (before ≡ outer ++ sign BraceOpen from a ∷ inner)
    × (may_nest rules.limit (depth_of fs) ≡ true) × P inner × Outer outer × (takes_value fs ≡ true)

abbrev pub InList : Rules → SourcePosition → List Frame → (List Lexeme → Type 0) → (List Lexeme → Type 0) → List Lexeme → Type 0
InList rules from fs P Outer before =
    (outer : List Lexeme) × (inner : List Lexeme) × (a : SourcePosition) × (before ≡ outer ++ sign BracketOpen from a ∷ inner)
    × (may_nest rules.limit (depth_of fs) ≡ true) × P inner × Outer outer × (takes_value fs ≡ true)

abbrev pub key_sign : Key → Lexeme
key_sign k = lexeme (token.name k.name) k.span.start k.span.end

abbrev pub SpellsEntries : Rules → List Frame → List Entry → List Lexeme → Type 0
SpellsEntries rules fs es inner = SpellsFields rules (suc (depth_of fs)) (fields_of es) inner

abbrev pub BeforeColon : Rules → List Frame → List Entry → Key → List Lexeme → Type 0
BeforeColon rules fs es k inner = (front : List Lexeme) × (inner ≡ front ++ key_sign k ∷ []) × SpellsEntries rules fs es front

abbrev pub BeforeValue : Rules → List Frame → List Entry → Key → List Lexeme → Type 0
BeforeValue rules fs es k inner =
    (front : List Lexeme) × (a : SourcePosition) × (b : SourcePosition) × (inner ≡ front ++ key_sign k ∷ sign Colon a b ∷ []) × SpellsEntries rules fs es front

abbrev pub SpellsStack : Rules → List Frame → List Lexeme → Type 0
SpellsStack rules [] before = before ≡ []
SpellsStack rules (in_list from vs ∷ fs) before = InList rules from fs (λ inner. SpellsItems rules (suc (depth_of fs)) (items_of vs) inner) (SpellsStack rules fs) before
SpellsStack rules (at_key from es ∷ fs) before = InObject rules from fs (SpellsEntries rules fs es) (SpellsStack rules fs) before
SpellsStack rules (at_colon from es k ∷ fs) before = InObject rules from fs (BeforeColon rules fs es k) (SpellsStack rules fs) before
SpellsStack rules (at_value from es k ∷ fs) before = InObject rules from fs (BeforeValue rules fs es k) (SpellsStack rules fs) before
SpellsStack rules (at_name from ∷ fs) before =
    (outer : List Lexeme) × (a : SourcePosition) × (before ≡ outer ++ sign Dollar from a ∷ []) × (rules.variables ≡ true) × SpellsStack rules fs outer × (takes_value fs ≡ true)

abbrev pub SpellsTurn : Rules → Turn → List Lexeme → Type 0
SpellsTurn rules (going fs) before = SpellsStack rules fs before
SpellsTurn rules (done v) before = Spells rules 0 v before
SpellsTurn rules refused before = Unit {0}

-- ---- one more value
pub items_more : (rules : Rules) (d : ℕ) (vs : List Value) (v : Value) (inner one : List Lexeme) → SpellsItems rules d (items_of vs) inner → Spells rules d v one → SpellsItems rules d (items_of (vs ++ v ∷ [])) (inner ++ one)
items_more rules d [] v inner one e h = (one, [], ap (λ ts. ts ++ one) e ∙ sym (append-nil one), h, refl)
items_more rules d (w ∷ ws) v inner one (x, y, e, hw, hws) h = (x, y ++ one, ap (λ ts. ts ++ one) e ∙ append_assoc x y one, hw, items_more rules d ws v y one hws h)

four : (x y z one : List Lexeme) → ((x ++ y) ++ z) ++ one ≡ x ++ ((y ++ z) ++ one)
four x y z one = simp append_assoc

pub fields_more : (rules : Rules) (d : ℕ) (es : List Entry) (k : Key) (v : Value) (front one : List Lexeme) (a b : SourcePosition) → SpellsFields rules d (fields_of es) front → Spells rules d v one → SpellsFields rules d (fields_of (es ++ entry k v ∷ [])) ((front ++ key_sign k ∷ sign Colon a b ∷ []) ++ one)
fields_more rules d [] k v front one a b e h =
    let n = key_sign k in
    let m = sign Colon a b in
    (a, b, one, [], ap (λ ts. (ts ++ n ∷ m ∷ []) ++ one) e ∙ ap (λ ts. n ∷ m ∷ ts) (sym (append-nil one)), h, refl)
fields_more rules d (w ∷ ws) k v front one a b (c, e, x, y, same, hw, hws) h =
    let n = key_sign k in
    let m = sign Colon a b in (
      c,
      e,
      x,
      (y ++ n ∷ m ∷ []) ++ one,
      ap (λ ts. (ts ++ n ∷ m ∷ []) ++ one) same ∙ ap (λ ts. key_sign w.key ∷ sign Colon c e ∷ ts) (four x y (n ∷ m ∷ []) one),
      hw,
      fields_more rules d ws k v y one a b hws h,
    )

pub regroup : (outer inner one : List Lexeme) (x : Lexeme) → (outer ++ x ∷ inner) ++ one ≡ outer ++ x ∷ (inner ++ one)
regroup outer inner one x = append_assoc outer (x ∷ inner) one

pub attach_spells : (rules : Rules) (v : Value) (fs : List Frame) (before one : List Lexeme) → takes_value fs ≡ true → SpellsStack rules fs before → Spells rules (depth_of fs) v one → SpellsTurn rules (attach v fs) (before ++ one)
attach_spells rules v [] before one free e h = subst (Spells rules 0 v) (sym (ap (λ ts. ts ++ one) e)) h
attach_spells rules v (in_list from vs ∷ fs) before one free (outer, inner, a, e, n, hs, k, t) h =
    (outer, inner ++ one, a, ap (λ ts. ts ++ one) e ∙ regroup outer inner one (sign BracketOpen from a), n, items_more rules (suc (depth_of fs)) vs v inner one hs h, k, t)
attach_spells rules v (at_key from es ∷ fs) before one free k h = absurd (let no : false ≡ true = free in cc)
attach_spells rules v (at_colon from es j ∷ fs) before one free k h = absurd (let no : false ≡ true = free in cc)
attach_spells rules v (at_value from es j ∷ fs) before one free (outer, inner, a, e, n, (front, c, d, e2, hm), k, t) h = (
  outer,
  inner ++ one,
  a,
  ap (λ ts. ts ++ one) e ∙ regroup outer inner one (sign BraceOpen from a),
  n,
  subst (SpellsEntries rules fs (es ++ entry j v ∷ [])) (sym (ap (λ ts. ts ++ one) e2)) (fields_more rules (suc (depth_of fs)) es j v front one c d hm h),
  k,
  t,
)
attach_spells rules v (at_name from ∷ fs) before one free k h = absurd (let no : false ≡ true = free in cc)

-- ---- one token
push_list : (rules : Rules) (b : Bool) (start stop : SourcePosition) (fs : List Frame) (before : List Lexeme) → may_nest rules.limit (depth_of fs) ≡ b → takes_value fs ≡ true → SpellsStack rules fs before → SpellsTurn rules (push b (in_list start []) fs) (before ++ sign BracketOpen start stop ∷ [])
push_list rules true start stop fs before n t k = (before, [], stop, refl, n, refl, k, t)
push_list rules false start stop fs before n t k = tt

push_object : (rules : Rules) (b : Bool) (start stop : SourcePosition) (fs : List Frame) (before : List Lexeme) → may_nest rules.limit (depth_of fs) ≡ b → takes_value fs ≡ true → SpellsStack rules fs before → SpellsTurn rules (push b (at_key start []) fs) (before ++ sign BraceOpen start stop ∷ [])
push_object rules true start stop fs before n t k = (before, [], stop, refl, n, refl, k, t)
push_object rules false start stop fs before n t k = tt

push_name : (rules : Rules) (b : Bool) (start stop : SourcePosition) (fs : List Frame) (before : List Lexeme) → rules.variables ≡ b → takes_value fs ≡ true → SpellsStack rules fs before → SpellsTurn rules (push b (at_name start) fs) (before ++ sign Dollar start stop ∷ [])
push_name rules true start stop fs before n t k = (before, stop, refl, n, k, t)
push_name rules false start stop fs before n t k = tt

abbrev Alone : Rules → token.Token → SourcePosition → SourcePosition → Plain → Type 0
Alone rules t a b p = SpellsPlain rules p (span_of a b) (lexeme t a b ∷ [])

-- a name
name_if : (rules : Rules) (n : List ℕ) (a b : SourcePosition) (x y z : Bool) → bytes_eq n null_name ≡ x → bytes_eq n (boolean_name true) ≡ y → bytes_eq n (boolean_name false) ≡ z → Alone rules (token.name n) a b (if x then null else if y then boolean true else if z then boolean false else enum n)
name_if rules n a b true y z h k l = ap (λ m. lexeme (token.name m) a b ∷ []) ((bytes_eq-Decides n null_name).0 h)
name_if rules n a b false true z h k l = ap (λ m. lexeme (token.name m) a b ∷ []) ((bytes_eq-Decides n (boolean_name true)).0 k)
name_if rules n a b false false true h k l = ap (λ m. lexeme (token.name m) a b ∷ []) ((bytes_eq-Decides n (boolean_name false)).0 l)
name_if rules n a b false false false h k l =
    ((λ e. let no = (bytes_eq-Decides n (boolean_name true)).1 e in cc, λ e. let no = (bytes_eq-Decides n (boolean_name false)).1 e in cc, λ e. let no = (bytes_eq-Decides n null_name).1 e in cc), refl)

string_alone : (rules : Rules) (raw : List ℕ) (a b : SourcePosition) (o : Option (List ℕ)) (p : Plain) → string_text raw ≡ o → option_map string o ≡ Some p → Alone rules (token.string raw) a b p
string_alone rules raw a b None p h e = cc
string_alone rules raw a b (Some s) p h e = let same : string s ≡ p = cc in subst (Alone rules (token.string raw) a b) same (token.string raw, string_reads raw s h, refl)

some_same : (p q : Plain) → Some p ≡ Some q → p ≡ q
some_same p q e = cc

plain_alone : (rules : Rules) (t : token.Token) (a b : SourcePosition) (p : Plain) → plain_of t ≡ Some p → Alone rules t a b p
plain_alone rules (token.punctuator q) a b p e = cc
plain_alone rules (token.name n) a b p e =
    let same : named n ≡ p = cc in
    subst (Alone rules (token.name n) a b) same (name_if rules n a b (bytes_eq n null_name) (bytes_eq n (boolean_name true)) (bytes_eq n (boolean_name false)) refl refl refl)
plain_alone rules (token.int s) a b p e = let same : int s ≡ p = cc in subst (Alone rules (token.int s) a b) same refl
plain_alone rules (token.float s) a b p e = let same : float s ≡ p = cc in subst (Alone rules (token.float s) a b) same refl
plain_alone rules (token.string raw) a b p e = string_alone rules raw a b (string_text raw) p refl e
plain_alone rules (token.block_string raw) a b p e = subst (Alone rules (token.block_string raw) a b) (some_same (string (block_string_value raw)) p e) (token.block_string raw, refl, refl)
plain_alone rules token.end a b p e = cc
plain_alone rules token.fault a b p e = cc

plain_spells : (rules : Rules) (fs : List Frame) (t : token.Token) (a b : SourcePosition) (before : List Lexeme) (o : Option Plain) → plain_of t ≡ o → takes_value fs ≡ true → SpellsStack rules fs before → SpellsTurn rules (attach_plain o (span_of a b) fs) (before ++ lexeme t a b ∷ [])
plain_spells rules fs t a b before None e free k = tt
plain_spells rules fs t a b before (Some p) e free k = attach_spells rules (plain p (span_of a b)) fs before (lexeme t a b ∷ []) free k (plain_alone rules t a b p e)

value_spells : (rules : Rules) (fs : List Frame) (t : token.Token) (a b : SourcePosition) (before : List Lexeme) → takes_value fs ≡ true → SpellsStack rules fs before → SpellsTurn rules (value_turn rules fs t a b) (before ++ lexeme t a b ∷ [])
value_spells rules fs (token.punctuator BracketOpen) a b before h k = push_list rules (may_nest rules.limit (depth_of fs)) a b fs before refl h k
value_spells rules fs (token.punctuator BraceOpen) a b before h k = push_object rules (may_nest rules.limit (depth_of fs)) a b fs before refl h k
value_spells rules fs (token.punctuator Dollar) a b before h k = push_name rules rules.variables a b fs before refl h k
value_spells rules fs t a b before h k = plain_spells rules fs t a b before (plain_of t) refl h k

item_spells : (rules : Rules) (from : SourcePosition) (vs : List Value) (fs : List Frame) (t : token.Token) (a b : SourcePosition) (before : List Lexeme) → SpellsStack rules (in_list from vs ∷ fs) before → SpellsTurn rules (item_turn rules from vs fs t a b) (before ++ lexeme t a b ∷ [])
item_spells rules from vs fs (token.punctuator BracketClose) a b before (outer, inner, c, e, n, hs, k, t) =
    subst (SpellsTurn rules (attach (list (items_of vs) (span_of from b)) fs))
    (sym (ap (λ ts. ts ++ sign BracketClose a b ∷ []) e ∙ regroup outer inner (sign BracketClose a b ∷ []) (sign BracketOpen from c)))
    (attach_spells rules (list (items_of vs) (span_of from b)) fs outer _ t k (n, inner, c, a, refl, hs))
item_spells rules from vs fs t a b before k = value_spells rules (in_list from vs ∷ fs) t a b before refl k

key_spells : (rules : Rules) (from : SourcePosition) (es : List Entry) (fs : List Frame) (t : token.Token) (a b : SourcePosition) (before : List Lexeme) → SpellsStack rules (at_key from es ∷ fs) before → SpellsTurn rules (key_turn from es fs t a b) (before ++ lexeme t a b ∷ [])
key_spells rules from es fs (token.punctuator BraceClose) a b before (outer, inner, c, e, n, hs, k, t) =
    subst (SpellsTurn rules (attach (object (fields_of es) (span_of from b)) fs))
    (sym (ap (λ ts. ts ++ sign BraceClose a b ∷ []) e ∙ regroup outer inner (sign BraceClose a b ∷ []) (sign BraceOpen from c)))
    (attach_spells rules (object (fields_of es) (span_of from b)) fs outer _ t k (n, inner, c, a, refl, hs))
key_spells rules from es fs (token.name m) a b before (outer, inner, c, e, n, hs, k, t) =
    let x = lexeme (token.name m) a b in
    (outer, inner ++ x ∷ [], c, ap (λ ts. ts ++ x ∷ []) e ∙ regroup outer inner (x ∷ []) (sign BraceOpen from c), n, (inner, refl, hs), k, t)
key_spells rules from es fs _ a b before k = tt

colon_spells : (rules : Rules) (from : SourcePosition) (es : List Entry) (j : Key) (fs : List Frame) (t : token.Token) (a b : SourcePosition) (before : List Lexeme) → SpellsStack rules (at_colon from es j ∷ fs) before → SpellsTurn rules (colon_turn from es j fs t) (before ++ lexeme t a b ∷ [])
colon_spells rules from es j fs (token.punctuator Colon) a b before (outer, inner, c, e, n, (front, e2, hm), k, t) =
    let x = sign Colon a b in (
      outer,
      inner ++ x ∷ [],
      c,
      ap (λ ts. ts ++ x ∷ []) e ∙ regroup outer inner (x ∷ []) (sign BraceOpen from c),
      n,
      (front, a, b, ap (λ ts. ts ++ x ∷ []) e2 ∙ append_assoc front (key_sign j ∷ []) (x ∷ []), hm),
      k,
      t,
    )
colon_spells rules from es j fs _ a b before k = tt

name_spells : (rules : Rules) (from : SourcePosition) (fs : List Frame) (t : token.Token) (a b : SourcePosition) (before : List Lexeme) → SpellsStack rules (at_name from ∷ fs) before → SpellsTurn rules (name_turn from fs t b) (before ++ lexeme t a b ∷ [])
name_spells rules from fs (token.name m) a b before (outer, c, e, allowed, k, t) =
    let x = lexeme (token.name m) a b in
    subst (SpellsTurn rules (attach (plain (variable m) (span_of from b)) fs))
    (sym (ap (λ ts. ts ++ x ∷ []) e ∙ append_assoc outer (sign Dollar from c ∷ []) (x ∷ [])))
    (attach_spells rules (plain (variable m) (span_of from b)) fs outer (sign Dollar from c ∷ x ∷ []) t k (allowed, c, a, refl))
name_spells rules from fs _ a b before k = tt

pub step_spells : (rules : Rules) (fs : List Frame) (t : token.Token) (a b : SourcePosition) (before : List Lexeme) → SpellsStack rules fs before → SpellsTurn rules (step_by rules fs t a b) (before ++ lexeme t a b ∷ [])
step_spells rules [] t a b before k = value_spells rules [] t a b before refl k
step_spells rules (in_list from vs ∷ fs) t a b before k = item_spells rules from vs fs t a b before k
step_spells rules (at_key from es ∷ fs) t a b before k = key_spells rules from es fs t a b before k
step_spells rules (at_colon from es j ∷ fs) t a b before k = colon_spells rules from es j fs t a b before k
step_spells rules (at_value from es j ∷ fs) t a b before k = value_spells rules (at_value from es j ∷ fs) t a b before refl k
step_spells rules (at_name from ∷ fs) t a b before k = name_spells rules from fs t a b before k
