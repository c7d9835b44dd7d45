-- What is spelled is read, whatever follows it.
use Rattle.std.proofs.Common.{◌≡◌, ℕ, suc, true, List, [], ◌∷◌, ◌++◌, Some, Ok, append_assoc, append-nil, refl, sym, ap, ◌∙◌}
use Rattle.language_types.specs.declared.position.SourcePosition.{SourcePosition}
use Rattle.language_types.specs.declared.position.Span.{Span}
use Rattle.graphql_lexer.specs.Lexemes.{Lexeme}
use Rattle.graphql_lexer.specs.Lexical as token
use Rattle.graphql_lexer.specs.declared.lexer.Punctuator.TheVariants.{Dollar, Colon, BracketOpen, BracketClose, BraceOpen, BraceClose}
use Rattle.value_reader.specs.Grammar.{Rules, may_nest, lexeme, sign, boolean_name, null_name, SpellsPlain, Spells, SpellsItems, SpellsFields, Begins}
use Rattle.value_reader.specs.Values.{Plain, int, float, string, boolean, null, enum, variable, Key, Value, plain, list, object, Items, no_items, item, Fields, no_fields, field}
use Rattle.value_reader.specs.Machine.{Entry, Frame, in_list, at_key, at_colon, at_value, at_name, items_of, fields_of, span_of, depth_of, attach, push, takes_value}
use Rattle.value_reader.proofs.Runs.{Read, run, after, run_attached, run_going, run_plain, step_value, named_enum, named_boolean, named_null, text_token}

abbrev pub list_of : Items → List Value
list_of no_items = []
list_of (item v vs) = v ∷ list_of vs

abbrev pub entry : Key → Value → Entry
entry k v = record { key = k; value = v }

abbrev pub entries_of : Fields → List Entry
entries_of no_fields = []
entries_of (field k v fs) = entry k v ∷ entries_of fs

items_of-list_of : (vs : Items) → items_of (list_of vs) ≡ vs
items_of-list_of no_items = refl
items_of-list_of (item v vs) = ap (item v) (items_of-list_of vs)

fields_of-entries_of : (fs : Fields) → fields_of (entries_of fs) ≡ fs
fields_of-entries_of no_fields = refl
fields_of-entries_of (field k v fs) = ap (field k v) (fields_of-entries_of fs)

-- ---- one token
run_list : (rules : Rules) (a b : SourcePosition) (fs : List Frame) (rest : List Lexeme) → may_nest rules.limit (depth_of fs) ≡ true → takes_value fs ≡ true → run rules fs (sign BracketOpen a b ∷ rest) ≡ run rules (in_list a [] ∷ fs) rest
run_list rules a b fs rest n h =
    run_going rules fs (in_list a [] ∷ fs) (sign BracketOpen a b) rest (step_value rules fs (token.punctuator BracketOpen) a b h tt ∙ ap (λ c. push c (in_list a []) fs) n)

run_object : (rules : Rules) (a b : SourcePosition) (fs : List Frame) (rest : List Lexeme) → may_nest rules.limit (depth_of fs) ≡ true → takes_value fs ≡ true → run rules fs (sign BraceOpen a b ∷ rest) ≡ run rules (at_key a [] ∷ fs) rest
run_object rules a b fs rest n h =
    run_going rules fs (at_key a [] ∷ fs) (sign BraceOpen a b) rest (step_value rules fs (token.punctuator BraceOpen) a b h tt ∙ ap (λ c. push c (at_key a []) fs) n)

run_variable : (rules : Rules) (n : List ℕ) (from a b stop : SourcePosition) (fs : List Frame) (rest : List Lexeme) → rules.variables ≡ true → takes_value fs ≡ true → run rules fs (sign Dollar from a ∷ lexeme (token.name n) b stop ∷ rest) ≡ after rules (attach (plain (variable n) (span_of from stop)) fs) rest
run_variable rules n from a b stop fs rest allowed h =
    run_going rules fs (at_name from ∷ fs) (sign Dollar from a) (lexeme (token.name n) b stop ∷ rest) (step_value rules fs (token.punctuator Dollar) from a h tt ∙ ap (λ c. push c (at_name from) fs) allowed)
    ∙ run_attached rules (at_name from ∷ fs) fs (lexeme (token.name n) b stop) (plain (variable n) (span_of from stop)) rest refl

run_list_end : (rules : Rules) (from b stop : SourcePosition) (vs : List Value) (fs : List Frame) (rest : List Lexeme) → run rules (in_list from vs ∷ fs) (sign BracketClose b stop ∷ rest) ≡ after rules (attach (list (items_of vs) (span_of from stop)) fs) rest
run_list_end rules from b stop vs fs rest = run_attached rules (in_list from vs ∷ fs) fs (sign BracketClose b stop) (list (items_of vs) (span_of from stop)) rest refl

run_object_end : (rules : Rules) (from b stop : SourcePosition) (es : List Entry) (fs : List Frame) (rest : List Lexeme) → run rules (at_key from es ∷ fs) (sign BraceClose b stop ∷ rest) ≡ after rules (attach (object (fields_of es) (span_of from stop)) fs) rest
run_object_end rules from b stop es fs rest = run_attached rules (at_key from es ∷ fs) fs (sign BraceClose b stop) (object (fields_of es) (span_of from stop)) rest refl

run_key : (rules : Rules) (k : Key) (from a b : SourcePosition) (es : List Entry) (fs : List Frame) (rest : List Lexeme) → run rules (at_key from es ∷ fs) (lexeme (token.name k.name) k.span.start k.span.end ∷ sign Colon a b ∷ rest) ≡ run rules (at_value from es k ∷ fs) rest
run_key rules k from a b es fs rest =
    run_going rules (at_key from es ∷ fs) (at_colon from es k ∷ fs) (lexeme (token.name k.name) k.span.start k.span.end) (sign Colon a b ∷ rest) refl
    ∙ run_going rules (at_colon from es k ∷ fs) (at_value from es k ∷ fs) (sign Colon a b) rest refl

-- ---- a value
complete_plain : (rules : Rules) (p : Plain) (span : Span) (fs : List Frame) (front rest : List Lexeme) → takes_value fs ≡ true → SpellsPlain rules p span front → run rules fs (front ++ rest) ≡ after rules (attach (plain p span) fs) rest
complete_plain rules (variable n) span fs front rest t (allowed, a, b, e) = ap (λ ts. run rules fs (ts ++ rest)) e ∙ run_variable rules n span.start a b span.end fs rest allowed t
complete_plain rules (int s) span fs front rest t e = ap (λ ts. run rules fs (ts ++ rest)) e ∙ run_plain rules fs (token.int s) (int s) span.start span.end rest refl t
complete_plain rules (float s) span fs front rest t e = ap (λ ts. run rules fs (ts ++ rest)) e ∙ run_plain rules fs (token.float s) (float s) span.start span.end rest refl t
complete_plain rules (string s) span fs front rest t (k, h, e) = ap (λ ts. run rules fs (ts ++ rest)) e ∙ run_plain rules fs k (string s) span.start span.end rest (text_token k s h) t
complete_plain rules (boolean b) span fs front rest t e =
    ap (λ ts. run rules fs (ts ++ rest)) e ∙ run_plain rules fs (token.name (boolean_name b)) (boolean b) span.start span.end rest (ap (λ p. Some p) (named_boolean b)) t
complete_plain rules null span fs front rest t e = ap (λ ts. run rules fs (ts ++ rest)) e ∙ run_plain rules fs (token.name null_name) null span.start span.end rest (ap (λ p. Some p) named_null) t
complete_plain rules (enum n) span fs front rest t (h, e) =
    ap (λ ts. run rules fs (ts ++ rest)) e ∙ run_plain rules fs (token.name n) (enum n) span.start span.end rest (ap (λ p. Some p) (named_enum n h)) t

mutual
  complete : (rules : Rules) (v : Value) (fs : List Frame) (front rest : List Lexeme) → takes_value fs ≡ true → Spells rules (depth_of fs) v front → run rules fs (front ++ rest) ≡ after rules (attach v fs) rest
  complete rules (plain p span) fs front rest t h = complete_plain rules p span fs front rest t h
  complete rules (list vs span) fs front rest t (n, inner, a, b, e, h) =
      ap (λ ts. run rules fs (ts ++ rest)) e
      ∙ run_list rules span.start a fs ((inner ++ sign BracketClose b span.end ∷ []) ++ rest) n t
      ∙ ap (run rules (in_list span.start [] ∷ fs)) (append_assoc inner _ _)
      ∙ complete_items rules vs span.start [] fs inner (sign BracketClose b span.end ∷ rest) h
      ∙ run_list_end rules span.start b span.end (list_of vs) fs rest
      ∙ ap (λ items. after rules (attach (list items span) fs) rest) (items_of-list_of vs)
  complete rules (object ms span) fs front rest t (n, inner, a, b, e, h) =
      ap (λ ts. run rules fs (ts ++ rest)) e
      ∙ run_object rules span.start a fs ((inner ++ sign BraceClose b span.end ∷ []) ++ rest) n t
      ∙ ap (run rules (at_key span.start [] ∷ fs)) (append_assoc inner _ _)
      ∙ complete_fields rules ms span.start [] fs inner (sign BraceClose b span.end ∷ rest) h
      ∙ run_object_end rules span.start b span.end (entries_of ms) fs rest
      ∙ ap (λ fields. after rules (attach (object fields span) fs) rest) (fields_of-entries_of ms)

  complete_items : (rules : Rules) (vs : Items) (from : SourcePosition) (before : List Value) (fs : List Frame) (front rest : List Lexeme) → SpellsItems rules (suc (depth_of fs)) vs front → run rules (in_list from before ∷ fs) (front ++ rest) ≡ run rules (in_list from (before ++ list_of vs) ∷ fs) rest
  complete_items rules no_items from before fs front rest h =
      ap (λ ts. run rules (in_list from before ∷ fs) (ts ++ rest)) h ∙ ap (λ vs. run rules (in_list from vs ∷ fs) rest) (sym (append-nil before))
  complete_items rules (item v vs) from before fs front rest (one, more, e, h, k) =
      ap (λ ts. run rules (in_list from before ∷ fs) (ts ++ rest)) e
      ∙ ap (run rules (in_list from before ∷ fs)) (append_assoc one _ _)
      ∙ complete rules v (in_list from before ∷ fs) one (more ++ rest) refl h
      ∙ complete_items rules vs from (before ++ v ∷ []) fs more rest k
      ∙ ap (λ vs. run rules (in_list from vs ∷ fs) rest) (append_assoc before _ _)

  complete_fields : (rules : Rules) (ms : Fields) (from : SourcePosition) (before : List Entry) (fs : List Frame) (front rest : List Lexeme) → SpellsFields rules (suc (depth_of fs)) ms front → run rules (at_key from before ∷ fs) (front ++ rest) ≡ run rules (at_key from (before ++ entries_of ms) ∷ fs) rest
  complete_fields rules no_fields from before fs front rest h =
      ap (λ ts. run rules (at_key from before ∷ fs) (ts ++ rest)) h ∙ ap (λ vs. run rules (at_key from vs ∷ fs) rest) (sym (append-nil before))
  complete_fields rules (field key v ms) from before fs front rest (a, b, one, more, e, h, k) =
      ap (λ ts. run rules (at_key from before ∷ fs) (ts ++ rest)) e
      ∙ run_key rules key from a b before fs ((one ++ more) ++ rest)
      ∙ ap (run rules (at_value from before key ∷ fs)) (append_assoc one _ _)
      ∙ complete rules v (at_value from before key ∷ fs) one (more ++ rest) refl h
      ∙ complete_fields rules ms from (before ++ entry key v ∷ []) fs more rest k
      ∙ ap (λ vs. run rules (at_key from vs ∷ fs) rest) (append_assoc before _ _)

pub completes : (rules : Rules) (v : Value) (front rest : List Lexeme) → Spells rules 0 v front → run rules [] (front ++ rest) ≡ Ok (v, rest)
completes rules v front rest h = complete rules v [] front rest refl h

pub begins_read : (rules : Rules) (ts : List Lexeme) (v : Value) (rest : List Lexeme) → Begins rules ts v rest → run rules [] ts ≡ Ok (v, rest)
begins_read rules ts v rest (front, e, h) = ap (run rules []) e ∙ completes rules v front rest h

pub begins_once : (rules : Rules) (ts : List Lexeme) (v w : Value) (rest other : List Lexeme) → Begins rules ts v rest → Begins rules ts w other → (w ≡ v) × (other ≡ rest)
begins_once rules ts v w rest other h k =
    let a : Value × List Lexeme = (v, rest) in
    let b : Value × List Lexeme = (w, other) in
    let ra : Read = Ok a in
    let rb : Read = Ok b in
    let met : rb ≡ ra = sym (begins_read rules ts w other k) ∙ begins_read rules ts v rest h in
    let same : b ≡ a = cc in
    (ap (λ p. p.0) same, ap (λ p. p.1) same)
