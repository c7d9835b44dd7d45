-- Definitions, and a whole document.
use Rattle.std.proofs.Common.{◌≡◌, ◌⊎◌, inl, inr, ℕ, List, [], ◌∷◌, ◌++◌, Option, Some, None, option_map, Result, Ok, Err, IfOk, OnOk, refl, sym, ap, subst, ◌∙◌}
use Rattle.language_types.specs.declared.position.Span.{Span}
use Rattle.language_types.specs.declared.position.Spanning.{Spanning}
use Rattle.language.specs.declared.tree.OperationType.TheVariants.{Query}
use Rattle.language_values.specs.declared.value.InputValue.{InputValue}
use Rattle.sdl_scalars.specs.declared.scalar.SourceScalar.{SourceScalar}
use Rattle.graphql_lexer.specs.Ahead.{ahead_of, left, last_end_of, IsTaken}
use Rattle.graphql_lexer.specs.Lexemes.{Lexeme, AreLexemes}
use Rattle.graphql_lexer.specs.Lexical as token
use Rattle.graphql_lexer.specs.declared.lexer.Punctuator.TheVariants.{BraceOpen, BraceClose, Colon, Dollar, Equals, ParenOpen, ParenClose}
use Rattle.graphql_lexer.specs.declared.tokens.Tokens.{Tokens}
use Rattle.value_reader.specs.Grammar.{sign}
use Rattle.value_reader.specs.Seen.{value_seen}
use Rattle.value_reader.specs.Values.{Key}
use Rattle.graphql_reader.specs.Arguments.{SpellsDirectives, SpellsEach}
use Rattle.graphql_reader.specs.Documents.{Variable, Variables, Operation, Fragment, Definition, IsDocument, SpellsDefault, SpellsDefinition, SpellsFragment, SpellsLongOperation, SpellsOperation, SpellsShortOperation, SpellsVariable, SpellsVariableDefinition, SpellsVariables, constant_rules, fragment_word, keyword}
use Rattle.graphql_reader.specs.Parts.{IsDefault}
use Rattle.graphql_reader.specs.Passed.{Reads, BeginsWith, One, Then, Optional}
use Rattle.graphql_reader.specs.Selections.{Selections, SpellsCondition, SpellsFragmentName, SpellsMore, SpellsName, SpellsSet, open_rules}
use Rattle.graphql_reader.specs.Types.{SpellsType}
use Rattle.graphql_reader.proofs.ConstantLaws.{behind_end}
use Rattle.graphql_reader.proofs.PassedLaws.{Tokened, HasSome, begins, begins_then, begins_ended, reads_as, reads_covers, reads_one, reads_right, reads_then, some_first, some_one}

-- ---- variables
pub variable_read : (k : Key) (a b c : Tokens) → IsTaken (token.punctuator Dollar) a b → IsTaken (token.name k.name) b c → k.span.start ≡ (ahead_of a).start → k.span.end ≡ last_end_of c → Reads (SpellsVariable k) a c
variable_read k a b c d n start stop =
    reads_covers (Then (One (token.punctuator Dollar)) (One (token.name k.name))) k.span a c (some_first (One (token.punctuator Dollar)) (One (token.name k.name)) (some_one (token.punctuator Dollar))) start stop (reads_then (One (token.punctuator Dollar)) (One (token.name k.name)) a b c (reads_one (token.punctuator Dollar) a b d) (reads_one (token.name k.name) b c n))

pub default_begins : (limit : Option ℕ) (old new : Tokens) (v : Option (Spanning (InputValue SourceScalar) Span)) → IsDefault (constant_rules limit) old new v → BeginsWith (Optional (SpellsDefault limit) (option_map value_seen v)) (left old) (left new)
default_begins limit old new None (n, e) = ([], ap left (sym e), refl)
default_begins limit old new (Some v) ((a, b, more, e, (front, f, h)), only) =
    (sign Equals a b ∷ front, e ∙ ap (λ xs. sign Equals a b ∷ xs) f, (sign Equals a b ∷ [], front, refl, (a, b, refl), h))

pub variable_defined : (limit : Option ℕ) (v : Variable) (a b c d e f : Tokens) → Reads (SpellsVariable v.name) a b → IsTaken (token.punctuator Colon) b c → Reads (SpellsType limit v.kind) c d → BeginsWith (Optional (SpellsDefault limit) v.default) (left d) (left e) → Reads (Optional (SpellsDirectives (constant_rules limit)) v.directives) e f → BeginsWith (SpellsVariableDefinition limit v) (left a) (left f)
variable_defined limit v a b c d e f name colon kind default directives =
    let P5 : Tokened = Optional (SpellsDirectives (constant_rules limit)) v.directives in
    let P4 : Tokened = Optional (SpellsDefault limit) v.default in
    let P3 : Tokened = SpellsType limit v.kind in
    let P2 : Tokened = One (token.punctuator Colon) in
    begins_then (SpellsVariable v.name) (Then P2 (Then P3 (Then P4 P5))) (left a) (left b) (left f) (begins (SpellsVariable v.name) a b name) (begins_then P2 (Then P3 (Then P4 P5)) (left b) (left c) (left f) (begins P2 b c (reads_one (token.punctuator Colon) b c colon)) (begins_then P3 (Then P4 P5) (left c) (left d) (left f) (begins P3 c d kind) (begins_then P4 P5 (left d) (left e) (left f) default (begins P5 e f directives))))

pub variables_read : (limit : Option ℕ) (vs : Variables) (paren first mid new : Tokens) → IsTaken (token.punctuator ParenOpen) paren first → BeginsWith (SpellsEach (SpellsVariableDefinition limit) vs.given) (left first) (left mid) → (vs.given ≡ [] → ⊥) → IsTaken (token.punctuator ParenClose) mid new → vs.span.start ≡ (ahead_of paren).start → vs.span.end ≡ last_end_of new → Reads (SpellsVariables limit vs) paren new
variables_read limit vs paren first mid new o h some c start stop =
    let E : Tokened = SpellsEach (SpellsVariableDefinition limit) vs.given in
    let A : Tokened = One (token.punctuator ParenOpen) in
    let B : Tokened = Then E (One (token.punctuator ParenClose)) in
    let (ts, took, (s, covers)) = reads_covers (Then A B) vs.span paren new (some_first A B (some_one (token.punctuator ParenOpen))) start stop (reads_then A B paren first new (reads_one (token.punctuator ParenOpen) paren first o) (begins_ended E (token.punctuator ParenClose) first mid new h c)) in
    (ts, took, (some, s, covers))

-- ---- operations and fragments
some_set : (limit : Option ℕ) (set : Selections) → HasSome (SpellsSet limit 0 set)
some_set limit set ts (nest, h) n =
    some_first (One (token.punctuator BraceOpen)) (Then (SpellsMore limit 1 set) (One (token.punctuator BraceClose))) (some_one (token.punctuator BraceOpen)) ts h n

abbrev Whole : Option ℕ → Operation → List Lexeme → Type 0
Whole limit o ts = SpellsLongOperation limit o ts ⊎ SpellsShortOperation limit o ts

some_operation : (limit : Option ℕ) (o : Operation) → HasSome (Whole limit o)
some_operation limit o ts (inl h) n =
    some_first (One (token.name (keyword o.kind))) (Then (Optional SpellsName o.name) (Then (Optional (SpellsVariables limit) o.variables) (Then (Optional (SpellsDirectives (open_rules limit)) o.directives) (SpellsSet limit 0 o.set)))) (some_one (token.name (keyword o.kind))) ts h n
some_operation limit o ts (inr h) n = some_set limit o.set ts h.4 n

pub long_read : (limit : Option ℕ) (o : Operation) (a b c d e f : Tokens) → IsTaken (token.name (keyword o.kind)) a b → Reads (Optional SpellsName o.name) b c → Reads (Optional (SpellsVariables limit) o.variables) c d → Reads (Optional (SpellsDirectives (open_rules limit)) o.directives) d e → Reads (SpellsSet limit 0 o.set) e f → o.span.start ≡ (ahead_of a).start → o.span.end ≡ last_end_of f → Reads (SpellsOperation limit o) a f
long_read limit o a b c d e f word name variables directives set start stop =
    let P1 : Tokened = One (token.name (keyword o.kind)) in
    let P2 : Tokened = Optional SpellsName o.name in
    let P3 : Tokened = Optional (SpellsVariables limit) o.variables in
    let P4 : Tokened = Optional (SpellsDirectives (open_rules limit)) o.directives in
    let P5 : Tokened = SpellsSet limit 0 o.set in
    reads_covers (Whole limit o) o.span a f (some_operation limit o) start stop (reads_as (SpellsLongOperation limit o) (Whole limit o) a f (λ ts h. inl h) (reads_then P1 (Then P2 (Then P3 (Then P4 P5))) a b f (reads_one (token.name (keyword o.kind)) a b word) (reads_then P2 (Then P3 (Then P4 P5)) b c f name (reads_then P3 (Then P4 P5) c d f variables (reads_then P4 P5 d e f directives set)))))

pub short_read : (limit : Option ℕ) (o : Operation) (a b : Tokens) → o.kind ≡ Query → o.name ≡ None → o.variables ≡ None → o.directives ≡ None → Reads (SpellsSet limit 0 o.set) a b → o.span.start ≡ (ahead_of a).start → o.span.end ≡ last_end_of b → Reads (SpellsOperation limit o) a b
short_read limit o a b k n v d set start stop =
    reads_covers (Whole limit o) o.span a b (some_operation limit o) start stop (reads_as (SpellsSet limit 0 o.set) (Whole limit o) a b (λ ts h. inr (k, n, v, d, h)) set)

pub fragment_read : (limit : Option ℕ) (x : Fragment) (a b c d e : Tokens) → IsTaken (token.name fragment_word) a b → Reads (Then (SpellsFragmentName x.name) (SpellsCondition x.condition)) b c → Reads (Optional (SpellsDirectives (open_rules limit)) x.directives) c d → Reads (SpellsSet limit 0 x.set) d e → x.span.start ≡ (ahead_of a).start → x.span.end ≡ last_end_of e → Reads (SpellsFragment limit x) a e
fragment_read limit x a b c d e word named directives set start stop =
    let P1 : Tokened = One (token.name fragment_word) in
    let P2 : Tokened = SpellsFragmentName x.name in
    let P3 : Tokened = SpellsCondition x.condition in
    let P4 : Tokened = Optional (SpellsDirectives (open_rules limit)) x.directives in
    let P5 : Tokened = SpellsSet limit 0 x.set in
    let rest : Reads (Then P2 (Then P3 (Then P4 P5))) b e = reads_right P2 P3 (Then P4 P5) b e (reads_then (Then P2 P3) (Then P4 P5) b c e named (reads_then P4 P5 c d e directives set)) in
    reads_covers (Then P1 (Then P2 (Then P3 (Then P4 P5)))) x.span a e (some_first P1 (Then P2 (Then P3 (Then P4 P5))) (some_one (token.name fragment_word))) start stop (reads_then P1 (Then P2 (Then P3 (Then P4 P5))) a b e (reads_one (token.name fragment_word) a b word) rest)

-- ---- a document
pub document_read : (limit : Option ℕ) (text : List ℕ) (ds : List Definition) (first now : Tokens) → AreLexemes text (left first) → Reads (SpellsEach (SpellsDefinition limit) ds) first now → (ds ≡ [] → ⊥) → (ahead_of now).token ≡ token.end → IsDocument limit text ds
document_read limit text ds first now are (ts, (e, stop), h) some end =
    (ts, ahead_of now, subst (AreLexemes text) (e ∙ ap (λ xs. ts ++ ahead_of now ∷ xs) (behind_end now end)) are, end, (some, h))

-- what both clauses say of a value
pub if_ok_both : {T E Q : Type 0} {P R : T → Type 0} (r : Result T E) → ((x : T) → P x → Q → R x) → IfOk r P → OnOk r Q → IfOk r R
if_ok_both (Ok x) f p q = f x p q
if_ok_both (Err e) f p q = tt
