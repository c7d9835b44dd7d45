-- What is left of variables, definitions and documents, token by token.
use Rattle.std.proofs.Common.{◌≡◌, ◌⊎◌, inl, inr, ℕ, List, [], ◌∷◌, ◌++◌, append_assoc, append-nil, Option, refl, sym, subst, ◌∙◌}
use Rattle.language.specs.declared.tree.OperationType.{OperationType}
use Rattle.language.specs.declared.tree.OperationType.TheVariants.{Query}
use Rattle.graphql_lexer.specs.Ahead.{ahead_of, behind, left, IsLeft, IsTaken}
use Rattle.graphql_lexer.specs.Lexemes.{AreLexemes}
use Rattle.graphql_lexer.specs.Lexical as token
use Rattle.graphql_lexer.specs.declared.error.ReadError.{ReadError}
use Rattle.graphql_lexer.specs.declared.error.ReadError.TheVariants.{Syntax, OutOfMemory}
use denote.Ref.{Bor}
use Rattle.graphql_lexer.specs.Seen.{seen}
use Rattle.graphql_lexer.specs.declared.lexer.Token.{Token as Ahead}
use Rattle.graphql_lexer.specs.declared.lexer.Token.TheVariants as v
use Rattle.graphql_lexer.specs.declared.lexer.Punctuator.{Punctuator}
use Rattle.graphql_lexer.specs.declared.lexer.Punctuator.TheVariants.{At, Bang, BraceOpen, Colon, Dollar, Equals, ParenOpen, ParenClose}
use Rattle.graphql_lexer.specs.declared.tokens.Tokens.{Tokens}
use Rattle.value_reader.specs.Faults.{IsPlaced}
use Rattle.value_reader.specs.Grammar.{lexeme}
use Rattle.value_reader.specs.declared.rules.Variables.TheVariants.{Allowed, Refused}
use Rattle.graphql_reader.specs.Documents.{Definition, operation, fragment, Variable, SpellsDefinition, SpellsVariableDefinition, fragment_word, keyword}
use Rattle.graphql_reader.specs.Faults.{IsDocumentFault, IsNoDocument}
use Rattle.graphql_reader.specs.Languages.{Language, InTurn, Nothing, Perhaps, Either, IsNamed, IsOtherName, IsSign, IsWord, Sign, AName, AValue, Marks, NoParen, NoMarks, AType, NoBang, ASet, ACondition, AFragmentName, AFragmentHead, ADefault, NoEquals, AVariable, AVariableDefinition, MoreVariables, NoVariable, AllVariables, BegunVariables, ADefinition, ADocument, NoNameNext, Anything, AtEnd, Differs, first_of, Leaves, IsFault}
use Rattle.graphql_reader.specs.Selections.{on}
use Rattle.graphql_reader.proofs.ArgumentLaws.{origin}
use Rattle.graphql_reader.proofs.ArgumentLeaveLaws.{begin_directive, signs_differ}
use Rattle.graphql_reader.proofs.ConstantLaws.{Only}
use Rattle.graphql_reader.proofs.DocumentOnlyLaws.{not_fragment}
use Rattle.graphql_reader.proofs.LanguageLaws.{Body, DocumentParts, FragmentParts, IsKeyword, LongParts, OperationRest, any_definition, default_parts, definition_parts, document_parts, variables_parts}
use Rattle.graphql_reader.proofs.LeavesLaws.{Begin, Before, Example, alike_assoc, before_any, before_begin, before_perhaps, before_several, before_turn, begin_alike, begin_as, begin_either, begin_perhaps, begin_several, begin_single, begin_turn, example_absent, example_alike, example_left, example_several, example_single, example_turn, fault_behind, fault_from, fault_front, fault_less, fault_stuck, leaves_absent, leaves_alike, leaves_ended_before, leaves_from, leaves_left, leaves_less, leaves_more, leaves_more_before, leaves_one, leaves_present, leaves_right, leaves_single, leaves_then, leaves_to, leaves_token, stuck_begin}
use Rattle.graphql_reader.proofs.PassedLaws.{HasSome, Tokened}
use Rattle.graphql_reader.proofs.SelectionLeaveLaws.{begin_set, example_set, nameless}
use Rattle.graphql_reader.proofs.TypeLeaveLaws.{example_name, example_sign, example_type, sign_not_name}
use Rattle.graphql_reader.proofs.TypeOnlyLaws.{same_named}

-- ---- a default value
begin_default : Begin (IsSign Equals) ADefault
begin_default = begin_alike default_parts (begin_turn begin_single)

pub default_absent : {limit : Option ℕ} {F : Tokened} {a b : Tokens} → IsLeft (token.punctuator Equals) a b → Leaves limit F (Perhaps ADefault) Nothing a b
default_absent t = leaves_absent t.1 begin_default t.0

default_begun : {limit : Option ℕ} {a b : Tokens} → IsTaken (token.punctuator Equals) a b → Leaves limit NoEquals (Perhaps ADefault) (AValue Refused) a b
default_begun {a = a} t =
    leaves_then (leaves_present {a = a} refl (λ r f e. f.0 (e ∙ t.0))) (leaves_from default_parts (leaves_token (token.punctuator Equals) t refl))

pub default_read : {limit : Option ℕ} {a c : Tokens} (b : Tokens) → IsTaken (token.punctuator Equals) a b → Leaves limit NoEquals (AValue Refused) Nothing b c → Leaves limit NoEquals (Perhaps ADefault) Nothing a c
default_read b t h = leaves_then (default_begun {b = b} t) h

pub default_fault : {limit : Option ℕ} {a c : Tokens} {e : ReadError} (b : Tokens) → IsTaken (token.punctuator Equals) a b → IsFault limit NoEquals (AValue Refused) b c e → IsFault limit NoEquals (Perhaps ADefault) a c e
default_fault b t f = fault_behind (default_begun {b = b} t) f

-- ---- a variable
pub variable_read : {limit : Option ℕ} {F : Tokened} {a c : Tokens} (b : Tokens) (n : List ℕ) → IsTaken (token.punctuator Dollar) a b → IsTaken (token.name n) b c → Leaves limit F AVariable Nothing a c
variable_read b n t u = leaves_then (leaves_token {b = b} (token.punctuator Dollar) t refl) (leaves_single (token.name n) u (n, refl))

example_variable : Example AVariable
example_variable = example_turn (example_sign Dollar) example_name

pub variable_missing : {limit : Option ℕ} {F : Tokened} {a b : Tokens} {e : ReadError} → IsLeft (token.punctuator Dollar) a b → IsPlaced (ahead_of b) e → IsFault limit F AVariable a b e
variable_missing t placed = fault_stuck (stuck_begin {K = IsSign Dollar} t.1 (begin_turn begin_single) t.0 example_variable) placed

pub variable_nameless : {limit : Option ℕ} {F : Tokened} {a c : Tokens} {e : ReadError} (b : Tokens) → IsTaken (token.punctuator Dollar) a b → ((s : List ℕ) → IsLeft (token.name s) b c) → IsPlaced (ahead_of c) e → IsFault limit F AVariable a c e
variable_nameless b t none placed = fault_behind (leaves_token {b = b} (token.punctuator Dollar) t refl) (nameless none placed)

-- ---- a variable definition
abbrev AfterType : Language
AfterType = InTurn (Perhaps ADefault) (Marks Refused)

sign_differs : (s t : Punctuator) (u : token.Token) → (s ≡ t → ⊥) → IsSign s u → Differs (t ∷ []) u
sign_differs s t u n e = (λ f. signs_differ s t u n e f, tt)

default_bang : (limit : Option ℕ) → Before limit AfterType NoVariable NoBang
default_bang limit =
    before_turn {G = NoBang} (before_several (Bang ∷ []) (begin_directive Refused) (λ u e. sign_differs At Bang u (λ g. cc) e) (λ r f. (f.0, tt))) (before_perhaps (Bang ∷ []) begin_default (λ u e. sign_differs Equals Bang u (λ g. cc) e) (λ r f. f))

marks_equals : (limit : Option ℕ) → Before limit (Marks Refused) NoVariable NoEquals
marks_equals limit =
    before_several (Equals ∷ []) (begin_directive Refused) (λ u e. sign_differs At Equals u (λ g. cc) e) (λ r f. (f.1.0, tt))

abbrev AfterName : Language
AfterName = InTurn (Sign Colon) (InTurn AType AfterType)

named : {limit : Option ℕ} {F : Tokened} {a b : Tokens} → Leaves limit Anything AVariable Nothing a b → Leaves limit F AVariableDefinition AfterName a b
named h = leaves_from definition_parts (leaves_one h before_any)

coloned : {limit : Option ℕ} {F : Tokened} {a b c : Tokens} → Leaves limit Anything AVariable Nothing a b → IsTaken (token.punctuator Colon) b c → Leaves limit F AVariableDefinition (InTurn AType AfterType) a c
coloned {b = b} h t = leaves_then (named h) (leaves_token {a = b} (token.punctuator Colon) t refl)

typed : {limit : Option ℕ} {a b c d : Tokens} → Leaves limit Anything AVariable Nothing a b → IsTaken (token.punctuator Colon) b c → Leaves limit NoBang AType Nothing c d → Leaves limit NoVariable AVariableDefinition AfterType a d
typed {limit} {b = b} {c = c} h t k = leaves_then (coloned {b = b} {c = c} h t) (leaves_one k (default_bang limit))

defaulted : {limit : Option ℕ} {a b c d e : Tokens} → Leaves limit Anything AVariable Nothing a b → IsTaken (token.punctuator Colon) b c → Leaves limit NoBang AType Nothing c d → Leaves limit NoEquals (Perhaps ADefault) Nothing d e → Leaves limit NoVariable AVariableDefinition (Marks Refused) a e
defaulted {limit} {b = b} {c = c} h t k m = leaves_then (typed {b = b} {c = c} h t k) (leaves_one m (marks_equals limit))

pub definition_read : {limit : Option ℕ} {a b c d e f : Tokens} → Leaves limit Anything AVariable Nothing a b → IsTaken (token.punctuator Colon) b c → Leaves limit NoBang AType Nothing c d → Leaves limit NoEquals (Perhaps ADefault) Nothing d e → Leaves limit NoMarks (Marks Refused) Nothing e f → Leaves limit NoVariable AVariableDefinition Nothing a f
definition_read {b = b} {c = c} h t k m n = leaves_then (defaulted {b = b} {c = c} h t k m) (leaves_less (λ r g. g.1.1) n)

example_after_type : Example AfterType
example_after_type = example_turn example_absent example_several

example_typed : Example (InTurn AType AfterType)
example_typed = example_turn example_type example_after_type

example_after_name : Example AfterName
example_after_name = example_turn (example_sign Colon) example_typed

pub definition_variable : {limit : Option ℕ} {F : Tokened} {a b : Tokens} {x : ReadError} → IsFault limit Anything AVariable a b x → IsFault limit F AVariableDefinition a b x
definition_variable f = fault_from definition_parts (fault_front f before_any example_after_name)

pub definition_colon : {limit : Option ℕ} {F : Tokened} {a b c : Tokens} {x : ReadError} → Leaves limit Anything AVariable Nothing a b → IsLeft (token.punctuator Colon) b c → IsPlaced (ahead_of c) x → IsFault limit F AVariableDefinition a c x
definition_colon h t placed = fault_behind (named h) (fault_stuck (stuck_begin {K = IsSign Colon} t.1 (begin_turn begin_single) t.0 example_after_name) placed)

pub definition_type : {limit : Option ℕ} {a b c d : Tokens} {x : ReadError} → Leaves limit Anything AVariable Nothing a b → IsTaken (token.punctuator Colon) b c → IsFault limit NoBang AType c d x → IsFault limit NoVariable AVariableDefinition a d x
definition_type {limit} {b = b} {c = c} h t f = fault_behind (coloned {b = b} {c = c} h t) (fault_front f (default_bang limit) example_after_type)

pub definition_default : {limit : Option ℕ} {a b c d e : Tokens} {x : ReadError} → Leaves limit Anything AVariable Nothing a b → IsTaken (token.punctuator Colon) b c → Leaves limit NoBang AType Nothing c d → IsFault limit NoEquals (Perhaps ADefault) d e x → IsFault limit NoVariable AVariableDefinition a e x
definition_default {limit} {b = b} {c = c} h t k f = fault_behind (typed {b = b} {c = c} h t k) (fault_front f (marks_equals limit) example_several)

pub definition_marks : {limit : Option ℕ} {a b c d e f : Tokens} {x : ReadError} → Leaves limit Anything AVariable Nothing a b → IsTaken (token.punctuator Colon) b c → Leaves limit NoBang AType Nothing c d → Leaves limit NoEquals (Perhaps ADefault) Nothing d e → IsFault limit NoMarks (Marks Refused) e f x → IsFault limit NoVariable AVariableDefinition a f x
definition_marks {b = b} {c = c} h t k m f = fault_behind (defaulted {b = b} {c = c} h t k m) (fault_less (λ r g. g.1.1) f)

-- ---- variable definitions
begin_definition : Begin (IsSign Dollar) AVariableDefinition
begin_definition = begin_alike definition_parts (begin_turn (begin_turn begin_single))

begin_variables : Begin (IsSign ParenOpen) AllVariables
begin_variables = begin_alike variables_parts (begin_turn begin_single)

pub variables_absent : {limit : Option ℕ} {F : Tokened} {a b : Tokens} → IsLeft (token.punctuator ParenOpen) a b → Leaves limit F (Perhaps AllVariables) Nothing a b
variables_absent t = leaves_absent t.1 begin_variables t.0

variables_begun : {limit : Option ℕ} {a b : Tokens} → IsTaken (token.punctuator ParenOpen) a b → Leaves limit NoParen (Perhaps AllVariables) BegunVariables a b
variables_begun {a = a} t =
    leaves_then (leaves_present {a = a} refl (λ r f e. f.0 (e ∙ t.0))) (leaves_from variables_parts (leaves_token (token.punctuator ParenOpen) t refl))

pub variables_read : {limit : Option ℕ} {a c : Tokens} (b : Tokens) → IsTaken (token.punctuator ParenOpen) a b → Leaves limit Anything BegunVariables Nothing b c → Leaves limit NoParen (Perhaps AllVariables) Nothing a c
variables_read b t h = leaves_then (variables_begun {b = b} t) (leaves_less (λ r f. tt) h)

pub variables_fault : {limit : Option ℕ} {a c : Tokens} {e : ReadError} (b : Tokens) → IsTaken (token.punctuator ParenOpen) a b → IsFault limit Anything BegunVariables b c e → IsFault limit NoParen (Perhaps AllVariables) a c e
variables_fault b t f = fault_behind (variables_begun {b = b} t) (fault_less (λ r g. tt) f)

abbrev RestOfVariables : Language
RestOfVariables = InTurn MoreVariables (Sign ParenClose)

begin_rest : Begin (λ u. IsSign Dollar u ⊎ IsSign ParenClose u) RestOfVariables
begin_rest = begin_several (begin_as (λ u e. inl e) begin_definition) (begin_as (λ u e. inr e) begin_single)

rest_differs : (u : token.Token) → IsSign Dollar u ⊎ IsSign ParenClose u → Differs (Bang ∷ Equals ∷ At ∷ ParenOpen ∷ []) u
rest_differs u (inl e) =
    (λ f. signs_differ Dollar Bang u (λ g. cc) e f, (λ f. signs_differ Dollar Equals u (λ g. cc) e f, (λ f. signs_differ Dollar At u (λ g. cc) e f, (λ f. signs_differ Dollar ParenOpen u (λ g. cc) e f, tt))))
rest_differs u (inr e) =
    (λ f. signs_differ ParenClose Bang u (λ g. cc) e f, (λ f. signs_differ ParenClose Equals u (λ g. cc) e f, (λ f. signs_differ ParenClose At u (λ g. cc) e f, (λ f. signs_differ ParenClose ParenOpen u (λ g. cc) e f, tt))))

rest_before : (limit : Option ℕ) {F : Tokened} → Before limit RestOfVariables F NoVariable
rest_before limit = before_begin (Bang ∷ Equals ∷ At ∷ ParenOpen ∷ []) begin_rest rest_differs

variable_more : {limit : Option ℕ} {F : Tokened} {a b : Tokens} → Leaves limit NoVariable AVariableDefinition Nothing a b → Leaves limit F BegunVariables RestOfVariables a b
variable_more {limit} h = leaves_one h (rest_before limit)

pub variables_more : {limit : Option ℕ} {F : Tokened} {a b c : Tokens} → Leaves limit NoVariable AVariableDefinition Nothing a b → IsLeft (token.punctuator ParenClose) b c → Leaves limit F BegunVariables BegunVariables a c
variables_more h t = leaves_then (variable_more h) (leaves_more_before {M = IsSign ParenClose} t.1 begin_single t.0)

pub variables_ended : {limit : Option ℕ} {F : Tokened} {a b c : Tokens} → Leaves limit NoVariable AVariableDefinition Nothing a b → IsTaken (token.punctuator ParenClose) b c → Leaves limit F BegunVariables Nothing a c
variables_ended {b = b} h t =
    leaves_then (variable_more h) (leaves_then (leaves_ended_before {a = b} refl begin_definition (λ e. signs_differ ParenClose Dollar (ahead_of b).token (λ g. cc) t.0 e)) (leaves_single (token.punctuator ParenClose) t refl))

pub variable_fault : {limit : Option ℕ} {F : Tokened} {a b : Tokens} {e : ReadError} → IsFault limit NoVariable AVariableDefinition a b e → IsFault limit F BegunVariables a b e
variable_fault {limit} f = fault_front f (rest_before limit) (example_turn example_several (example_sign ParenClose))

pub some_variable : (limit : Option ℕ) (v : Variable) → HasSome (SpellsVariableDefinition limit v)
some_variable limit v ts (x, y, e, ((x2, y2, e2, (p, q, f), n), c), rest) g = cc

-- ---- the name of an operation
pub name_there : {limit : Option ℕ} {a b : Tokens} (n : List ℕ) → IsTaken (token.name n) a b → Leaves limit NoNameNext (Perhaps AName) Nothing a b
name_there {a = a} n t =
    leaves_then (leaves_present {a = a} refl (λ r f e. f (n, e ∙ t.0))) (leaves_single (token.name n) t (n, refl))

pub name_absent : {limit : Option ℕ} {F : Tokened} {a : Tokens} → ((n : List ℕ) → (ahead_of a).token ≡ token.name n → ⊥) → Leaves limit F (Perhaps AName) Nothing a a
name_absent n = leaves_absent {K = IsNamed} refl begin_single (λ (w, e). n w e)

pub name_always : {limit : Option ℕ} {F : Tokened} {P : Language} {a b : Tokens} {e : ReadError} (n : List ℕ) → (ahead_of a).token ≡ token.name n → ((s : List ℕ) → IsLeft (token.name s) a b) → IsFault limit F P a b e
name_always n next none = absurd ((none n).0 next)

pub not_seen : (t : Ahead) (n : List ℕ) → ((x : Bor (List ℕ)) → t ≡ v.Name x → ⊥) → seen t ≡ token.name n → ⊥
not_seen (v.Name x) n other e = other x refl
not_seen (v.Punctuator x) n other e = cc
not_seen (v.Int x) n other e = cc
not_seen (v.Float x) n other e = cc
not_seen (v.String x) n other e = cc
not_seen (v.BlockString x) n other e = cc
not_seen v.End n other e = cc
not_seen (v.Fault x y) n other e = cc

-- ---- the name and the condition of a fragment
begin_head : Begin IsOtherName AFragmentHead
begin_head = begin_turn begin_single

example_fragment_name : Example AFragmentName
example_fragment_name = example_single IsOtherName (lexeme (token.name []) origin origin) ([], (λ e. cc), refl)

example_condition : Example ACondition
example_condition = example_turn (example_single (IsWord on) (lexeme (token.name on) origin origin) refl) example_name

example_fragment_head : Example AFragmentHead
example_fragment_head = example_turn example_fragment_name example_condition

pub head_on : {limit : Option ℕ} {F : Tokened} {a : Tokens} {e : ReadError} → (ahead_of a).token ≡ token.name on → IsPlaced (ahead_of a) e → IsFault limit F AFragmentHead a a e
head_on next placed = fault_stuck (stuck_begin refl begin_head (λ (n, differs, f). differs (sym (same_named on n (sym next ∙ f)))) example_fragment_head) placed

pub head_nameless : {limit : Option ℕ} {F : Tokened} {a b : Tokens} {e : ReadError} → ((s : List ℕ) → IsLeft (token.name s) a b) → IsPlaced (ahead_of b) e → IsFault limit F AFragmentHead a b e
head_nameless none placed = fault_stuck (stuck_begin (none []).1 begin_head (λ (n, differs, f). (none n).0 f) example_fragment_head) placed

head_named : {limit : Option ℕ} {F : Tokened} {a : Tokens} (b : Tokens) (n : List ℕ) → (n ≡ on → ⊥) → IsTaken (token.name n) a b → Leaves limit F AFragmentHead ACondition a b
head_named b n differs t = leaves_token {b = b} (token.name n) t (n, differs, refl)

pub head_unconditioned : {limit : Option ℕ} {F : Tokened} {a c : Tokens} {e : ReadError} (b : Tokens) (n : List ℕ) → (n ≡ on → ⊥) → IsTaken (token.name n) a b → IsLeft (token.name on) b c → IsPlaced (ahead_of c) e → IsFault limit F AFragmentHead a c e
head_unconditioned b n differs t u placed =
    fault_behind (head_named b n differs t) (fault_stuck (stuck_begin {K = IsWord on} u.1 (begin_turn begin_single) u.0 example_condition) placed)

head_conditioned : {limit : Option ℕ} {F : Tokened} {a : Tokens} (b c : Tokens) (n : List ℕ) → (n ≡ on → ⊥) → IsTaken (token.name n) a b → IsTaken (token.name on) b c → Leaves limit F AFragmentHead AName a c
head_conditioned b c n differs t u = leaves_then (head_named b n differs t) (leaves_token {b = c} (token.name on) u refl)

pub head_untyped : {limit : Option ℕ} {F : Tokened} {a d : Tokens} {e : ReadError} (b c : Tokens) (n : List ℕ) → (n ≡ on → ⊥) → IsTaken (token.name n) a b → IsTaken (token.name on) b c → ((s : List ℕ) → IsLeft (token.name s) c d) → IsPlaced (ahead_of d) e → IsFault limit F AFragmentHead a d e
head_untyped b c n differs t u none placed = fault_behind (head_conditioned b c n differs t u) (nameless none placed)

pub head_done : {limit : Option ℕ} {F : Tokened} {a d : Tokens} (b c : Tokens) (n k : List ℕ) → (n ≡ on → ⊥) → IsTaken (token.name n) a b → IsTaken (token.name on) b c → IsTaken (token.name k) c d → Leaves limit F AFragmentHead Nothing a d
head_done b c n k differs t u v = leaves_then (head_conditioned b c n differs t u) (leaves_single (token.name k) v (k, refl))

-- ---- directives and a set
set_marks : (limit : Option ℕ) {F : Tokened} → Before limit (ASet 0) F NoMarks
set_marks limit =
    before_begin (At ∷ ParenOpen ∷ []) (begin_set 0) (λ u e. (λ f. signs_differ BraceOpen At u (λ g. cc) e f, (λ f. signs_differ BraceOpen ParenOpen u (λ g. cc) e f, tt)))

pub body_read : {limit : Option ℕ} {F : Tokened} {a b c : Tokens} → Leaves limit NoMarks (Marks Allowed) Nothing a b → Leaves limit Anything (ASet 0) Nothing b c → Leaves limit F Body Nothing a c
body_read {limit} h k = leaves_then (leaves_one h (set_marks limit)) (leaves_less (λ r f. tt) k)

pub body_marks : {limit : Option ℕ} {F : Tokened} {a b : Tokens} {e : ReadError} → IsFault limit NoMarks (Marks Allowed) a b e → IsFault limit F Body a b e
body_marks {limit} f = fault_front f (set_marks limit) (example_set 0)

pub body_set : {limit : Option ℕ} {F : Tokened} {a b c : Tokens} {e : ReadError} → Leaves limit NoMarks (Marks Allowed) Nothing a b → IsFault limit Anything (ASet 0) b c e → IsFault limit F Body a c e
body_set {limit} h f = fault_behind (leaves_one h (set_marks limit)) (fault_less (λ r g. tt) f)

example_body : Example Body
example_body = example_turn example_several (example_set 0)

-- with what it begins
abbrev IsBody : token.Token → Type 0
IsBody u = IsSign At u ⊎ IsSign BraceOpen u

begin_body : Begin IsBody Body
begin_body = begin_several (begin_as (λ u e. inl e) (begin_directive Allowed)) (begin_as (λ u e. inr e) (begin_set 0))

body_differs : (u : token.Token) → IsBody u → Differs (ParenOpen ∷ []) u
body_differs u (inl e) = sign_differs At ParenOpen u (λ g. cc) e
body_differs u (inr e) = sign_differs BraceOpen ParenOpen u (λ g. cc) e

body_paren : (limit : Option ℕ) {F : Tokened} → Before limit Body F NoParen
body_paren limit = before_begin (ParenOpen ∷ []) begin_body body_differs

-- ---- an operation
abbrev AfterOperationName : Language
AfterOperationName = InTurn (Perhaps AllVariables) Body

abbrev IsAfterName : token.Token → Type 0
IsAfterName u = IsSign ParenOpen u ⊎ IsBody u

begin_after_name : Begin IsAfterName AfterOperationName
begin_after_name = begin_perhaps (begin_as (λ u e. inl e) begin_variables) (begin_as (λ u e. inr e) begin_body)

after_not_named : (u : token.Token) → IsAfterName u → IsNamed u → ⊥
after_not_named u (inl e) k = sign_not_name ParenOpen u e k
after_not_named u (inr (inl e)) k = sign_not_name At u e k
after_not_named u (inr (inr e)) k = sign_not_name BraceOpen u e k

after_name : (limit : Option ℕ) {F : Tokened} → Before limit AfterOperationName F NoNameNext
after_name limit = record { before = λ b r q f k. after_not_named (first_of (b ++ r)) (begin_after_name.begin limit b r q) k }

example_after_operation_name : Example AfterOperationName
example_after_operation_name = example_turn example_absent example_body

rest_named : {limit : Option ℕ} {F : Tokened} {a b : Tokens} → Leaves limit NoNameNext (Perhaps AName) Nothing a b → Leaves limit F OperationRest AfterOperationName a b
rest_named {limit} h = leaves_one h (after_name limit)

pub rest_variables : {limit : Option ℕ} {F : Tokened} {a b c : Tokens} → Leaves limit NoNameNext (Perhaps AName) Nothing a b → Leaves limit NoParen (Perhaps AllVariables) Nothing b c → Leaves limit F OperationRest Body a c
rest_variables {limit} h k = leaves_then (rest_named h) (leaves_one k (body_paren limit))

pub rest_name_fault : {limit : Option ℕ} {F : Tokened} {a b : Tokens} {e : ReadError} → IsFault limit NoNameNext (Perhaps AName) a b e → IsFault limit F OperationRest a b e
rest_name_fault {limit} f = fault_front f (after_name limit) example_after_operation_name

pub rest_variables_fault : {limit : Option ℕ} {F : Tokened} {a b c : Tokens} {e : ReadError} → Leaves limit NoNameNext (Perhaps AName) Nothing a b → IsFault limit NoParen (Perhaps AllVariables) b c e → IsFault limit F OperationRest a c e
rest_variables_fault {limit} h f = fault_behind (rest_named h) (fault_front f (body_paren limit) example_body)

-- ---- a definition
begin_long : Begin IsKeyword LongParts
begin_long = begin_turn begin_single

begin_short : Begin (IsSign BraceOpen) (ASet 0)
begin_short = begin_set 0

begin_fragment : Begin (IsWord fragment_word) FragmentParts
begin_fragment = begin_turn begin_single

-- with what an operation begins
abbrev IsOpening : token.Token → Type 0
IsOpening u = IsKeyword u ⊎ IsSign BraceOpen u

begin_operation : Begin IsOpening (Either LongParts (ASet 0))
begin_operation = begin_either (begin_as (λ u e. inl e) begin_long) (begin_as (λ u e. inr e) begin_short)

keyword_not_fragment : (k : OperationType) (u : token.Token) → u ≡ token.name (keyword k) → IsWord fragment_word u → ⊥
keyword_not_fragment k u e f = not_fragment k (same_named (keyword k) fragment_word (sym e ∙ f))

name_not_brace : (n : List ℕ) (u : token.Token) → u ≡ token.name n → IsSign BraceOpen u → ⊥
name_not_brace n u e f = let g : token.name n ≡ token.punctuator BraceOpen = sym e ∙ f in cc

keyword_not_brace : (u : token.Token) → IsSign BraceOpen u → IsKeyword u → ⊥
keyword_not_brace u e (k, f) = name_not_brace (keyword k) u f e

opening_not_fragment : (u : token.Token) → IsWord fragment_word u → IsOpening u → ⊥
opening_not_fragment u e (inl (k, f)) = keyword_not_fragment k u f e
opening_not_fragment u e (inr f) = name_not_brace fragment_word u e f

operation_next : {limit : Option ℕ} {F : Tokened} {a b : Tokens} (k : OperationType) → IsTaken (token.name (keyword k)) a b → Leaves limit F ADefinition OperationRest a b
operation_next {a = a} k t =
    leaves_from any_definition (leaves_then (leaves_left {a = a} refl begin_fragment (λ f. keyword_not_fragment k (ahead_of a).token t.0 f)) (leaves_then (leaves_left {a = a} refl begin_short (λ f. name_not_brace (keyword k) (ahead_of a).token t.0 f)) (leaves_token (token.name (keyword k)) t (k, refl))))

pub operation_read : {limit : Option ℕ} {F : Tokened} {a c : Tokens} (b : Tokens) (k : OperationType) → IsTaken (token.name (keyword k)) a b → Leaves limit F OperationRest Nothing b c → Leaves limit F ADefinition Nothing a c
operation_read b k t h = leaves_then (operation_next {b = b} k t) h

pub operation_fault : {limit : Option ℕ} {F : Tokened} {a c : Tokens} {e : ReadError} (b : Tokens) (k : OperationType) → IsTaken (token.name (keyword k)) a b → IsFault limit F OperationRest b c e → IsFault limit F ADefinition a c e
operation_fault b k t f = fault_behind (operation_next {b = b} k t) f

short_next : {limit : Option ℕ} {F : Tokened} {a : Tokens} → (ahead_of a).token ≡ token.punctuator BraceOpen → Leaves limit F ADefinition (ASet 0) a a
short_next {a = a} next =
    leaves_from any_definition (leaves_then (leaves_left {a = a} refl begin_fragment (λ f. name_not_brace fragment_word (ahead_of a).token f next)) (leaves_right {a = a} refl begin_long (λ k. keyword_not_brace (ahead_of a).token next k)))

pub short_read : {limit : Option ℕ} {F : Tokened} {a b : Tokens} → (ahead_of a).token ≡ token.punctuator BraceOpen → Leaves limit F (ASet 0) Nothing a b → Leaves limit F ADefinition Nothing a b
short_read next h = leaves_then (short_next next) h

pub short_fault : {limit : Option ℕ} {F : Tokened} {a b : Tokens} {e : ReadError} → (ahead_of a).token ≡ token.punctuator BraceOpen → IsFault limit F (ASet 0) a b e → IsFault limit F ADefinition a b e
short_fault next f = fault_behind (short_next next) f

fragment_next : {limit : Option ℕ} {F : Tokened} {a b : Tokens} → IsTaken (token.name fragment_word) a b → Leaves limit F ADefinition (InTurn AFragmentHead Body) a b
fragment_next {a = a} t =
    leaves_from any_definition (leaves_then (leaves_right {a = a} refl begin_operation (λ k. opening_not_fragment (ahead_of a).token t.0 k)) (leaves_to (leaves_token (token.name fragment_word) t refl) (record { to = λ l ts h. alike_assoc.back l ts h; back = λ l ts h. alike_assoc.to l ts h })))

fragment_headed : {limit : Option ℕ} {F : Tokened} {a c : Tokens} (b : Tokens) → IsTaken (token.name fragment_word) a b → Leaves limit Anything AFragmentHead Nothing b c → Leaves limit F ADefinition Body a c
fragment_headed b t h = leaves_then (fragment_next {b = b} t) (leaves_one h before_any)

pub fragment_read : {limit : Option ℕ} {F : Tokened} {a c d : Tokens} (b : Tokens) → IsTaken (token.name fragment_word) a b → Leaves limit Anything AFragmentHead Nothing b c → Leaves limit F Body Nothing c d → Leaves limit F ADefinition Nothing a d
fragment_read b t h k = leaves_then (fragment_headed b t h) k

pub fragment_head_fault : {limit : Option ℕ} {F : Tokened} {a c : Tokens} {e : ReadError} (b : Tokens) → IsTaken (token.name fragment_word) a b → IsFault limit Anything AFragmentHead b c e → IsFault limit F ADefinition a c e
fragment_head_fault b t f = fault_behind (fragment_next {b = b} t) (fault_front f before_any example_body)

pub fragment_body_fault : {limit : Option ℕ} {F : Tokened} {a c d : Tokens} {e : ReadError} (b : Tokens) → IsTaken (token.name fragment_word) a b → Leaves limit Anything AFragmentHead Nothing b c → IsFault limit F Body c d e → IsFault limit F ADefinition a d e
fragment_body_fault b t h f = fault_behind (fragment_headed b t h) f

-- nothing that begins a definition comes next
abbrev IsFirst : token.Token → Type 0
IsFirst u = IsOpening u ⊎ IsWord fragment_word u

begin_any : Begin IsFirst ADefinition
begin_any = begin_alike any_definition (begin_either (begin_as (λ u e. inl e) begin_operation) (begin_as (λ u e. inr e) begin_fragment))

not_first : (u : token.Token) → (u ≡ token.punctuator BraceOpen → ⊥) → ((k : OperationType) → u ≡ token.name (keyword k) → ⊥) → (u ≡ token.name fragment_word → ⊥) → IsFirst u → ⊥
not_first u f g h (inl (inl (k, e))) = g k e
not_first u f g h (inl (inr e)) = f e
not_first u f g h (inr e) = h e

example_any : Example ADefinition
example_any = example_alike any_definition (example_left (example_left (example_turn (example_single IsKeyword (lexeme (token.name (keyword Query)) origin origin) (Query, refl)) (example_turn example_absent example_after_operation_name))))

pub no_definition : {limit : Option ℕ} {F : Tokened} {a : Tokens} {e : ReadError} → ((ahead_of a).token ≡ token.punctuator BraceOpen → ⊥) → ((k : OperationType) → (ahead_of a).token ≡ token.name (keyword k) → ⊥) → ((ahead_of a).token ≡ token.name fragment_word → ⊥) → IsPlaced (ahead_of a) e → IsFault limit F ADefinition a a e
no_definition {a = a} f g h placed = fault_stuck (stuck_begin refl begin_any (not_first (ahead_of a).token f g h) example_any) placed

-- ---- a document
pub document_begun : {limit : Option ℕ} {F : Tokened} {a : Tokens} → Leaves limit F ADocument DocumentParts a a
document_begun = leaves_alike document_parts

pub document_more : {limit : Option ℕ} {a b : Tokens} → Leaves limit Anything ADefinition Nothing a b → ((ahead_of b).token ≡ token.end → ⊥) → Leaves limit AtEnd DocumentParts DocumentParts a b
document_more {b = b} h other = leaves_then (leaves_one h before_any) (leaves_more {a = b} refl (λ r f e. other (sym e ∙ f)))

pub document_fault : {limit : Option ℕ} {F : Tokened} {a b : Tokens} {e : ReadError} → IsFault limit Anything ADefinition a b e → IsFault limit F DocumentParts a b e
document_fault f = fault_front f before_any example_several

-- ---- what an error says of the text
pub no_document : (limit : Option ℕ) (text : List ℕ) (a b : Tokens) (e : ReadError) → Only text (left a) → IsFault limit AtEnd ADocument a b e → IsNoDocument limit text e
no_document limit text a b OutOfMemory only f = tt
no_document limit text a b (Syntax e) only f = λ ds (ts, last, are, end, h).
    let s = f.stuck tt in
    s.never (behind b) ts (last ∷ []) (record { tree = ds; spelled = h }) end (sym s.place ∙ sym (only (ts ++ last ∷ []) are))

pub fault_of : (limit : Option ℕ) (text : List ℕ) (a b : Tokens) (e : ReadError) → AreLexemes text (left a) → IsFault limit AtEnd ADocument a b e → IsDocumentFault limit text e
fault_of limit text a b OutOfMemory are f = tt
fault_of limit text a b (Syntax e) are f =
    let s = f.stuck tt in (
      s.taken,
      ahead_of b,
      behind b,
      subst (AreLexemes text) s.place are,
      (s.goes_on.1.tree, s.goes_on.0, s.goes_on.1.spelled),
      λ (ds, more, h). s.never more ((s.taken ++ ahead_of b ∷ []) ++ more) [] (record { tree = ds; spelled = h }) refl (sym (append_assoc s.taken (ahead_of b ∷ []) more) ∙ sym (append-nil ((s.taken ++ ahead_of b ∷ []) ++ more))),
      f.placed,
    )

pub some_definition : (limit : Option ℕ) (x : Definition) → HasSome (SpellsDefinition limit x)
some_definition limit (operation o) ts (h, (x, xs, e, f, g)) n = cc
some_definition limit (fragment o) ts (h, (x, xs, e, f, g)) n = cc
