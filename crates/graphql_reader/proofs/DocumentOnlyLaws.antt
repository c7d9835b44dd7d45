-- A text is no more than one document.
use Rattle.std.proofs.Common.{◌≡◌, ◌⊎◌, Bool, true, false, nat_eq, inl, inr, ℕ, List, [], ◌∷◌, ◌++◌, Option, append_assoc, length, length-append, arith, refl, sym, ap, ◌∙◌}
use Rattle.language_types.specs.declared.position.Span.{Span}
use Rattle.language.specs.declared.tree.OperationType.{OperationType}
use Rattle.language.specs.declared.tree.OperationType.TheVariants.{Query, Mutation, Subscription}
use Rattle.graphql_lexer.specs.Lexemes.{Lexeme}
use Rattle.graphql_lexer.specs.Lexical as token
use Rattle.graphql_lexer.specs.declared.lexer.Punctuator.{Punctuator}
use Rattle.graphql_lexer.specs.declared.lexer.Punctuator.TheVariants.{At, Bang, BraceOpen, Colon, Dollar, Equals, ParenOpen, ParenClose}
use Rattle.value_reader.specs.Grammar.{Rules, Spells}
use Rattle.value_reader.specs.Values.{Key, Value}
use Rattle.graphql_reader.specs.Arguments.{Directive, SpellsDirectives, SpellsEach}
use Rattle.graphql_reader.specs.Documents.{Variable, Variables, Operation, Fragment, Definition, operation, fragment, IsDocument, SpellsDocument, SpellsDefault, SpellsDefinition, SpellsFragment, SpellsLongOperation, SpellsOperation, SpellsShortOperation, SpellsVariable, SpellsVariableDefinition, SpellsVariables, constant_rules, fragment_word, keyword}
use Rattle.graphql_reader.specs.Passed.{Covers, One, Optional, Then}
use Rattle.graphql_reader.specs.Selections.{Selections, SpellsCondition, SpellsFragmentName, SpellsName, SpellsSet, open_rules}
use Rattle.graphql_reader.specs.Types.{PlacedType, SpellsType}
use Rattle.graphql_reader.proofs.ConstantLaws.{Only}
use Rattle.graphql_reader.proofs.OnlyLaws.{AtBrace, Clear, IsName, IsSign, NoParen, brace_clear, same_condition, same_fragment_name, same_marks, same_more, same_set, same_value, sign_not, starts_directives, starts_set, two_signs}
use Rattle.graphql_reader.proofs.PassedLaws.{Tokened}
use Rattle.graphql_reader.proofs.SameLaws.{Same, Apart, Starts, Before, Any, No, first, same_less, same_so, same_apart, same_through, same_one, same_name, same_then, same_optional, same_each, same_covered, apart_first, apart_swap, starts_one, starts_name, starts_then, starts_through, before_any, before_optional, before_then}
use Rattle.graphql_reader.proofs.TypeOnlyLaws.{NoBang, same_named, same_type}

-- ---- variables
abbrev key_of : List ℕ → Span → Key
key_of n span = record { name = n; span = span }

same_variable : (x y : Key) → Same (SpellsVariable x) (SpellsVariable y) Any (x ≡ y)
same_variable x y =
    same_so (λ ((d, n), s). ap (λ z. key_of z x.span) (same_named x.name y.name n) ∙ ap (λ z. key_of y.name z) s) (same_covered x.span y.span (same_then (same_one (token.punctuator Dollar) (token.punctuator Dollar)) (same_one (token.name x.name) (token.name y.name)) before_any before_any))

same_default : (limit : Option ℕ) (v w : Value) → Same (SpellsDefault limit v) (SpellsDefault limit w) Any (v ≡ w)
same_default limit v w =
    same_so (λ (e, f). f) (same_then (same_one (token.punctuator Equals) (token.punctuator Equals)) (same_value (constant_rules limit) v w) before_any before_any)

starts_default : (limit : Option ℕ) (v : Value) → Starts (IsSign (token.punctuator Equals)) (SpellsDefault limit v)
starts_default limit v = starts_then {Q = Spells (constant_rules limit) 0 v} (starts_one (token.punctuator Equals))

abbrev NoEquals : Tokened
NoEquals = No (IsSign (token.punctuator Equals))

-- what may follow a variable definition
abbrev Ended : Tokened
Ended r = NoBang r × NoEquals r × Clear r

at_equals : (u : token.Token) → IsSign (token.punctuator At) u → IsSign (token.punctuator Equals) u → ⊥
at_equals u = two_signs At Equals u (λ e. cc)

at_bang : (u : token.Token) → IsSign (token.punctuator At) u → IsSign (token.punctuator Bang) u → ⊥
at_bang u = two_signs At Bang u (λ e. cc)

equals_bang : (u : token.Token) → IsSign (token.punctuator Equals) u → IsSign (token.punctuator Bang) u → ⊥
equals_bang u = two_signs Equals Bang u (λ e. cc)

marks_equals : (rules : Rules) (o : Option (List Directive)) → Before (Optional (SpellsDirectives rules) o) Ended NoEquals
marks_equals rules o = before_optional (starts_directives rules) at_equals o (λ r (b, e, c). e)

rest_bang : (limit : Option ℕ) (x : Variable) → Before (Then (Optional (SpellsDefault limit) x.default) (Optional (SpellsDirectives (constant_rules limit)) x.directives)) Ended NoBang
rest_bang limit x =
    before_then (before_optional (starts_directives (constant_rules limit)) at_bang x.directives (λ r (b, e, c). b)) (before_optional (starts_default limit) equals_bang x.default (λ r n. n))

abbrev variable_of : Key → PlacedType → Option Value → Option (List Directive) → Variable
variable_of k t v d = record { name = k; kind = t; default = v; directives = d }

same_definition : (limit : Option ℕ) (x y : Variable) → Same (SpellsVariableDefinition limit x) (SpellsVariableDefinition limit y) Ended (x ≡ y)
same_definition limit x y =
    let rules = constant_rules limit in
    let colon = same_one (token.punctuator Colon) (token.punctuator Colon) in
    let marks = same_less (λ r (b, e, c). c) (same_marks rules x.directives y.directives) in
    let default = same_less (λ r n. (n, tt)) (same_optional (same_default limit) (starts_default limit) x.default y.default) in
    same_so (λ (k, (c, (t, (v, d)))). ap (λ z. variable_of z x.kind x.default x.directives) k ∙ ap (λ z. variable_of y.name z x.default x.directives) t ∙ ap (λ z. variable_of y.name y.kind z x.directives) v ∙ ap (λ z. variable_of y.name y.kind y.default z) d) (same_then (same_variable x.name y.name) (same_then colon (same_then (same_type limit x.kind y.kind) (same_then default marks (marks_equals rules x.directives) (marks_equals rules y.directives)) (rest_bang limit x) (rest_bang limit y)) before_any before_any) before_any before_any)

abbrev AtParen : Tokened
AtParen r = IsSign (token.punctuator ParenClose) (first r)

starts_definition : (limit : Option ℕ) (x : Variable) → Starts (IsSign (token.punctuator Dollar)) (SpellsVariableDefinition limit x)
starts_definition limit x =
    let rest = Then (One (token.punctuator Colon)) (Then (SpellsType limit x.kind) (Then (Optional (SpellsDefault limit) x.default) (Optional (SpellsDirectives (constant_rules limit)) x.directives))) in
    starts_then {Q = rest} (starts_through (λ ts h. h.0) (starts_then {Q = One (token.name x.name.name)} (starts_one (token.punctuator Dollar))))

dollar_ended : (r : List Lexeme) → IsSign (token.punctuator Dollar) (first r) → Ended r
dollar_ended r e =
    (sign_not Dollar Bang r (λ f. cc) e, sign_not Dollar Equals r (λ f. cc) e, (sign_not Dollar Colon r (λ f. cc) e, sign_not Dollar ParenOpen r (λ f. cc) e, sign_not Dollar At r (λ f. cc) e))

paren_ended : (r : List Lexeme) → AtParen r → Ended r
paren_ended r e =
    (sign_not ParenClose Bang r (λ f. cc) e, sign_not ParenClose Equals r (λ f. cc) e, (sign_not ParenClose Colon r (λ f. cc) e, sign_not ParenClose ParenOpen r (λ f. cc) e, sign_not ParenClose At r (λ f. cc) e))

same_definitions : (limit : Option ℕ) (xs ys : List Variable) → Same (SpellsEach (SpellsVariableDefinition limit) xs) (SpellsEach (SpellsVariableDefinition limit) ys) AtParen (xs ≡ ys)
same_definitions limit xs ys =
    same_less (λ r e. (sign_not ParenClose Dollar r (λ f. cc) e, paren_ended r e)) (same_each (same_definition limit) (starts_definition limit) (λ x. record { before = λ b r q f. dollar_ended (b ++ r) ((starts_definition limit x).starts b r q) }) xs ys)

close_before : {F : Tokened} → Before (One (token.punctuator ParenClose)) F AtParen
close_before = record { before = λ b r q f. (starts_one (token.punctuator ParenClose)).starts b r q }

abbrev variables_of : List Variable → Span → Variables
variables_of vs span = record { given = vs; span = span }

abbrev InParens : Option ℕ → List Variable → Tokened
InParens limit vs = Then (One (token.punctuator ParenOpen)) (Then (SpellsEach (SpellsVariableDefinition limit) vs) (One (token.punctuator ParenClose)))

there : (limit : Option ℕ) (x : Variables) (ts : List Lexeme) → SpellsVariables limit x ts → InParens limit x.given ts × Covers x.span ts
there limit x ts (some, h, c) = (h, c)

same_variables : (limit : Option ℕ) (x y : Variables) → Same (SpellsVariables limit x) (SpellsVariables limit y) Any (x ≡ y)
same_variables limit x y =
    same_so (λ ((o, (vs, c)), s). ap (λ z. variables_of z x.span) vs ∙ ap (λ z. variables_of y.given z) s) (same_through (there limit x) (there limit y) (same_covered x.span y.span (same_then (same_one (token.punctuator ParenOpen) (token.punctuator ParenOpen)) (same_then (same_definitions limit x.given y.given) (same_one (token.punctuator ParenClose) (token.punctuator ParenClose)) close_before close_before) before_any before_any)))

starts_variables : (limit : Option ℕ) (x : Variables) → Starts (IsSign (token.punctuator ParenOpen)) (SpellsVariables limit x)
starts_variables limit x =
    starts_through (λ ts h. (there limit x ts h).0) (starts_then {Q = Then (SpellsEach (SpellsVariableDefinition limit) x.given) (One (token.punctuator ParenClose))} (starts_one (token.punctuator ParenOpen)))

-- ---- operations
same_keyword : (k l : OperationType) → keyword k ≡ keyword l → k ≡ l
same_keyword Query Query e = refl
same_keyword Query Mutation e = cc
same_keyword Query Subscription e = cc
same_keyword Mutation Query e = cc
same_keyword Mutation Mutation e = refl
same_keyword Mutation Subscription e = cc
same_keyword Subscription Query e = cc
same_keyword Subscription Mutation e = cc
same_keyword Subscription Subscription e = refl

-- whether a text begins with this byte
abbrev begins_by : ℕ → List ℕ → Bool
begins_by n [] = false
begins_by n (x ∷ xs) = nat_eq x n

pub not_fragment : (k : OperationType) → keyword k ≡ fragment_word → ⊥
not_fragment Query e = let f : true ≡ false = ap (begins_by 113) e in cc
not_fragment Mutation e = let f : true ≡ false = ap (begins_by 109) e in cc
not_fragment Subscription e = let f : true ≡ false = ap (begins_by 115) e in cc

no_fragment : (k : OperationType) (u : token.Token) → IsSign (token.name (keyword k)) u → IsSign (token.name fragment_word) u → ⊥
no_fragment k u e f = not_fragment k (same_named (keyword k) fragment_word (sym e ∙ f))

name_no_brace : (n : List ℕ) (u : token.Token) → IsSign (token.name n) u → IsSign (token.punctuator BraceOpen) u → ⊥
name_no_brace n u e f = let g : token.name n ≡ token.punctuator BraceOpen = sym e ∙ f in cc

pub one_set : (limit : Option ℕ) (x y : Selections) → Same (SpellsSet limit 0 x) (SpellsSet limit 0 y) Any (x ≡ y)
one_set limit x y = same_set limit 0 x y (same_more limit 1 x y)

set_brace : (limit : Option ℕ) (set : Selections) {F : Tokened} → Before (SpellsSet limit 0 set) F AtBrace
set_brace limit set = record { before = λ b r q f. (starts_set limit 0 set).starts b r q }

set_clear : (limit : Option ℕ) (set : Selections) {F : Tokened} → Before (SpellsSet limit 0 set) F Clear
set_clear limit set = record { before = λ b r q f. brace_clear (b ++ r) ((starts_set limit 0 set).starts b r q) }

at_paren : (u : token.Token) → IsSign (token.punctuator At) u → IsSign (token.punctuator ParenOpen) u → ⊥
at_paren u = two_signs At ParenOpen u (λ e. cc)

sign_no_name : (p : Punctuator) (u : token.Token) → IsSign (token.punctuator p) u → IsName u → ⊥
sign_no_name p u e (n, f) = let g : token.punctuator p ≡ token.name n = sym e ∙ f in cc

abbrev NoName : Tokened
NoName = No IsName

starts_some_name : (k : Key) → Starts IsName (SpellsName k)
starts_some_name k = record { starts = λ a r e. (k.name, (starts_name k).starts a r e) }

-- directives and the set, and the variables before them
abbrev Marks : Option ℕ → Option (List Directive) → Tokened
Marks limit d = Optional (SpellsDirectives (open_rules limit)) d

abbrev Given : Option ℕ → Option Variables → Tokened
Given limit v = Optional (SpellsVariables limit) v

same_body : (limit : Option ℕ) (d e : Option (List Directive)) (x y : Selections) → Same (Then (Marks limit d) (SpellsSet limit 0 x)) (Then (Marks limit e) (SpellsSet limit 0 y)) Any ((d ≡ e) × (x ≡ y))
same_body limit d e x y = same_then (same_marks (open_rules limit) d e) (one_set limit x y) (set_clear limit x) (set_clear limit y)

body_paren : (limit : Option ℕ) (d : Option (List Directive)) (x : Selections) → Before (Then (Marks limit d) (SpellsSet limit 0 x)) Any NoParen
body_paren limit d x =
    before_then (set_brace limit x) (before_optional (starts_directives (open_rules limit)) at_paren d (λ r e. sign_not BraceOpen ParenOpen r (λ f. cc) e))

body_name : (limit : Option ℕ) (v : Option Variables) (d : Option (List Directive)) (x : Selections) → Before (Then (Given limit v) (Then (Marks limit d) (SpellsSet limit 0 x))) Any NoName
body_name limit v d x =
    before_then (before_then (set_brace limit x) (before_optional (starts_directives (open_rules limit)) (sign_no_name At) d (λ r e. sign_no_name BraceOpen (first r) e))) (before_optional (starts_variables limit) (sign_no_name ParenOpen) v (λ r n. n))

abbrev operation_of : OperationType → Option Key → Option Variables → Option (List Directive) → Selections → Span → Operation
operation_of k n v d x s = record { kind = k; name = n; variables = v; directives = d; set = x; span = s }

abbrev SameParts : Operation → Operation → Type 0
SameParts x y = (x.kind ≡ y.kind) × (x.name ≡ y.name) × (x.variables ≡ y.variables) × (x.directives ≡ y.directives) × (x.set ≡ y.set)

same_long : (limit : Option ℕ) (x y : Operation) → Same (SpellsLongOperation limit x) (SpellsLongOperation limit y) Any (SameParts x y)
same_long limit x y =
    let names = same_less (λ r n. (n, tt)) (same_optional same_name starts_some_name x.name y.name) in
    let given = same_less (λ r n. (n, tt)) (same_optional (same_variables limit) (starts_variables limit) x.variables y.variables) in
    same_so (λ (k, (n, (v, (d, s)))). (same_keyword x.kind y.kind (same_named (keyword x.kind) (keyword y.kind) k), n, v, d, s)) (same_then (same_one (token.name (keyword x.kind)) (token.name (keyword y.kind))) (same_then names (same_then given (same_body limit x.directives y.directives x.set y.set) (body_paren limit x.directives x.set) (body_paren limit y.directives y.set)) (body_name limit x.variables x.directives x.set) (body_name limit y.variables y.directives y.set)) before_any before_any)

same_short : (limit : Option ℕ) (x y : Operation) → Same (SpellsShortOperation limit x) (SpellsShortOperation limit y) Any (SameParts x y)
same_short limit x y = record {
  same = λ a b r s (k, n, v, d, p) (k2, n2, v2, d2, q) f g w.
      let (e, i, j) = (one_set limit x.set y.set).same a b r s p q tt tt w in
      ((k ∙ sym k2, n ∙ sym n2, v ∙ sym v2, d ∙ sym d2, e), i, j);
}

starts_long : (limit : Option ℕ) (x : Operation) → Starts (IsSign (token.name (keyword x.kind))) (SpellsLongOperation limit x)
starts_long limit x =
    starts_then {Q = Then (Optional SpellsName x.name) (Then (Given limit x.variables) (Then (Marks limit x.directives) (SpellsSet limit 0 x.set)))} (starts_one (token.name (keyword x.kind)))

starts_short : (limit : Option ℕ) (x : Operation) → Starts (IsSign (token.punctuator BraceOpen)) (SpellsShortOperation limit x)
starts_short limit x = starts_through (λ ts (k, n, v, d, h). h) (starts_set limit 0 x.set)

long_not_short : (limit : Option ℕ) (x y : Operation) → Apart (SpellsLongOperation limit x) (SpellsShortOperation limit y) Any
long_not_short limit x y = apart_first (starts_long limit x) (starts_short limit y) (name_no_brace (keyword x.kind))

abbrev Either : Option ℕ → Operation → Tokened
Either limit o ts = SpellsLongOperation limit o ts ⊎ SpellsShortOperation limit o ts

either_same : (limit : Option ℕ) (x y : Operation) (a b r s : List Lexeme) → Either limit x a → Either limit y b → a ++ r ≡ b ++ s → SameParts x y × (a ≡ b) × (r ≡ s)
either_same limit x y a b r s (inl p) (inl q) w = (same_long limit x y).same a b r s p q tt tt w
either_same limit x y a b r s (inl p) (inr q) w = absurd ((long_not_short limit x y).apart a b r s p q tt tt w)
either_same limit x y a b r s (inr p) (inl q) w = absurd ((long_not_short limit y x).apart b a s r q p tt tt (sym w))
either_same limit x y a b r s (inr p) (inr q) w = (same_short limit x y).same a b r s p q tt tt w

either : (limit : Option ℕ) (x y : Operation) → Same (Either limit x) (Either limit y) Any (SameParts x y)
either limit x y = record { same = λ a b r s p q u v w. either_same limit x y a b r s p q w }

same_operation : (limit : Option ℕ) (x y : Operation) → Same (SpellsOperation limit x) (SpellsOperation limit y) Any (x ≡ y)
same_operation limit x y =
    same_so (λ ((k, n, v, d, e), s). ap (λ z. operation_of z x.name x.variables x.directives x.set x.span) k ∙ ap (λ z. operation_of y.kind z x.variables x.directives x.set x.span) n ∙ ap (λ z. operation_of y.kind y.name z x.directives x.set x.span) v ∙ ap (λ z. operation_of y.kind y.name y.variables z x.set x.span) d ∙ ap (λ z. operation_of y.kind y.name y.variables y.directives z x.span) e ∙ ap (λ z. operation_of y.kind y.name y.variables y.directives y.set z) s) (same_covered x.span y.span (either limit x y))

-- ---- fragments
abbrev fragment_of : Key → Key → Option (List Directive) → Selections → Span → Fragment
fragment_of n c d x s = record { name = n; condition = c; directives = d; set = x; span = s }

same_fragment : (limit : Option ℕ) (x y : Fragment) → Same (SpellsFragment limit x) (SpellsFragment limit y) Any (x ≡ y)
same_fragment limit x y =
    same_so (λ ((w, (n, (c, (d, e)))), s). ap (λ z. fragment_of z x.condition x.directives x.set x.span) n ∙ ap (λ z. fragment_of y.name z x.directives x.set x.span) c ∙ ap (λ z. fragment_of y.name y.condition z x.set x.span) d ∙ ap (λ z. fragment_of y.name y.condition y.directives z x.span) e ∙ ap (λ z. fragment_of y.name y.condition y.directives y.set z) s) (same_covered x.span y.span (same_then (same_one (token.name fragment_word) (token.name fragment_word)) (same_then (same_fragment_name x.name y.name) (same_then (same_condition x.condition y.condition) (same_body limit x.directives y.directives x.set y.set) before_any before_any) before_any before_any) before_any before_any))

starts_fragment : (limit : Option ℕ) (x : Fragment) → Starts (IsSign (token.name fragment_word)) (SpellsFragment limit x)
starts_fragment limit x =
    starts_through (λ ts h. h.0) (starts_then {Q = Then (SpellsFragmentName x.name) (Then (SpellsCondition x.condition) (Then (Marks limit x.directives) (SpellsSet limit 0 x.set)))} (starts_one (token.name fragment_word)))

-- ---- a document
-- a keyword of an operation, or a brace
abbrev Opening : OperationType → token.Token → Type 0
Opening k u = IsSign (token.name (keyword k)) u ⊎ IsSign (token.punctuator BraceOpen) u

opening : (limit : Option ℕ) (x : Operation) (a r : List Lexeme) → Either limit x a → Opening x.kind (first (a ++ r))
opening limit x a r (inl h) = inl ((starts_long limit x).starts a r h)
opening limit x a r (inr h) = inr ((starts_short limit x).starts a r h)

starts_operation : (limit : Option ℕ) (x : Operation) → Starts (Opening x.kind) (SpellsOperation limit x)
starts_operation limit x = record { starts = λ a r (h, c). opening limit x a r h }

opening_no_fragment : (k : OperationType) (u : token.Token) → Opening k u → IsSign (token.name fragment_word) u → ⊥
opening_no_fragment k u (inl e) f = no_fragment k u e f
opening_no_fragment k u (inr e) f = name_no_brace fragment_word u f e

operation_no_fragment : (limit : Option ℕ) (x : Operation) (y : Fragment) → Apart (SpellsOperation limit x) (SpellsFragment limit y) Any
operation_no_fragment limit x y = apart_first (starts_operation limit x) (starts_fragment limit y) (opening_no_fragment x.kind)

same_one_definition : (limit : Option ℕ) (x y : Definition) → Same (SpellsDefinition limit x) (SpellsDefinition limit y) Any (x ≡ y)
same_one_definition limit (operation x) (operation y) = same_so (λ e. ap operation e) (same_operation limit x y)
same_one_definition limit (operation x) (fragment y) = same_apart (operation_no_fragment limit x y)
same_one_definition limit (fragment x) (operation y) = same_apart (apart_swap (operation_no_fragment limit y x))
same_one_definition limit (fragment x) (fragment y) = same_so (λ e. ap fragment e) (same_fragment limit x y)

abbrev NoEnd : token.Token → Type 0
NoEnd u = u ≡ token.end → ⊥

opening_no_end : (k : OperationType) (u : token.Token) → Opening k u → NoEnd u
opening_no_end k u (inl e) f = let g : token.name (keyword k) ≡ token.end = sym e ∙ f in cc
opening_no_end k u (inr e) f = let g : token.punctuator BraceOpen ≡ token.end = sym e ∙ f in cc

starts_definition_no_end : (limit : Option ℕ) (x : Definition) → Starts NoEnd (SpellsDefinition limit x)
starts_definition_no_end limit (operation x) = record { starts = λ a r h. opening_no_end x.kind (first (a ++ r)) ((starts_operation limit x).starts a r h) }
starts_definition_no_end limit (fragment x) = record { starts = λ a r h f. let g : token.name fragment_word ≡ token.end = sym ((starts_fragment limit x).starts a r h) ∙ f in cc }

pub document_once : (limit : Option ℕ) (text : List ℕ) (ts : List Lexeme) (xs ys : List Definition) → Only text ts → IsDocument limit text xs → IsDocument limit text ys → ys ≡ xs
document_once limit text ts xs ys only (a, last, are, end, (some, h)) (b, final, are2, end2, (some2, k)) =
    let w : b ++ final ∷ [] ≡ a ++ last ∷ [] = only (b ++ final ∷ []) are2 ∙ sym (only (a ++ last ∷ []) are) in
    let (e, i, j) = (same_each (same_one_definition limit) (starts_definition_no_end limit) (λ x. before_any) ys xs).same b a (final ∷ []) (last ∷ []) k h (λ n. n end2, tt) (λ n. n end, tt) w in
    e

-- no document goes on with the end of the text
longer : (ts more : List Lexeme) (last : Lexeme) → (ts ++ last ∷ []) ++ more ≡ ts → ⊥
longer ts more last e =
    let n : length ((ts ++ last ∷ []) ++ more) ≡ length ts = ap length e in
    omega (arith, n, length-append (ts ++ last ∷ []) more, length-append ts (last ∷ []))

joined_last : (ts more : List Lexeme) (last : Lexeme) → ((ts ++ last ∷ []) ++ more) ++ last ∷ [] ≡ ts ++ last ∷ (more ++ last ∷ [])
joined_last ts more last = append_assoc (ts ++ last ∷ []) more (last ∷ []) ∙ append_assoc ts (last ∷ []) (more ++ last ∷ [])

pub end_stops : (limit : Option ℕ) (ds es : List Definition) (ts more : List Lexeme) (last : Lexeme) → last.token ≡ token.end → SpellsDocument limit ds ts → SpellsDocument limit es ((ts ++ last ∷ []) ++ more) → ⊥
end_stops limit ds es ts more last end (some, h) (some2, k) =
    let (e, i, j) = (same_each (same_one_definition limit) (starts_definition_no_end limit) (λ x. before_any) es ds).same ((ts ++ last ∷ []) ++ more) ts (last ∷ []) (last ∷ (more ++ last ∷ [])) k h (λ n. n end, tt) (λ n. n end, tt) (joined_last ts more last) in
    longer ts more last i
