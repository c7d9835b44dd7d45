-- No two trees are spelled by the same tokens, where what follows goes on with none of them.
use Rattle.std.proofs.Common.{◌≡◌, ◌⊎◌, inl, inr, ℕ, suc, List, [], ◌∷◌, ◌++◌, append_assoc, Option, Some, None, refl, sym, ap, subst, ◌∙◌}
use Rattle.std.proofs.lemmas.List.{append_cancel_right}
use Rattle.language_types.specs.declared.position.Span.{Span}
use Rattle.language_types.specs.declared.position.SourcePosition.{SourcePosition}
use Rattle.graphql_lexer.specs.Ahead.{left}
use Rattle.graphql_lexer.specs.Lexemes.{Lexeme}
use Rattle.graphql_lexer.specs.Lexical as token
use Rattle.graphql_lexer.specs.declared.lexer.Punctuator.{Punctuator}
use Rattle.graphql_lexer.specs.declared.lexer.Punctuator.TheVariants.{At, BraceOpen, BraceClose, Colon, ParenOpen, ParenClose, Spread}
use Rattle.graphql_lexer.specs.declared.tokens.Tokens.{Tokens}
use Rattle.value_reader.specs.Grammar.{Rules, sign, Spells}
use Rattle.value_reader.specs.Values.{Key, Value}
use Rattle.value_reader.proofs.Complete.{begins_once}
use Rattle.graphql_reader.specs.Arguments.{Argument, Directive, Parens, key_sign, SpellsArgument, SpellsDirective, SpellsDirectives, SpellsEach, SpellsParens}
use Rattle.graphql_reader.specs.Passed.{BeginsWith, One, Optional, Reads, Then}
use Rattle.graphql_reader.specs.Selections.{FieldHead, InlineHead, Selection, leaf, field, spread, inline, Selections, no_selections, selection, SpellsAlias, SpellsAliased, SpellsCondition, SpellsDots, SpellsFieldHead, SpellsFragmentName, SpellsGiven, SpellsInlineHead, SpellsMore, SpellsName, SpellsSelection, SpellsSet, SpellsSpread, on, open_rules}
use Rattle.graphql_reader.proofs.ArgumentLaws.{key_same}
use Rattle.graphql_reader.proofs.PartLaws.{tail_same}
use Rattle.graphql_reader.proofs.PassedLaws.{Tokened, head_same, then_right}
use Rattle.graphql_reader.proofs.SameLaws.{Same, Apart, Starts, Before, Any, And, No, first, same_less, same_so, same_apart, same_swap, same_through, starts_through, apart_through, same_one, same_name, same_then, same_optional, same_each, same_covered, apart_first, apart_longer, apart_swap, starts_one, starts_name, starts_then, before_any, before_optional, before_starts, before_then}

abbrev pub IsSign : token.Token → token.Token → Type 0
IsSign t u = u ≡ t

abbrev pub IsName : token.Token → Type 0
IsName u = (n : List ℕ) × (u ≡ token.name n)

abbrev pub NoParen : Tokened
NoParen = No (IsSign (token.punctuator ParenOpen))

abbrev pub NoAt : Tokened
NoAt = No (IsSign (token.punctuator At))

abbrev NoColon : Tokened
NoColon = No (IsSign (token.punctuator Colon))

abbrev pub NoBrace : Tokened
NoBrace = No (IsSign (token.punctuator BraceOpen))

no_name : (p : Punctuator) → IsName (token.punctuator p) → ⊥
no_name p (n, e) = cc

-- ---- values and arguments
pub same_value : (rules : Rules) (v w : Value) → Same (Spells rules 0 v) (Spells rules 0 w) Any (v ≡ w)
same_value rules v w = record {
  same = λ a b r s h k x y e.
      let (p, q) = begins_once rules (a ++ r) v w r s (a, refl, h) (b, e, k) in
      (sym p, append_cancel_right a b s (ap (λ z. a ++ z) q ∙ e), sym q);
}

abbrev Tail : Rules → Value → List Lexeme → Type 0
Tail rules v = Then (One (token.punctuator Colon)) (Spells rules 0 v)

argument_then : (rules : Rules) (x : Argument) (ts : List Lexeme) → SpellsArgument rules x ts → Then (SpellsName x.name) (Tail rules x.value) ts
argument_then rules x ts (p, q, more, e, h) =
    (key_sign x.name ∷ [], sign Colon p q ∷ more, e, refl, (sign Colon p q ∷ [], more, refl, (p, q, refl), h))

abbrev argument_of : Key → Value → Argument
argument_of k v = record { name = k; value = v }

same_argument : (rules : Rules) (x y : Argument) → Same (SpellsArgument rules x) (SpellsArgument rules y) Any (x ≡ y)
same_argument rules x y =
    same_so (λ (k, (c, v)). ap (λ z. argument_of z x.value) k ∙ ap (λ z. argument_of y.name z) v) (same_through (argument_then rules x) (argument_then rules y) (same_then (same_name x.name y.name) (same_then (same_one (token.punctuator Colon) (token.punctuator Colon)) (same_value rules x.value y.value) before_any before_any) before_any before_any))

starts_argument : (rules : Rules) (x : Argument) → Starts IsName (SpellsArgument rules x)
starts_argument rules x = record { starts = λ a r (p, q, more, e, h). (x.name.name, ap (λ z. first (z ++ r)) e) }

abbrev parens_of : List Argument → Span → Parens
parens_of xs span = record { given = xs; span = span }

abbrev span_of : SourcePosition → SourcePosition → Span
span_of a b = record { start = a; end = b }

regroup : (x : Lexeme) (inner : List Lexeme) (y : Lexeme) (ts r : List Lexeme) → ts ≡ x ∷ (inner ++ y ∷ []) → ts ++ r ≡ x ∷ (inner ++ (y ∷ r))
regroup x inner y ts r e = ap (λ z. z ++ r) e ∙ ap (λ z. x ∷ z) (append_assoc inner (y ∷ []) r)

pub same_given : (rules : Rules) (x y : Parens) → Same (SpellsGiven rules x) (SpellsGiven rules y) Any (x ≡ y)
same_given rules x y = record {
  same = λ a b r s (some, inner, p, q, e, h) (some2, inner2, p2, q2, e2, h2) u v w.
      let close : Lexeme = sign ParenClose q x.span.end in
      let close2 : Lexeme = sign ParenClose q2 y.span.end in
      let opened : Lexeme = sign ParenOpen x.span.start p in
      let opened2 : Lexeme = sign ParenOpen y.span.start p2 in
      let w1 : opened ∷ (inner ++ (close ∷ r)) ≡ opened2 ∷ (inner2 ++ (close2 ∷ s)) = sym (regroup opened inner close a r e) ∙ w ∙ regroup opened2 inner2 close2 b s e2 in
      let i : opened ≡ opened2 = head_same _ _ _ _ w1 in
      let (same, ei, w2) = (same_each (same_argument rules) (starts_argument rules) (λ z. before_any) x.given y.given).same inner inner2 (close ∷ r) (close2 ∷ s) h h2 (λ n. no_name ParenClose n, tt) (λ n. no_name ParenClose n, tt) (tail_same _ _ _ _ w1) in
      let j : close ≡ close2 = head_same _ _ _ _ w2 in
      let spans : x.span ≡ y.span = ap (λ z. span_of z x.span.end) (ap (λ l. l.start) i) ∙ ap (λ z. span_of y.span.start z) (ap (λ l. l.stop) j) in
      (ap (λ z. parens_of z x.span) same ∙ ap (λ z. parens_of y.given z) spans, e ∙ ap (λ z. z ∷ (inner ++ close ∷ [])) i ∙ ap (λ z. opened2 ∷ (z ++ close ∷ [])) ei ∙ ap (λ z. opened2 ∷ (inner2 ++ z ∷ [])) j ∙ sym e2, tail_same _ _ _ _ w2);
}

-- ---- directives
starts_given : (rules : Rules) (x : Parens) → Starts (IsSign (token.punctuator ParenOpen)) (SpellsGiven rules x)
starts_given rules x = record { starts = λ a r (some, inner, p, q, e, h). ap (λ z. first (z ++ r)) e }

abbrev pub end_or : Option Parens → SourcePosition → SourcePosition
end_or None place = place
end_or (Some p) place = p.span.end

pub given_there : (rules : Rules) (o : Option Parens) (place stop : SourcePosition) (ts : List Lexeme) → SpellsParens rules o place stop ts → Optional (SpellsGiven rules) o ts
given_there rules None place stop ts (e, f) = e
given_there rules (Some p) place stop ts (h, f) = h

given_stop : (rules : Rules) (o : Option Parens) (place stop : SourcePosition) (ts : List Lexeme) → SpellsParens rules o place stop ts → stop ≡ end_or o place
given_stop rules None place stop ts (e, f) = f
given_stop rules (Some p) place stop ts (h, f) = f

abbrev directive_of : Key → Option Parens → Span → Directive
directive_of k o span = record { name = k; arguments = o; span = span }

same_directive : (rules : Rules) (x y : Directive) → Same (SpellsDirective rules x) (SpellsDirective rules y) NoParen (x ≡ y)
same_directive rules x y = record {
  same = λ a b r s (p, more, e, h) (p2, more2, e2, h2) u v w.
      let at1 : Lexeme = sign At x.span.start p in
      let at2 : Lexeme = sign At y.span.start p2 in
      let w1 : at1 ∷ key_sign x.name ∷ (more ++ r) ≡ at2 ∷ key_sign y.name ∷ (more2 ++ s) = sym (ap (λ z. z ++ r) e) ∙ w ∙ ap (λ z. z ++ s) e2 in
      let i : at1 ≡ at2 = head_same _ _ _ _ w1 in
      let w2 : key_sign x.name ∷ (more ++ r) ≡ key_sign y.name ∷ (more2 ++ s) = tail_same _ _ _ _ w1 in
      let j : key_sign x.name ≡ key_sign y.name = head_same _ _ _ _ w2 in
      let (given, em, w3) = (same_optional (same_given rules) (starts_given rules) x.arguments y.arguments).same more more2 r s (given_there rules x.arguments x.name.span.end x.span.end more h) (given_there rules y.arguments y.name.span.end y.span.end more2 h2) (u, tt) (v, tt) (tail_same _ _ _ _ w2) in
      let k : x.name ≡ y.name = key_same x.name y.name j in
      let stop : x.span.end ≡ y.span.end =
      given_stop rules x.arguments x.name.span.end x.span.end more h ∙ ap (λ n. end_or x.arguments n.span.end) k ∙ ap (λ o. end_or o y.name.span.end) given ∙ sym (given_stop rules y.arguments y.name.span.end y.span.end more2 h2) in
      let spans : x.span ≡ y.span = ap (λ z. span_of z x.span.end) (ap (λ l. l.start) i) ∙ ap (λ z. span_of y.span.start z) stop in
      (ap (λ z. directive_of z x.arguments x.span) k ∙ ap (λ z. directive_of y.name z x.span) given ∙ ap (λ z. directive_of y.name y.arguments z) spans, e ∙ ap (λ z. z ∷ key_sign x.name ∷ more) i ∙ ap (λ z. at2 ∷ z ∷ more) j ∙ ap (λ z. at2 ∷ key_sign y.name ∷ z) em ∙ sym e2, w3);
}

starts_directive : (rules : Rules) (d : Directive) → Starts (IsSign (token.punctuator At)) (SpellsDirective rules d)
starts_directive rules d = record { starts = λ a r (p, more, e, h). ap (λ z. first (z ++ r)) e }

pub starts_directives : (rules : Rules) (ds : List Directive) → Starts (IsSign (token.punctuator At)) (SpellsDirectives rules ds)
starts_directives rules [] = record { starts = λ a r h. absurd (h.0 refl) }
starts_directives rules (d ∷ ds) = starts_through (λ ts h. h.1) (starts_then {Q = SpellsEach (SpellsDirective rules) ds} (starts_directive rules d))

pub two_signs : (p q : Punctuator) (u : token.Token) → (p ≡ q → ⊥) → IsSign (token.punctuator p) u → IsSign (token.punctuator q) u → ⊥
two_signs p q u n e f = n (let g : token.punctuator p ≡ token.punctuator q = sym e ∙ f in cc)

pub at_paren : (u : token.Token) → IsSign (token.punctuator At) u → IsSign (token.punctuator ParenOpen) u → ⊥
at_paren u = two_signs At ParenOpen u (λ e. cc)

at_colon : (u : token.Token) → IsSign (token.punctuator At) u → IsSign (token.punctuator Colon) u → ⊥
at_colon u = two_signs At Colon u (λ e. cc)

paren_colon : (u : token.Token) → IsSign (token.punctuator ParenOpen) u → IsSign (token.punctuator Colon) u → ⊥
paren_colon u = two_signs ParenOpen Colon u (λ e. cc)

same_directives : (rules : Rules) (xs ys : List Directive) → Same (SpellsDirectives rules xs) (SpellsDirectives rules ys) (And NoAt NoParen) (xs ≡ ys)
same_directives rules xs ys =
    same_through (λ ts h. h.1) (λ ts h. h.1) (same_each (same_directive rules) (starts_directive rules) (λ d. before_starts (starts_directive rules d) at_paren) xs ys)

abbrev pub Clear : Tokened
Clear r = NoColon r × NoParen r × NoAt r

pub same_marks : (rules : Rules) (o p : Option (List Directive)) → Same (Optional (SpellsDirectives rules) o) (Optional (SpellsDirectives rules) p) Clear (o ≡ p)
same_marks rules o p = same_less (λ r c. (c.2, (c.2, c.1))) (same_optional (same_directives rules) (starts_directives rules) o p)

pub same_parens : (rules : Rules) (o p : Option Parens) → Same (Optional (SpellsGiven rules) o) (Optional (SpellsGiven rules) p) NoParen (o ≡ p)
same_parens rules o p = same_less (λ r n. (n, tt)) (same_optional (same_given rules) (starts_given rules) o p)

-- ---- what stands before a set
pub plain : (k : Key) (ts : List Lexeme) → SpellsAliased None k ts → SpellsName k ts
plain k ts (a, b, e, none, h) = subst (SpellsName k) (sym (e ∙ ap (λ z. z ++ b) none)) h

same_alias : (j k : Key) → Same (SpellsAlias j) (SpellsAlias k) Any (j ≡ k)
same_alias j k = same_so (λ (e, f). e) (same_then (same_name j k) (same_one (token.punctuator Colon) (token.punctuator Colon)) before_any before_any)

name_alone : (k j n : Key) → Apart (SpellsAliased None k) (SpellsAliased (Some j) n) NoColon
name_alone k j n =
    apart_through (plain k) (then_right (SpellsName j) (One (token.punctuator Colon)) (SpellsName n)) (apart_longer (same_name k j) (λ r c. tt) before_any (starts_then {Q = SpellsName n} (starts_one (token.punctuator Colon))) (λ r c e. c e))

same_aliased : (o p : Option Key) (k n : Key) → Same (SpellsAliased o k) (SpellsAliased p n) NoColon ((o ≡ p) × (k ≡ n))
same_aliased None None k n = same_less (λ r c. tt) (same_so (λ e. (refl, e)) (same_through (plain k) (plain n) (same_name k n)))
same_aliased None (Some p) k n = same_apart (name_alone k p n)
same_aliased (Some o) None k n = same_apart (apart_swap (name_alone n o k))
same_aliased (Some o) (Some p) k n =
    same_less (λ r c. tt) (same_so (λ (e, f). (ap Some e, f)) (same_then (same_alias o p) (same_name k n) before_any before_any))

starts_aliased : (o : Option Key) (k : Key) → Starts IsName (SpellsAliased o k)
starts_aliased None k = starts_through (plain k) (record { starts = λ a r e. (k.name, (starts_name k).starts a r e) })
starts_aliased (Some o) k =
    starts_then {Q = SpellsName k} (starts_then {Q = One (token.punctuator Colon)} (record { starts = λ a r e. (o.name, (starts_name o).starts a r e) }))

marks_paren : (rules : Rules) (o : Option (List Directive)) → Before (Optional (SpellsDirectives rules) o) Clear NoParen
marks_paren rules o = before_optional (starts_directives rules) at_paren o (λ r c. c.1)

parens_colon : (rules : Rules) (o : Option Parens) (p : Option (List Directive)) → Before (Then (Optional (SpellsGiven rules) o) (Optional (SpellsDirectives rules) p)) Clear NoColon
parens_colon rules o p =
    before_then (before_optional (starts_directives rules) at_colon p (λ r c. c.0)) (before_optional (starts_given rules) paren_colon o (λ r c. c))

abbrev field_of : Option Key → Key → Option Parens → Option (List Directive) → FieldHead
field_of o k g d = record { alias = o; name = k; arguments = g; directives = d }

pub same_field : (limit : Option ℕ) (x y : FieldHead) → Same (SpellsFieldHead limit x) (SpellsFieldHead limit y) Clear (x ≡ y)
same_field limit x y =
    let rules = open_rules limit in
    same_so (λ ((o, k), (g, d)). ap (λ z. field_of z x.name x.arguments x.directives) o ∙ ap (λ z. field_of y.alias z x.arguments x.directives) k ∙ ap (λ z. field_of y.alias y.name z x.directives) g ∙ ap (λ z. field_of y.alias y.name y.arguments z) d) (same_then (same_aliased x.alias y.alias x.name y.name) (same_then (same_parens rules x.arguments y.arguments) (same_marks rules x.directives y.directives) (marks_paren rules x.directives) (marks_paren rules y.directives)) (parens_colon rules x.arguments x.directives) (parens_colon rules y.arguments y.directives))

starts_field : (limit : Option ℕ) (x : FieldHead) → Starts IsName (SpellsFieldHead limit x)
starts_field limit x = starts_then (starts_aliased x.alias x.name)

-- ---- a set
abbrev pub AtBrace : Tokened
AtBrace r = IsSign (token.punctuator BraceOpen) (first r)

abbrev AtEnd : Tokened
AtEnd r = IsSign (token.punctuator BraceClose) (first r)

-- what may follow a selection
abbrev pub After : Tokened
After r = NoBrace r × Clear r

pub sign_not : (p q : Punctuator) (r : List Lexeme) → (p ≡ q → ⊥) → IsSign (token.punctuator p) (first r) → No (IsSign (token.punctuator q)) r
sign_not p q r n e = two_signs p q (first r) n e

pub starts_set : (limit : Option ℕ) (depth : ℕ) (set : Selections) → Starts (IsSign (token.punctuator BraceOpen)) (SpellsSet limit depth set)
starts_set limit depth set =
    starts_through (λ ts h. h.1) (starts_then {Q = Then (SpellsMore limit (suc depth) set) (One (token.punctuator BraceClose))} (starts_one (token.punctuator BraceOpen)))

brace_before : (limit : Option ℕ) (depth : ℕ) (set : Selections) {F : Tokened} → Before (SpellsSet limit depth set) F AtBrace
brace_before limit depth set = record { before = λ b r q f. (starts_set limit depth set).starts b r q }

pub brace_clear : (r : List Lexeme) → AtBrace r → Clear r
brace_clear r e = (sign_not BraceOpen Colon r (λ f. cc) e, sign_not BraceOpen ParenOpen r (λ f. cc) e, sign_not BraceOpen At r (λ f. cc) e)

before_clear : (limit : Option ℕ) (depth : ℕ) (set : Selections) {F : Tokened} → Before (SpellsSet limit depth set) F Clear
before_clear limit depth set = record { before = λ b r q f. brace_clear (b ++ r) ((starts_set limit depth set).starts b r q) }

end_before : {F : Tokened} → Before (One (token.punctuator BraceClose)) F AtEnd
end_before = record { before = λ b r q f. (starts_one (token.punctuator BraceClose)).starts b r q }

pub same_set : (limit : Option ℕ) (depth : ℕ) (x y : Selections) → Same (SpellsMore limit (suc depth) x) (SpellsMore limit (suc depth) y) AtEnd (x ≡ y) → Same (SpellsSet limit depth x) (SpellsSet limit depth y) Any (x ≡ y)
same_set limit depth x y h =
    same_so (λ (e, (f, g)). f) (same_through (λ ts k. k.1) (λ ts k. k.1) (same_then (same_one (token.punctuator BraceOpen) (token.punctuator BraceOpen)) (same_then h (same_one (token.punctuator BraceClose) (token.punctuator BraceClose)) end_before end_before) before_any before_any))

-- ---- fragments
pub same_fragment_name : (j k : Key) → Same (SpellsFragmentName j) (SpellsFragmentName k) Any (j ≡ k)
same_fragment_name j k = same_through (λ ts h. h.1) (λ ts h. h.1) (same_name j k)

pub same_condition : (j k : Key) → Same (SpellsCondition j) (SpellsCondition k) Any (j ≡ k)
same_condition j k = same_so (λ (e, f). f) (same_then (same_one (token.name on) (token.name on)) (same_name j k) before_any before_any)

pub starts_condition : (k : Key) → Starts (IsSign (token.name on)) (SpellsCondition k)
starts_condition k = starts_then {Q = SpellsName k} (starts_one (token.name on))

abbrev NoOn : Tokened
NoOn = No (IsSign (token.name on))

same_dots : (o p : Option Key) → Same (SpellsDots o) (SpellsDots p) NoOn (o ≡ p)
same_dots o p =
    same_so (λ (e, f). f) (same_then (same_one (token.punctuator Spread) (token.punctuator Spread)) (same_less (λ r n. (n, tt)) (same_optional same_condition starts_condition o p)) before_any before_any)

at_on : (u : token.Token) → IsSign (token.punctuator At) u → IsSign (token.name on) u → ⊥
at_on u e f = let g : token.punctuator At ≡ token.name on = sym e ∙ f in cc

brace_on : (r : List Lexeme) → AtBrace r → NoOn r
brace_on r e f = let g : token.punctuator BraceOpen ≡ token.name on = sym e ∙ f in cc

abbrev inline_of : Option Key → Option (List Directive) → InlineHead
inline_of o d = record { condition = o; directives = d }

marks_on : (rules : Rules) (o : Option (List Directive)) → Before (Optional (SpellsDirectives rules) o) AtBrace NoOn
marks_on rules o = before_optional (starts_directives rules) at_on o brace_on

same_inline : (limit : Option ℕ) (x y : InlineHead) → Same (SpellsInlineHead limit x) (SpellsInlineHead limit y) AtBrace (x ≡ y)
same_inline limit x y =
    let rules = open_rules limit in
    same_so (λ (o, d). ap (λ z. inline_of z x.directives) o ∙ ap (λ z. inline_of y.condition z) d) (same_then (same_dots x.condition y.condition) (same_less brace_clear (same_marks rules x.directives y.directives)) (marks_on rules x.directives) (marks_on rules y.directives))

same_spread : (limit : Option ℕ) (j k : Key) (ds es : Option (List Directive)) → Same (SpellsSpread limit j ds) (SpellsSpread limit k es) Clear ((j ≡ k) × (ds ≡ es))
same_spread limit j k ds es =
    same_so (λ (e, f). f) (same_then (same_one (token.punctuator Spread) (token.punctuator Spread)) (same_then (same_fragment_name j k) (same_marks (open_rules limit) ds es) before_any before_any) before_any before_any)

starts_spread : (limit : Option ℕ) (k : Key) (ds : Option (List Directive)) → Starts (IsSign (token.punctuator Spread)) (SpellsSpread limit k ds)
starts_spread limit k ds =
    starts_then {Q = Then (SpellsFragmentName k) (Optional (SpellsDirectives (open_rules limit)) ds)} (starts_one (token.punctuator Spread))

starts_inline : (limit : Option ℕ) (h : InlineHead) → Starts (IsSign (token.punctuator Spread)) (SpellsInlineHead limit h)
starts_inline limit h =
    starts_then {Q = Optional (SpellsDirectives (open_rules limit)) h.directives} (starts_then {Q = Optional SpellsCondition h.condition} (starts_one (token.punctuator Spread)))

-- a name other than `on`, and what else may follow the dots
abbrev OtherName : token.Token → Type 0
OtherName u = (n : List ℕ) × (n ≡ on → ⊥) × (u ≡ token.name n)

abbrev NoOtherName : token.Token → Type 0
NoOtherName u = OtherName u → ⊥

starts_fragment_name : (k : Key) → Starts OtherName (SpellsFragmentName k)
starts_fragment_name k = record { starts = λ a r (n, e). (k.name, n, (starts_name k).starts a r e) }

starts_optional : {T : Type 0} {S : T → Tokened} {K : token.Token → Type 0} {Q : Tokened} → ((x : T) → Starts K (S x)) → Starts K Q → (o : Option T) → Starts K (Then (Optional S o) Q)
starts_optional {K = K} k q None = record { starts = λ a r (x, y, e, none, h). subst K (sym (ap (λ z. first (z ++ r)) (e ∙ ap (λ z. z ++ y) none))) (q.starts y r h) }
starts_optional {Q = Q} k q (Some x) = starts_then {Q = Q} (k x)

starts_as : {K M : token.Token → Type 0} {P : Tokened} → ((u : token.Token) → K u → M u) → Starts K P → Starts M P
starts_as f h = record { starts = λ a r p. f (first (a ++ r)) (h.starts a r p) }

on_no_other : (u : token.Token) → IsSign (token.name on) u → NoOtherName u
on_no_other u e (n, f, g) = let h : token.name on ≡ token.name n = sym e ∙ g in f cc

sign_no_other : (p : Punctuator) (u : token.Token) → IsSign (token.punctuator p) u → NoOtherName u
sign_no_other p u e (n, f, g) = let h : token.punctuator p ≡ token.name n = sym e ∙ g in cc

behind_dots : (limit : Option ℕ) (depth : ℕ) (h : InlineHead) (set : Selections) → Starts NoOtherName (Then (Optional SpellsCondition h.condition) (Then (Optional (SpellsDirectives (open_rules limit)) h.directives) (SpellsSet limit depth set)))
behind_dots limit depth h set =
    starts_optional (λ k. starts_as on_no_other (starts_condition k)) (starts_optional (λ ds. starts_as (sign_no_other At) (starts_directives (open_rules limit) ds)) (starts_as (sign_no_other BraceOpen) (starts_set limit depth set)) h.directives) h.condition

apart_then : {P P2 Q Q2 G : Tokened} {D : Type 0} → Same P P2 Any D → Apart Q Q2 G → Apart (Then P Q) (Then P2 Q2) G
apart_then h k = record {
  apart = λ a b r s (a1, a2, e, p, q) (b1, b2, f, p2, q2) u v w.
      let w1 : a1 ++ (a2 ++ r) ≡ b1 ++ (b2 ++ s) = sym (ap (λ z. z ++ r) e ∙ append_assoc a1 a2 r) ∙ w ∙ ap (λ z. z ++ s) f ∙ append_assoc b1 b2 s in
      let (x, ea, w2) = h.same a1 b1 (a2 ++ r) (b2 ++ s) p p2 tt tt w1 in
      k.apart a2 b2 r s q q2 u v w2;
}

spread_no_inline : (limit : Option ℕ) (depth : ℕ) (k : Key) (ds : Option (List Directive)) (h : InlineHead) (set : Selections) → Apart (SpellsSpread limit k ds) (Then (SpellsInlineHead limit h) (SpellsSet limit depth set)) After
spread_no_inline limit depth k ds h set =
    let D : Tokened = Optional (SpellsDirectives (open_rules limit)) h.directives in
    let C : Tokened = Optional SpellsCondition h.condition in
    let E : Tokened = Optional (SpellsDirectives (open_rules limit)) ds in
    apart_through (λ ts z. z) (λ ts z. then_right (One (token.punctuator Spread)) C (Then D (SpellsSet limit depth set)) ts (then_right (SpellsDots h.condition) D (SpellsSet limit depth set) ts z)) (apart_then {Q = Then (SpellsFragmentName k) E} {Q2 = Then C (Then D (SpellsSet limit depth set))} (same_one (token.punctuator Spread) (token.punctuator Spread)) (apart_first (starts_then {Q = E} (starts_fragment_name k)) (behind_dots limit depth h set) (λ u x y. y x)))

-- ---- selections
after_close : (r : List Lexeme) → AtEnd r → After r
after_close r e =
    (sign_not BraceClose BraceOpen r (λ f. cc) e, (sign_not BraceClose Colon r (λ f. cc) e, sign_not BraceClose ParenOpen r (λ f. cc) e, sign_not BraceClose At r (λ f. cc) e))

-- a selection begins with a name, or with dots
abbrev Begin : token.Token → Type 0
Begin u = IsName u ⊎ IsSign (token.punctuator Spread) u

starts_selection : (limit : Option ℕ) (depth : ℕ) (x : Selection) → Starts Begin (SpellsSelection limit depth x)
starts_selection limit depth (leaf h span) = starts_through (λ ts z. z.0) (starts_as (λ u e. inl e) (starts_field limit h))
starts_selection limit depth (field h set span) = starts_through (λ ts z. z.0) (starts_as (λ u e. inl e) (starts_then {Q = SpellsSet limit depth set} (starts_field limit h)))
starts_selection limit depth (spread k ds span) = starts_through (λ ts z. z.0) (starts_as (λ u e. inr e) (starts_spread limit k ds))
starts_selection limit depth (inline h set span) = starts_through (λ ts z. z.0) (starts_as (λ u e. inr e) (starts_then {Q = SpellsSet limit depth set} (starts_inline limit h)))

starts_more : (limit : Option ℕ) (depth : ℕ) (xs : Selections) → Starts Begin (SpellsMore limit depth xs)
starts_more limit depth no_selections = record { starts = λ a r h. absurd h }
starts_more limit depth (selection x no_selections) = starts_selection limit depth x
starts_more limit depth (selection x (selection y ys)) = starts_then {Q = SpellsMore limit depth (selection y ys)} (starts_selection limit depth x)

begin_not : (p : Punctuator) (u : token.Token) → (p ≡ Spread → ⊥) → Begin u → IsSign (token.punctuator p) u → ⊥
begin_not p u n (inl (k, e)) f = let g : token.name k ≡ token.punctuator p = sym e ∙ f in cc
begin_not p u n (inr e) f = two_signs p Spread u n f e

before_more : (limit : Option ℕ) (depth : ℕ) (xs : Selections) {F : Tokened} → Before (SpellsMore limit depth xs) F After
before_more limit depth xs =
    record {
      before = λ b r q f.
          let k = (starts_more limit depth xs).starts b r q in
          (begin_not BraceOpen (first (b ++ r)) (λ e. cc) k, (begin_not Colon (first (b ++ r)) (λ e. cc) k, begin_not ParenOpen (first (b ++ r)) (λ e. cc) k, begin_not At (first (b ++ r)) (λ e. cc) k));
    }

name_no_dots : (u : token.Token) → IsName u → IsSign (token.punctuator Spread) u → ⊥
name_no_dots u (n, e) f = let g : token.name n ≡ token.punctuator Spread = sym e ∙ f in cc

leaf_no_field : (limit : Option ℕ) (depth : ℕ) (x y : FieldHead) (set : Selections) → Apart (SpellsFieldHead limit x) (Then (SpellsFieldHead limit y) (SpellsSet limit depth set)) After
leaf_no_field limit depth x y set =
    apart_longer (same_field limit x y) (λ r a. a.1) (before_clear limit depth set) (starts_set limit depth set) (λ r a. a.0)

mutual
  pub same_selection : (limit : Option ℕ) (depth : ℕ) (x y : Selection) → Same (SpellsSelection limit depth x) (SpellsSelection limit depth y) After (x ≡ y)
  same_selection limit depth (leaf h s) (leaf k t) = same_so (λ (e, f). ap (λ z. leaf z s) e ∙ ap (leaf k) f) (same_covered s t (same_less (λ r a. a.1) (same_field limit h k)))
  same_selection limit depth (leaf h s) (field k set t) = same_apart (apart_through (λ ts z. z.0) (λ ts z. z.0) (leaf_no_field limit depth h k set))
  same_selection limit depth (leaf h s) (spread k ds t) = same_apart (apart_through (λ ts z. z.0) (λ ts z. z.0) (apart_first (starts_field limit h) (starts_spread limit k ds) name_no_dots))
  same_selection limit depth (leaf h s) (inline k set t) = same_apart (apart_through (λ ts z. z.0) (λ ts z. z.0) (apart_first (starts_field limit h) (starts_then {Q = SpellsSet limit depth set} (starts_inline limit k)) name_no_dots))
  same_selection limit depth (field h set s) (leaf k t) = same_apart (apart_swap (apart_through (λ ts z. z.0) (λ ts z. z.0) (leaf_no_field limit depth k h set)))
  same_selection limit depth (field h set s) (field k set2 t) =
      same_so (λ ((e, g), f). ap (λ z. field z set s) e ∙ ap (λ z. field k z s) g ∙ ap (field k set2) f) (same_covered s t (same_less (λ r a. tt) (same_then (same_field limit h k) (same_set limit depth set set2 (same_more limit (suc depth) set set2)) (before_clear limit depth set) (before_clear limit depth set2))))
  same_selection limit depth (field h set s) (spread k ds t) = same_apart (apart_through (λ ts z. z.0) (λ ts z. z.0) (apart_first (starts_then {Q = SpellsSet limit depth set} (starts_field limit h)) (starts_spread limit k ds) name_no_dots))
  same_selection limit depth (field h set s) (inline k set2 t) = same_apart (apart_through (λ ts z. z.0) (λ ts z. z.0) (apart_first (starts_then {Q = SpellsSet limit depth set} (starts_field limit h)) (starts_then {Q = SpellsSet limit depth set2} (starts_inline limit k)) name_no_dots))
  same_selection limit depth (spread k ds s) (leaf h t) = same_apart (apart_swap (apart_through (λ ts z. z.0) (λ ts z. z.0) (apart_first (starts_field limit h) (starts_spread limit k ds) name_no_dots)))
  same_selection limit depth (spread k ds s) (field h set t) = same_apart (apart_swap (apart_through (λ ts z. z.0) (λ ts z. z.0) (apart_first (starts_then {Q = SpellsSet limit depth set} (starts_field limit h)) (starts_spread limit k ds) name_no_dots)))
  same_selection limit depth (spread k ds s) (spread j es t) =
      same_so (λ ((e, g), f). ap (λ z. spread z ds s) e ∙ ap (λ z. spread j z s) g ∙ ap (spread j es) f) (same_covered s t (same_less (λ r a. a.1) (same_spread limit k j ds es)))
  same_selection limit depth (spread k ds s) (inline h set t) = same_apart (apart_through (λ ts z. z.0) (λ ts z. z.0) (spread_no_inline limit depth k ds h set))
  same_selection limit depth (inline h set s) (leaf k t) = same_apart (apart_swap (apart_through (λ ts z. z.0) (λ ts z. z.0) (apart_first (starts_field limit k) (starts_then {Q = SpellsSet limit depth set} (starts_inline limit h)) name_no_dots)))
  same_selection limit depth (inline h set s) (field k set2 t) = same_apart (apart_swap (apart_through (λ ts z. z.0) (λ ts z. z.0) (apart_first (starts_then {Q = SpellsSet limit depth set2} (starts_field limit k)) (starts_then {Q = SpellsSet limit depth set} (starts_inline limit h)) name_no_dots)))
  same_selection limit depth (inline h set s) (spread k ds t) = same_apart (apart_swap (apart_through (λ ts z. z.0) (λ ts z. z.0) (spread_no_inline limit depth k ds h set)))
  same_selection limit depth (inline h set s) (inline k set2 t) =
      same_so (λ ((e, g), f). ap (λ z. inline z set s) e ∙ ap (λ z. inline k z s) g ∙ ap (inline k set2) f) (same_covered s t (same_less (λ r a. tt) (same_then (same_inline limit h k) (same_set limit depth set set2 (same_more limit (suc depth) set set2)) (brace_before limit depth set) (brace_before limit depth set2))))

  pub same_more : (limit : Option ℕ) (depth : ℕ) (xs ys : Selections) → Same (SpellsMore limit depth xs) (SpellsMore limit depth ys) AtEnd (xs ≡ ys)
  same_more limit depth no_selections ys = record { same = λ a b r s p q u v w. absurd p }
  same_more limit depth (selection x xs) no_selections = record { same = λ a b r s p q u v w. absurd q }
  same_more limit depth (selection x no_selections) (selection y no_selections) =
      same_so (λ e. ap (λ z. selection z no_selections) e) (same_less after_close (same_selection limit depth x y))
  same_more limit depth (selection x no_selections) (selection y (selection z zs)) =
      same_apart (apart_longer (same_selection limit depth x y) after_close (before_more limit depth (selection z zs)) (starts_more limit depth (selection z zs)) (λ r e k. begin_not BraceClose (first r) (λ f. cc) k e))
  same_more limit depth (selection x (selection z zs)) (selection y no_selections) =
      same_apart (apart_swap (apart_longer (same_swap (same_selection limit depth x y)) after_close (before_more limit depth (selection z zs)) (starts_more limit depth (selection z zs)) (λ r e k. begin_not BraceClose (first r) (λ f. cc) k e)))
  same_more limit depth (selection x (selection z zs)) (selection y (selection u us)) =
      same_so (λ (e, f). ap (λ v. selection v (selection z zs)) e ∙ ap (selection y) f) (same_then (same_selection limit depth x y) (same_more limit depth (selection z zs) (selection u us)) (before_more limit depth (selection z zs)) (before_more limit depth (selection u us)))

pub set_once : (limit : Option ℕ) (x : Selections) (old new : Tokens) → Reads (SpellsSet limit 0 x) old new → (y : Selections) (rest : List Lexeme) → BeginsWith (SpellsSet limit 0 y) (left old) rest → (y ≡ x) × (rest ≡ left new)
set_once limit x old new (ts, (e, s), h) y rest (front, f, k) =
    let (q, a, r) = (same_set limit 0 y x (same_more limit 1 y x)).same front ts rest (left new) k h tt tt (sym f ∙ e) in (q, r)
