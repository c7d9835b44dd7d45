-- What is left of values, arguments and directives, token by token.
use Rattle.std.proofs.Common.{◌≡◌, ◌⊎◌, inl, inr, ℕ, List, [], ◌∷◌, ◌++◌, append_assoc, append-nil, Option, None, refl, sym, ap, subst, ◌∙◌}
use Rattle.graphql_lexer.specs.Ahead.{ahead_of, left, IsLeft, IsTaken}
use Rattle.graphql_lexer.specs.Lexemes.{Lexeme}
use Rattle.graphql_lexer.specs.Lexical as token
use Rattle.graphql_lexer.specs.declared.error.ReadError.{ReadError}
use Rattle.graphql_lexer.specs.declared.error.ReadError.TheVariants.{Syntax, OutOfMemory}
use Rattle.graphql_lexer.specs.declared.lexer.Punctuator.{Punctuator}
use Rattle.graphql_lexer.specs.declared.lexer.Punctuator.TheVariants.{At, Colon, ParenOpen, ParenClose}
use Rattle.graphql_lexer.specs.declared.tokens.Tokens.{Tokens}
use Rattle.value_reader.specs.Faults.{IsFirstFault, IsNone, IsPlaced}
use Rattle.value_reader.specs.Grammar.{Rules, lexeme, null_name, Begins, GoesOn, Spells}
use Rattle.value_reader.specs.Seen.{rules_of}
use Rattle.value_reader.specs.Values.{Value}
use Rattle.value_reader.specs.declared.rules.Variables.{Variables}
use Rattle.graphql_reader.specs.Arguments.{Argument, Directive, SpellsArgument, SpellsDirective}
use Rattle.graphql_reader.specs.Languages.{Language, InTurn, Nothing, Perhaps, IsNamed, IsSign, Sign, AName, AValue, AnArgument, MoreArguments, InParens, ADirective, Marks, NoParen, NoMarks, Anything, Differs, Leaves, Stuck, IsFault}
use Rattle.graphql_reader.proofs.ArgumentLaws.{nothing, origin}
use Rattle.graphql_reader.proofs.LanguageLaws.{BegunArguments, argument_parts, directive_parts, loose, parens_parts}
use Rattle.graphql_reader.proofs.LeavesLaws.{Begin, Before, Example, alike_refl, before_any, before_several, begin_alike, begin_single, begin_turn, example_absent, example_alike, example_several, example_turn, fault_behind, fault_front, fault_memory, fault_stuck, leaves_absent, leaves_alike, leaves_ended, leaves_ended_before, leaves_from, leaves_more, leaves_more_before, leaves_one, leaves_present, leaves_single, leaves_then, leaves_token, stuck_begin}
use Rattle.graphql_reader.proofs.OnlyLaws.{same_value}
use Rattle.graphql_reader.proofs.PartLaws.{tail_same}
use Rattle.graphql_reader.proofs.PassedLaws.{HasSome, Tokened, head_same}
use Rattle.graphql_reader.proofs.TypeLeaveLaws.{example_name, example_sign, sign_not_name}

-- ---- tokens that differ
pub signs_differ : (s t : Punctuator) (u : token.Token) → (s ≡ t → ⊥) → IsSign s u → u ≡ token.punctuator t → ⊥
signs_differ s t u n e f = n (let g : token.punctuator s ≡ token.punctuator t = sym e ∙ f in cc)

-- ---- a value
pub value_read : {limit : Option ℕ} {F : Tokened} (vs : Variables) (old new : Tokens) (v : Value) → Begins (rules_of vs limit) (left old) v (left new) → Leaves limit F (AValue vs) Nothing old new
value_read {limit} vs old new v (front, e, h) = record {
  taken = front;
  place = e;
  rest = λ more x r p f w. ([], record { none = refl }, ((same_value (rules_of vs limit) v p.tree).same front x (ahead_of new ∷ more) r h p.spelled tt tt w).2);
  whole = λ z w. record { tree = v; spelled = subst (Spells (rules_of vs None) 0 v) (sym (ap (λ y. front ++ y) w.none ∙ append-nil front)) (loose vs limit v front h) };
}

-- these tokens and y are the first of a, or a ends before y
abbrev Split : List Lexeme → Lexeme → List Lexeme → List Lexeme → Type 0
Split u y m a = ((c : List Lexeme) × (u ≡ a ++ c)) ⊎ ((c : List Lexeme) × (a ≡ (u ++ y ∷ []) ++ c))

split_more : (w z : Lexeme) (u : List Lexeme) (y : Lexeme) (m a : List Lexeme) → w ≡ z → Split u y m a → Split (w ∷ u) y m (z ∷ a)
split_more w z u y m a e (inl (c, f)) = inl (c, ap (λ k. k ∷ u) e ∙ ap (λ ks. z ∷ ks) f)
split_more w z u y m a e (inr (c, f)) = inr (c, ap (λ k. k ∷ a) (sym e) ∙ ap (λ ks. w ∷ ks) f)

split : (u : List Lexeme) (y : Lexeme) (m a r : List Lexeme) → u ++ y ∷ m ≡ a ++ r → Split u y m a
split [] y m [] r e = inl ([], refl)
split [] y m (z ∷ a) r e = inr (a, ap (λ k. k ∷ a) (sym (head_same _ _ _ _ e)))
split (w ∷ u) y m [] r e = inl (w ∷ u, refl)
split (w ∷ u) y m (z ∷ a) r e = split_more w z u y m a (head_same _ _ _ _ e) (split u y m a r (tail_same _ _ _ _ e))

no_value : (vs : Variables) (limit : Option ℕ) (old new : Tokens) (before m a : List Lexeme) (w : Value) → ((v : Value) (rest : List Lexeme) → Begins (rules_of vs limit) (left old) v rest → ⊥) → left old ≡ before ++ left new → (GoesOn (rules_of vs limit) (before ++ ahead_of new ∷ []) → ⊥) → Spells (rules_of vs limit) 0 w a → Split before (ahead_of new) m a → ⊥
no_value vs limit old new before m a w none e stuck h (inl (c, f)) =
    none w (c ++ left new) (a, e ∙ ap (λ z. z ++ left new) f ∙ append_assoc a c (left new), h)
no_value vs limit old new before m a w none e stuck h (inr (c, f)) =
    stuck (w, c, subst (Spells (rules_of vs limit) 0 w) f h)

pub value_fault : {limit : Option ℕ} {F : Tokened} (vs : Variables) (old new : Tokens) (e : ReadError) → IsNone (rules_of vs limit) (left old) e → IsFirstFault (rules_of vs limit) (left old) (left new) e → IsPlaced (ahead_of new) e → IsFault limit F (AValue vs) old new e
value_fault vs old new OutOfMemory none h placed = fault_memory
value_fault {limit} {F} vs old new (Syntax e) none (before, x, more, l, f, ((v, rest, u), stuck, place)) placed =
    let same : ahead_of new ≡ x = head_same _ _ _ _ l in
    let at : left old ≡ before ++ left new = f ∙ ap (λ z. before ++ z) (sym l) in
    let s : Stuck limit F (AValue vs) old new = record {
      taken = before;
      place = at;
      never = λ m a r p g w. no_value vs limit old new before m a p.tree none at (subst (λ y. GoesOn (rules_of vs limit) (before ++ y ∷ []) → ⊥) (sym same) stuck) p.spelled (split before (ahead_of new) m a r w);
      goes_on = (rest, record { tree = v; spelled = loose vs limit v (before ++ rest) u });
    } in
    fault_stuck s placed

example_value : (vs : Variables) → Example (AValue vs)
example_value vs = (lexeme (token.name null_name) origin origin ∷ [], record { tree = nothing; spelled = refl })

-- ---- an argument
example_argument : (vs : Variables) → Example (AnArgument vs)
example_argument vs = example_alike (argument_parts vs) (example_turn example_name (example_turn (example_sign Colon) (example_value vs)))

begin_argument : (vs : Variables) → Begin IsNamed (AnArgument vs)
begin_argument vs = begin_alike (argument_parts vs) (begin_turn begin_single)

argument_named : {limit : Option ℕ} {F : Tokened} {a b : Tokens} (vs : Variables) (n : List ℕ) → IsTaken (token.name n) a b → Leaves limit F (AnArgument vs) (InTurn (Sign Colon) (AValue vs)) a b
argument_named vs n t = leaves_from (argument_parts vs) (leaves_token (token.name n) t (n, refl))

pub argument_read : {limit : Option ℕ} {F : Tokened} {a c d : Tokens} (vs : Variables) (b : Tokens) (n : List ℕ) → IsTaken (token.name n) a b → IsTaken (token.punctuator Colon) b c → Leaves limit F (AValue vs) Nothing c d → Leaves limit F (AnArgument vs) Nothing a d
argument_read vs b n t u h = leaves_then (argument_named {b = b} vs n t) (leaves_then (leaves_token (token.punctuator Colon) u refl) h)

pub argument_nameless : {limit : Option ℕ} {F : Tokened} {a b : Tokens} {e : ReadError} (vs : Variables) → ((s : List ℕ) → IsLeft (token.name s) a b) → IsPlaced (ahead_of b) e → IsFault limit F (AnArgument vs) a b e
argument_nameless vs none placed =
    fault_stuck (stuck_begin (none []).1 (begin_argument vs) (λ (s, f). (none s).0 f) (example_argument vs)) placed

pub argument_colon : {limit : Option ℕ} {F : Tokened} {a c : Tokens} {e : ReadError} (vs : Variables) (b : Tokens) (n : List ℕ) → IsTaken (token.name n) a b → IsLeft (token.punctuator Colon) b c → IsPlaced (ahead_of c) e → IsFault limit F (AnArgument vs) a c e
argument_colon vs b n t u placed =
    fault_behind (argument_named {b = b} vs n t) (fault_stuck (stuck_begin {K = IsSign Colon} u.1 (begin_turn begin_single) u.0 (example_turn (example_sign Colon) (example_value vs))) placed)

pub argument_value : {limit : Option ℕ} {F : Tokened} {a c d : Tokens} {e : ReadError} (vs : Variables) (b : Tokens) (n : List ℕ) → IsTaken (token.name n) a b → IsTaken (token.punctuator Colon) b c → IsFault limit F (AValue vs) c d e → IsFault limit F (AnArgument vs) a d e
argument_value vs b n t u h = fault_behind (argument_named {b = b} vs n t) (fault_behind (leaves_token (token.punctuator Colon) u refl) h)

-- ---- arguments
pub begin_parens : (vs : Variables) → Begin (IsSign ParenOpen) (InParens vs)
begin_parens vs = begin_alike (parens_parts vs) (begin_turn begin_single)

pub parens_absent : {limit : Option ℕ} {F : Tokened} {a b : Tokens} (vs : Variables) → IsLeft (token.punctuator ParenOpen) a b → Leaves limit F (Perhaps (InParens vs)) Nothing a b
parens_absent vs t = leaves_absent t.1 (begin_parens vs) t.0

pub parens_begun : {limit : Option ℕ} {a b : Tokens} (vs : Variables) → IsTaken (token.punctuator ParenOpen) a b → Leaves limit NoParen (Perhaps (InParens vs)) (BegunArguments vs) a b
parens_begun vs t =
    leaves_then (leaves_present refl (λ r f e. f.0 (e ∙ t.0))) (leaves_from (parens_parts vs) (leaves_token (token.punctuator ParenOpen) t refl))

abbrev RestOfArguments : Variables → Language
RestOfArguments vs = InTurn (MoreArguments vs) (Sign ParenClose)

argument_more : {limit : Option ℕ} {F : Tokened} {a b : Tokens} (vs : Variables) → Leaves limit Anything (AnArgument vs) Nothing a b → Leaves limit F (BegunArguments vs) (RestOfArguments vs) a b
argument_more vs h = leaves_one h before_any

pub parens_more : {limit : Option ℕ} {F : Tokened} {a b c : Tokens} (vs : Variables) → Leaves limit Anything (AnArgument vs) Nothing a b → IsLeft (token.punctuator ParenClose) b c → Leaves limit F (BegunArguments vs) (BegunArguments vs) a c
parens_more vs h t = leaves_then (argument_more vs h) (leaves_more_before {M = IsSign ParenClose} t.1 begin_single t.0)

pub parens_ended : {limit : Option ℕ} {F : Tokened} {a b c : Tokens} (vs : Variables) → Leaves limit Anything (AnArgument vs) Nothing a b → IsTaken (token.punctuator ParenClose) b c → Leaves limit F (BegunArguments vs) Nothing a c
parens_ended vs h t =
    leaves_then (argument_more vs h) (leaves_then (leaves_ended_before refl (begin_argument vs) (λ k. sign_not_name ParenClose _ t.0 k)) (leaves_single (token.punctuator ParenClose) t refl))

pub parens_fault : {limit : Option ℕ} {F : Tokened} {a b : Tokens} {e : ReadError} (vs : Variables) → IsFault limit Anything (AnArgument vs) a b e → IsFault limit F (BegunArguments vs) a b e
parens_fault vs h = fault_front h before_any (example_turn example_several (example_sign ParenClose))

-- ---- directives
pub begin_directive : (vs : Variables) → Begin (IsSign At) (ADirective vs)
begin_directive vs = begin_alike (directive_parts vs) (begin_turn begin_single)

at_taken : {limit : Option ℕ} {F : Tokened} {a b : Tokens} (vs : Variables) → IsTaken (token.punctuator At) a b → Leaves limit F (ADirective vs) (InTurn AName (Perhaps (InParens vs))) a b
at_taken vs t = leaves_from (directive_parts vs) (leaves_token (token.punctuator At) t refl)

directive_named : {limit : Option ℕ} {F : Tokened} {a c : Tokens} (vs : Variables) (b : Tokens) (n : List ℕ) → IsTaken (token.punctuator At) a b → IsTaken (token.name n) b c → Leaves limit F (ADirective vs) (Perhaps (InParens vs)) a c
directive_named vs b n t u = leaves_then (at_taken {b = b} vs t) (leaves_token (token.name n) u (n, refl))

pub directive_read : {limit : Option ℕ} {a c d : Tokens} (vs : Variables) (b : Tokens) (n : List ℕ) → IsTaken (token.punctuator At) a b → IsTaken (token.name n) b c → Leaves limit NoParen (Perhaps (InParens vs)) Nothing c d → Leaves limit NoParen (ADirective vs) Nothing a d
directive_read vs b n t u h = leaves_then (directive_named vs b n t u) h

pub directive_missing : {limit : Option ℕ} {F : Tokened} {a b : Tokens} {e : ReadError} (vs : Variables) → IsLeft (token.punctuator At) a b → IsPlaced (ahead_of b) e → IsFault limit F (ADirective vs) a b e
directive_missing vs t placed =
    fault_stuck (stuck_begin t.1 (begin_directive vs) t.0 (example_alike (directive_parts vs) (example_turn (example_sign At) (example_turn example_name example_absent)))) placed

pub directive_nameless : {limit : Option ℕ} {F : Tokened} {a c : Tokens} {e : ReadError} (vs : Variables) (b : Tokens) → IsTaken (token.punctuator At) a b → ((s : List ℕ) → IsLeft (token.name s) b c) → IsPlaced (ahead_of c) e → IsFault limit F (ADirective vs) a c e
directive_nameless vs b t none placed =
    fault_behind (at_taken {b = b} vs t) (fault_stuck (stuck_begin {K = IsNamed} (none []).1 (begin_turn begin_single) (λ (s, f). (none s).0 f) (example_turn example_name example_absent)) placed)

pub directive_fault : {limit : Option ℕ} {a c d : Tokens} {e : ReadError} (vs : Variables) (b : Tokens) (n : List ℕ) → IsTaken (token.punctuator At) a b → IsTaken (token.name n) b c → IsFault limit NoParen (Perhaps (InParens vs)) c d e → IsFault limit NoParen (ADirective vs) a d e
directive_fault vs b n t u h = fault_behind (directive_named vs b n t u) h

-- no `(` follows where directives stand
at_differs : (u : token.Token) → IsSign At u → Differs (ParenOpen ∷ []) u
at_differs u e = (λ f. signs_differ At ParenOpen u (λ g. cc) e f, tt)

marks_before : {limit : Option ℕ} (vs : Variables) → Before limit (Marks vs) NoMarks NoParen
marks_before vs = before_several (ParenOpen ∷ []) (begin_directive vs) at_differs (λ r f. f.1)

pub marks_ended : {limit : Option ℕ} {F : Tokened} {a : Tokens} (vs : Variables) → ((ahead_of a).token ≡ token.punctuator At → ⊥) → Leaves limit F (Marks vs) Nothing a a
marks_ended vs n = leaves_ended refl (begin_directive vs) n

marks_next : {limit : Option ℕ} {a : Tokens} (vs : Variables) → (ahead_of a).token ≡ token.punctuator At → Leaves limit NoMarks (Marks vs) (InTurn (ADirective vs) (Marks vs)) a a
marks_next vs e = leaves_more refl (λ r f g. f.0 (g ∙ e))

pub marks_more : {limit : Option ℕ} {a b : Tokens} (vs : Variables) → (ahead_of a).token ≡ token.punctuator At → Leaves limit NoParen (ADirective vs) Nothing a b → Leaves limit NoMarks (Marks vs) (Marks vs) a b
marks_more vs e h = leaves_then (marks_next vs e) (leaves_one h (marks_before vs))

pub marks_fault : {limit : Option ℕ} {a b : Tokens} {e : ReadError} (vs : Variables) → (ahead_of a).token ≡ token.punctuator At → IsFault limit NoParen (ADirective vs) a b e → IsFault limit NoMarks (Marks vs) a b e
marks_fault vs next h = fault_behind (marks_next vs next) (fault_front h (marks_before vs) example_several)

pub marks_same : {limit : Option ℕ} {F : Tokened} {a : Tokens} (vs : Variables) → Leaves limit F (Marks vs) (Marks vs) a a
marks_same vs = leaves_alike alike_refl

-- ---- what has some token
pub some_argument : (rules : Rules) (x : Argument) → HasSome (SpellsArgument rules x)
some_argument rules x ts (p, q, more, e, h) n = cc

pub some_directive : (rules : Rules) (x : Directive) → HasSome (SpellsDirective rules x)
some_directive rules x ts (p, more, e, h) n = cc
