-- What holds while a value is read: the tokens so far lead to what is begun, and spell it.
use Rattle.std.proofs.Common.{◌≡◌, suc, true, false, List, [], ◌∷◌, ◌++◌, Ok, Err, append_assoc, append-nil, refl, sym, ap, subst, ◌∙◌}
use Rattle.language_types.specs.declared.position.SourcePosition.{SourcePosition}
use Rattle.graphql_strings.specs.StringValues.{nothing}
use Rattle.graphql_lexer.specs.Lexemes.{Lexeme}
use Rattle.graphql_lexer.specs.Lexical as token
use Rattle.graphql_lexer.specs.declared.lexer.Punctuator.TheVariants.{Dollar, Colon, BracketOpen, BracketClose, BraceOpen, BraceClose}
use Rattle.value_reader.specs.Grammar.{Rules, lexeme, sign, null_name, Spells, Begins, GoesOn}
use Rattle.value_reader.specs.Faults.{IsPlaceOf, IsFaultAt}
use Rattle.value_reader.specs.Values.{string, null, variable, Value, plain, list, object}
use Rattle.value_reader.specs.Machine.{Frame, in_list, at_key, at_colon, at_value, at_name, going, done, refused, items_of, fields_of, span_of, depth_of, step, takes_value}
use Rattle.value_reader.proofs.Runs.{Read, run, run_going, run_refused}
use Rattle.value_reader.proofs.Complete.{entry, begins_read}
use Rattle.value_reader.proofs.Stacks.{SpellsEntries, SpellsStack, SpellsTurn, items_more, fields_more, regroup, step_spells}

goes_less : (rules : Rules) (before more : List Lexeme) → GoesOn rules (before ++ more) → GoesOn rules before
goes_less rules before more (v, rest, h) = (v, more ++ rest, subst (Spells rules 0 v) (append_assoc before more rest) h)

-- a value put into what is begun, and all of this closed
finish : (rules : Rules) (p : SourcePosition) (fs : List Frame) (before one : List Lexeme) (w : Value) → takes_value fs ≡ true → SpellsStack rules fs before → Spells rules (depth_of fs) w one → GoesOn rules (before ++ one)
finish rules p [] before one w t e h = (w, [], subst (Spells rules 0 w) (sym (append-nil (before ++ one) ∙ ap (λ ts. ts ++ one) e)) h)
finish rules p (in_list from vs ∷ fs) before one w t (outer, inner, a, e, n, hs, k, u) h =
    let x = sign BracketOpen from a in
    let y = sign BracketClose p p in
    let up : GoesOn rules (outer ++ x ∷ ((inner ++ one) ++ y ∷ [])) =
    finish rules p fs outer (x ∷ ((inner ++ one) ++ y ∷ [])) (list (items_of (vs ++ w ∷ [])) (span_of from p)) u k
    (n, inner ++ one, a, p, refl, items_more rules (suc (depth_of fs)) vs w inner one hs h) in
    let path : (before ++ one) ++ y ∷ [] ≡ outer ++ x ∷ ((inner ++ one) ++ y ∷ []) =
    ap (λ ts. (ts ++ one) ++ y ∷ []) e ∙ ap (λ ts. ts ++ y ∷ []) (regroup outer inner one x) ∙ regroup outer (inner ++ one) (y ∷ []) x in
    goes_less rules (before ++ one) (y ∷ []) (subst (GoesOn rules) (sym path) up)
finish rules p (at_key from es ∷ fs) before one w t k h = let no : false ≡ true = t in cc
finish rules p (at_colon from es j ∷ fs) before one w t k h = let no : false ≡ true = t in cc
finish rules p (at_value from es j ∷ fs) before one w t (outer, inner, a, e, n, (front, c, d, e2, hm), k, u) h =
    let x = sign BraceOpen from a in
    let y = sign BraceClose p p in
    let more : SpellsEntries rules fs (es ++ entry j w ∷ []) (inner ++ one) =
    subst (SpellsEntries rules fs (es ++ entry j w ∷ [])) (sym (ap (λ ts. ts ++ one) e2)) (fields_more rules (suc (depth_of fs)) es j w front one c d hm h) in
    let up : GoesOn rules (outer ++ x ∷ ((inner ++ one) ++ y ∷ [])) =
    finish rules p fs outer (x ∷ ((inner ++ one) ++ y ∷ [])) (object (fields_of (es ++ entry j w ∷ [])) (span_of from p)) u k (n, inner ++ one, a, p, refl, more) in
    let path : (before ++ one) ++ y ∷ [] ≡ outer ++ x ∷ ((inner ++ one) ++ y ∷ []) =
    ap (λ ts. (ts ++ one) ++ y ∷ []) e ∙ ap (λ ts. ts ++ y ∷ []) (regroup outer inner one x) ∙ regroup outer (inner ++ one) (y ∷ []) x in
    goes_less rules (before ++ one) (y ∷ []) (subst (GoesOn rules) (sym path) up)
finish rules p (at_name from ∷ fs) before one w t k h = let no : false ≡ true = t in cc

abbrev somewhere : SourcePosition
somewhere = record { index = 0; line = 0; column = 0 }

with_null : (rules : Rules) (fs : List Frame) (before : List Lexeme) → takes_value fs ≡ true → SpellsStack rules fs before → GoesOn rules before
with_null rules fs before t k =
    let x = lexeme (token.name null_name) somewhere somewhere in
    goes_less rules before (x ∷ []) (finish rules somewhere fs before (x ∷ []) (plain null (span_of somewhere somewhere)) t k refl)

-- what is begun can be ended
pub viable : (rules : Rules) (fs : List Frame) (before : List Lexeme) → SpellsStack rules fs before → GoesOn rules before
viable rules [] before k = with_null rules [] before refl k
viable rules (in_list from vs ∷ fs) before k = with_null rules (in_list from vs ∷ fs) before refl k
viable rules (at_key from es ∷ fs) before (outer, inner, a, e, n, hs, k, u) =
    let x = sign BraceOpen from a in
    let y = sign BraceClose somewhere somewhere in
    let up : GoesOn rules (outer ++ x ∷ (inner ++ y ∷ [])) =
    finish rules somewhere fs outer (x ∷ (inner ++ y ∷ [])) (object (fields_of es) (span_of from somewhere)) u k (n, inner, a, somewhere, refl, hs) in
    goes_less rules before (y ∷ []) (subst (GoesOn rules) (sym (ap (λ ts. ts ++ y ∷ []) e ∙ regroup outer inner (y ∷ []) x)) up)
viable rules (at_colon from es j ∷ fs) before k =
    let x = sign Colon somewhere somewhere in
    goes_less rules before (x ∷ [])
    (with_null rules (at_value from es j ∷ fs) (before ++ x ∷ []) refl (step_spells rules (at_colon from es j ∷ fs) (token.punctuator Colon) somewhere somewhere before k))
viable rules (at_value from es j ∷ fs) before k = with_null rules (at_value from es j ∷ fs) before refl k
viable rules (at_name from ∷ fs) before (outer, a, e, allowed, k, u) =
    let x = sign Dollar from a in
    let y = lexeme (token.name []) somewhere somewhere in
    let up : GoesOn rules (outer ++ x ∷ y ∷ []) =
    finish rules somewhere fs outer (x ∷ y ∷ []) (plain (variable []) (span_of from somewhere)) u k (allowed, a, somewhere, refl) in
    goes_less rules before (y ∷ []) (subst (GoesOn rules) (sym (ap (λ ts. ts ++ y ∷ []) e ∙ append_assoc outer (x ∷ []) (y ∷ []))) up)

-- ---- while a value is read
pub record Reached (rules : Rules) (ts : List Lexeme) (fs : List Frame) (rest : List Lexeme) : Type 0 where
  pub before : List Lexeme
  pub passed : ts ≡ before ++ rest
  pub spelled : SpellsStack rules fs before
  pub runs : (more : List Lexeme) → run rules [] (before ++ more) ≡ run rules fs more

pub reached_none : (rules : Rules) (ts : List Lexeme) → Reached rules ts [] ts
reached_none rules ts = record { before = []; passed = refl; spelled = refl; runs = λ more. refl }

pub reached_going : (rules : Rules) (ts : List Lexeme) (fs gs : List Frame) (x : Lexeme) (rest : List Lexeme) → Reached rules ts fs (x ∷ rest) → step rules fs x ≡ going gs → Reached rules ts gs rest
reached_going rules ts fs gs x rest h e = record {
  before = h.before ++ x ∷ [];
  passed = h.passed ∙ sym (append_assoc h.before (x ∷ []) rest);
  spelled = subst (λ t. SpellsTurn rules t (h.before ++ x ∷ [])) e (step_spells rules fs x.token x.start x.stop h.before h.spelled);
  runs = λ more. ap (run rules []) (append_assoc h.before (x ∷ []) more) ∙ h.runs (x ∷ more) ∙ run_going rules fs gs x more e;
}

pub reached_done : (rules : Rules) (ts : List Lexeme) (fs : List Frame) (x : Lexeme) (rest : List Lexeme) (v : Value) → Reached rules ts fs (x ∷ rest) → step rules fs x ≡ done v → Begins rules ts v rest
reached_done rules ts fs x rest v h e = (
  h.before ++ x ∷ [],
  h.passed ∙ sym (append_assoc h.before (x ∷ []) rest),
  subst (λ t. SpellsTurn rules t (h.before ++ x ∷ [])) e (step_spells rules fs x.token x.start x.stop h.before h.spelled),
)

-- no value is there where the machine refuses a token
refused_none : (rules : Rules) (ts left : List Lexeme) (v : Value) (rest : List Lexeme) → run rules [] ts ≡ Err left → Begins rules ts v rest → ⊥
refused_none rules ts left v rest e h =
    let read : Read = Ok (v, rest) in
    let refusal : Read = Err left in
    let met : read ≡ refusal = sym (begins_read rules ts v rest h) ∙ e in
    cc

pub reached_refused : (rules : Rules) (ts : List Lexeme) (fs : List Frame) (x : Lexeme) (rest : List Lexeme) → Reached rules ts fs (x ∷ rest) → step rules fs x ≡ refused → (v : Value) (other : List Lexeme) → Begins rules ts v other → ⊥
reached_refused rules ts fs x rest h e v other b = refused_none rules ts (x ∷ rest) v other (ap (run rules []) h.passed ∙ h.runs (x ∷ rest) ∙ run_refused rules fs x rest e) b

stops : (rules : Rules) (ts : List Lexeme) (fs : List Frame) (rest : List Lexeme) (h : Reached rules ts fs rest) (x : Lexeme) → step rules fs x ≡ refused → GoesOn rules (h.before ++ x ∷ []) → ⊥
stops rules ts fs rest h x e (v, more, k) =
    let all : (h.before ++ x ∷ []) ++ more ≡ h.before ++ x ∷ more = append_assoc h.before (x ∷ []) more in
    let tokens = h.before ++ x ∷ more in
    refused_none rules tokens (x ∷ more) v [] (h.runs (x ∷ more) ∙ run_refused rules fs x more e) (tokens, sym (append-nil tokens), subst (Spells rules 0 v) all k)

-- ---- the place that is told
pub other_place : (P Q : Type 0) (t : token.Token) (start place : SourcePosition) → (P → Q) → (Q → P) → IsPlaceOf P t start place → IsPlaceOf Q t start place
other_place P Q (token.string raw) start place f g h = (λ q. h.0 (g q), λ n. h.1 (λ p. n (f p)))
other_place P Q _ start place f g h = h

string_fits : (rules : Rules) (fs : List Frame) (before : List Lexeme) (a b : SourcePosition) → takes_value fs ≡ true → SpellsStack rules fs before → GoesOn rules (before ++ lexeme (token.string []) a b ∷ [])
string_fits rules fs before a b t k = finish rules somewhere fs before (lexeme (token.string []) a b ∷ []) (plain (string []) (span_of a b)) t k (token.string [], nothing, refl)

string_taken : (rules : Rules) (ts : List Lexeme) (fs : List Frame) (rest : List Lexeme) (h : Reached rules ts fs rest) (a b : SourcePosition) → GoesOn rules (h.before ++ lexeme (token.string []) a b ∷ []) → takes_value fs ≡ true
string_taken rules ts [] rest h a b g = refl
string_taken rules ts (in_list from vs ∷ fs) rest h a b g = refl
string_taken rules ts (at_key from es ∷ fs) rest h a b g = absurd (stops rules ts (at_key from es ∷ fs) rest h (lexeme (token.string []) a b) refl g)
string_taken rules ts (at_colon from es k ∷ fs) rest h a b g = absurd (stops rules ts (at_colon from es k ∷ fs) rest h (lexeme (token.string []) a b) refl g)
string_taken rules ts (at_value from es k ∷ fs) rest h a b g = refl
string_taken rules ts (at_name from ∷ fs) rest h a b g = absurd (stops rules ts (at_name from ∷ fs) rest h (lexeme (token.string []) a b) refl g)

pub reached_fault : (rules : Rules) (ts : List Lexeme) (fs : List Frame) (x : Lexeme) (rest : List Lexeme) (place : SourcePosition) → Reached rules ts fs (x ∷ rest) → step rules fs x ≡ refused → IsPlaceOf (takes_value fs ≡ true) x.token x.start place → (before : List Lexeme) × (ts ≡ before ++ x ∷ rest) × IsFaultAt rules before x place
reached_fault rules ts fs x rest place h e p = (
  h.before,
  h.passed,
  (
    viable rules fs h.before h.spelled,
    stops rules ts fs (x ∷ rest) h x e,
    other_place (takes_value fs ≡ true) (GoesOn rules (h.before ++ lexeme (token.string []) x.start x.stop ∷ [])) x.token x.start place
        (λ t. string_fits rules fs h.before x.start x.stop t h.spelled)
        (λ g. string_taken rules ts fs (x ∷ rest) h x.start x.stop g)
        p,
  ),
)
