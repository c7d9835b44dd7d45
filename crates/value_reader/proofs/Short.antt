-- A value of one token, and a variable, in the words of the machine.
use Rattle.std.proofs.Common.{◌≡◌, ◌≢◌, ℕ, true, false, List, [], ◌∷◌, Option, Some, None, refl, sym, ap, subst, ◌∙◌}
use Rattle.language_types.specs.declared.position.SourcePosition.{SourcePosition}
use Rattle.language_types.specs.declared.position.Span.{Span}
use Rattle.graphql_lexer.specs.Ahead.{ahead_of, behind, left, IsFaultAt}
use Rattle.graphql_lexer.specs.Lexemes.{Lexeme, is_last}
use Rattle.graphql_lexer.specs.Lexical as token
use Rattle.graphql_lexer.specs.declared.error.ReadError.{ReadError}
use Rattle.graphql_lexer.specs.declared.error.ReadError.TheVariants.{Syntax, OutOfMemory}
use Rattle.graphql_lexer.specs.declared.lexer.Punctuator.TheVariants.{Dollar}
use Rattle.graphql_lexer.specs.declared.tokens.Tokens.{Tokens}
use Rattle.value_reader.specs.Faults.{IsPlaceOf, IsFirstFault, IsNone, IsPlaced}
use Rattle.value_reader.specs.Grammar.{Rules, Begins}
use Rattle.value_reader.specs.Machine.{Frame, at_name, Turn, going, done, refused, span_of, push, plain_of, attach_plain, value_turn, name_turn, step, step_by, takes_value, is_punctuator}
use Rattle.value_reader.specs.Seen.{IsNameless, IsPlainOf, IsPlainRefusal, IsRefusal, IsVariable}
use Rattle.value_reader.specs.Values.{Plain, Value}
use Rattle.value_reader.proofs.Reached.{Reached, reached_none, reached_going, reached_done, other_place}
use Rattle.value_reader.proofs.ReadLoop.{read_none, read_fault, read_placed}
use Rattle.value_reader.proofs.Turns.{not_last}

done_goes : (turn : Turn) (v : Value) → turn ≡ done v → turn ≡ refused → ⊥
done_goes turn v h e = cc

going_goes : (turn : Turn) (fs : List Frame) → turn ≡ going fs → turn ≡ refused → ⊥
going_goes turn fs h e = cc

-- ---- a value of one token
one_turn : (rules : Rules) (t : token.Token) (a b : SourcePosition) → is_punctuator t ≡ false → step_by rules [] t a b ≡ attach_plain (plain_of t) (span_of a b) []
one_turn rules (token.punctuator p) a b h = cc
one_turn rules (token.name s) a b h = refl
one_turn rules (token.int s) a b h = refl
one_turn rules (token.float s) a b h = refl
one_turn rules (token.string s) a b h = refl
one_turn rules (token.block_string s) a b h = refl
one_turn rules token.end a b h = refl
one_turn rules token.fault a b h = refl

plain_done : (o : Option Plain) (span : Span) (v : Value) → IsPlainOf o span v → attach_plain o span [] ≡ done v
plain_done (Some p) span v h = ap done (sym h)
plain_done None span v h = absurd h

one_done : (rules : Rules) (x : Lexeme) (v : Value) → is_punctuator x.token ≡ false → IsPlainOf (plain_of x.token) (span_of x.start x.stop) v → step rules [] x ≡ done v
one_done rules x v h p = one_turn rules x.token x.start x.stop h ∙ plain_done (plain_of x.token) (span_of x.start x.stop) v p

pub one_goes_on : (rules : Rules) (x : Lexeme) (v : Value) → is_punctuator x.token ≡ false → IsPlainOf (plain_of x.token) (span_of x.start x.stop) v → is_last x.token ≡ false
one_goes_on rules x v h p = not_last rules [] x (done_goes (step rules [] x) v (one_done rules x v h p))

pub one_begins : (rules : Rules) (old new : Tokens) (v : Value) → is_punctuator (ahead_of old).token ≡ false → IsPlainOf (plain_of (ahead_of old).token) (span_of (ahead_of old).start (ahead_of old).stop) v → left new ≡ behind old → Begins rules (left old) v (left new)
one_begins rules old new v h p k =
    subst (Begins rules (left old) v) (sym k) (reached_done rules (left old) [] (ahead_of old) (behind old) v (reached_none rules (left old)) (one_done rules (ahead_of old) v h p))

one_refused : (rules : Rules) (x : Lexeme) (e : ReadError) → is_punctuator x.token ≡ false → IsPlainRefusal x e → IsRefusal [] x (step rules [] x) e
one_refused rules x OutOfMemory h r = tt
one_refused rules x (Syntax e) h (none, place) = (
  one_turn rules x.token x.start x.stop h ∙ ap (λ o. attach_plain o (span_of x.start x.stop) []) none,
  other_place (Unit {0}) (takes_value [] ≡ true) x.token x.start e.position (λ u. refl) (λ q. tt) place,
)

pub one_none : (rules : Rules) (old : Tokens) (e : ReadError) → is_punctuator (ahead_of old).token ≡ false → IsPlainRefusal (ahead_of old) e → IsNone rules (left old) e
one_none rules old e h r = read_none rules (left old) [] old e (reached_none rules (left old)) (one_refused rules (ahead_of old) e h r)

pub one_fault : (rules : Rules) (old : Tokens) (e : ReadError) → is_punctuator (ahead_of old).token ≡ false → IsPlainRefusal (ahead_of old) e → IsFirstFault rules (left old) (left old) e
one_fault rules old e h r = read_fault rules (left old) [] old old e (reached_none rules (left old)) (one_refused rules (ahead_of old) e h r) refl

pub one_placed : (rules : Rules) (old : Tokens) (e : ReadError) → is_punctuator (ahead_of old).token ≡ false → IsPlainRefusal (ahead_of old) e → IsPlaced (ahead_of old) e
one_placed rules old e h r = read_placed [] old old (step rules [] (ahead_of old)) e (one_refused rules (ahead_of old) e h r) refl

-- ---- a variable
dollar_going : (rules : Rules) (x : Lexeme) → x.token ≡ token.punctuator Dollar → rules.variables ≡ true → step rules [] x ≡ going (at_name x.start ∷ [])
dollar_going rules x h k = ap (λ t. value_turn rules [] t x.start x.stop) h ∙ ap (λ b. push b (at_name x.start) []) k

dollar_refused : (rules : Rules) (x : Lexeme) (e : ReadError) → x.token ≡ token.punctuator Dollar → rules.variables ≡ false → IsFaultAt x.start e → IsRefusal [] x (step rules [] x) e
dollar_refused rules x OutOfMemory h k f = absurd f
dollar_refused rules x (Syntax e) h k f = (
  ap (λ t. value_turn rules [] t x.start x.stop) h ∙ ap (λ b. push b (at_name x.start) []) k,
  subst (λ t. IsPlaceOf (takes_value [] ≡ true) t x.start e.position) (sym h) f,
)

pub dollar_none : (rules : Rules) (old : Tokens) (e : ReadError) → (ahead_of old).token ≡ token.punctuator Dollar → rules.variables ≡ false → IsFaultAt (ahead_of old).start e → IsNone rules (left old) e
dollar_none rules old e h k f = read_none rules (left old) [] old e (reached_none rules (left old)) (dollar_refused rules (ahead_of old) e h k f)

pub dollar_fault : (rules : Rules) (old : Tokens) (e : ReadError) → (ahead_of old).token ≡ token.punctuator Dollar → rules.variables ≡ false → IsFaultAt (ahead_of old).start e → IsFirstFault rules (left old) (left old) e
dollar_fault rules old e h k f = read_fault rules (left old) [] old old e (reached_none rules (left old)) (dollar_refused rules (ahead_of old) e h k f) refl

pub dollar_placed : (rules : Rules) (old : Tokens) (e : ReadError) → (ahead_of old).token ≡ token.punctuator Dollar → rules.variables ≡ false → IsFaultAt (ahead_of old).start e → IsPlaced (ahead_of old) e
dollar_placed rules old e h k f = read_placed [] old old (step rules [] (ahead_of old)) e (dollar_refused rules (ahead_of old) e h k f) refl

pub dollar_goes_on : (x : Lexeme) → x.token ≡ token.punctuator Dollar → is_last x.token ≡ false
dollar_goes_on x h = ap is_last h

dollar_reached : (rules : Rules) (old mid : Tokens) → (ahead_of old).token ≡ token.punctuator Dollar → rules.variables ≡ true → left mid ≡ behind old → Reached rules (left old) (at_name (ahead_of old).start ∷ []) (left mid)
dollar_reached rules old mid h k m =
    let fs = at_name (ahead_of old).start ∷ [] in
    subst (Reached rules (left old) fs) (sym m) (reached_going rules (left old) [] fs (ahead_of old) (behind old) (reached_none rules (left old)) (dollar_going rules (ahead_of old) h k))

named_done : (rules : Rules) (from : SourcePosition) (y : Lexeme) (v : Value) → IsVariable from y v → step rules (at_name from ∷ []) y ≡ done v
named_done rules from y v (n, h, k) = ap (λ t. name_turn from [] t y.stop) h ∙ ap done (sym k)

pub named_goes_on : (from : SourcePosition) (y : Lexeme) (v : Value) → IsVariable from y v → is_last y.token ≡ false
named_goes_on from y v (n, h, k) = ap is_last h

pub named_begins : (rules : Rules) (old mid new : Tokens) (v : Value) → (ahead_of old).token ≡ token.punctuator Dollar → rules.variables ≡ true → left mid ≡ behind old → IsVariable (ahead_of old).start (ahead_of mid) v → left new ≡ behind mid → Begins rules (left old) v (left new)
named_begins rules old mid new v h k m p n =
    let fs = at_name (ahead_of old).start ∷ [] in
    subst (Begins rules (left old) v) (sym n) (reached_done rules (left old) fs (ahead_of mid) (behind mid) v (dollar_reached rules old mid h k m) (named_done rules (ahead_of old).start (ahead_of mid) v p))

nameless_turn : (from : SourcePosition) (fs : List Frame) (t : token.Token) (b : SourcePosition) → ((n : List ℕ) → t ≡ token.name n → ⊥) → name_turn from fs t b ≡ refused
nameless_turn from fs (token.name n) b h = absurd (h n refl)
nameless_turn from fs (token.punctuator p) b h = refl
nameless_turn from fs (token.int s) b h = refl
nameless_turn from fs (token.float s) b h = refl
nameless_turn from fs (token.string s) b h = refl
nameless_turn from fs (token.block_string s) b h = refl
nameless_turn from fs token.end b h = refl
nameless_turn from fs token.fault b h = refl

nameless_place : (t : token.Token) (a place : SourcePosition) → (t ≢ token.fault → place ≡ a) → IsPlaceOf (false ≡ true) t a place
nameless_place (token.punctuator p) a place h = h (λ e. cc)
nameless_place (token.name s) a place h = h (λ e. cc)
nameless_place (token.int s) a place h = h (λ e. cc)
nameless_place (token.float s) a place h = h (λ e. cc)
nameless_place (token.string s) a place h = (λ e. cc, λ n. h (λ e. cc))
nameless_place (token.block_string s) a place h = h (λ e. cc)
nameless_place token.end a place h = h (λ e. cc)
nameless_place token.fault a place h = tt

nameless_refused : (rules : Rules) (from : SourcePosition) (y : Lexeme) (e : ReadError) → IsNameless y e → IsRefusal (at_name from ∷ []) y (step rules (at_name from ∷ []) y) e
nameless_refused rules from y OutOfMemory h = tt
nameless_refused rules from y (Syntax e) (h, place) = (nameless_turn from [] y.token y.stop h, nameless_place y.token y.start e.position place)

pub nameless_none : (rules : Rules) (old mid : Tokens) (e : ReadError) → (ahead_of old).token ≡ token.punctuator Dollar → rules.variables ≡ true → left mid ≡ behind old → IsNameless (ahead_of mid) e → IsNone rules (left old) e
nameless_none rules old mid e h k m r =
    let from = (ahead_of old).start in
    read_none rules (left old) (at_name from ∷ []) mid e (dollar_reached rules old mid h k m) (nameless_refused rules from (ahead_of mid) e r)

pub nameless_fault : (rules : Rules) (old mid : Tokens) (e : ReadError) → (ahead_of old).token ≡ token.punctuator Dollar → rules.variables ≡ true → left mid ≡ behind old → IsNameless (ahead_of mid) e → IsFirstFault rules (left old) (left mid) e
nameless_fault rules old mid e h k m r =
    let from = (ahead_of old).start in
    read_fault rules (left old) (at_name from ∷ []) mid mid e (dollar_reached rules old mid h k m) (nameless_refused rules from (ahead_of mid) e r) refl

pub nameless_placed : (rules : Rules) (mid : Tokens) (e : ReadError) → IsNameless (ahead_of mid) e → IsPlaced (ahead_of mid) e
nameless_placed rules mid e r =
    let from = (ahead_of mid).start in
    read_placed (at_name from ∷ []) mid mid (step rules (at_name from ∷ []) (ahead_of mid)) e (nameless_refused rules from (ahead_of mid) e r) refl

pub dollar_no_fault : (x : Lexeme) → x.token ≡ token.punctuator Dollar → x.token ≢ token.fault
dollar_no_fault x h e = cc
