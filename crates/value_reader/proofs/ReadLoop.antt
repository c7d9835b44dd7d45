-- One turn of the loop that reads a value.
use Rattle.std.proofs.Common.{◌≡◌, ◌<◌, inl, inr, Bool, true, false, refl, List, [], ◌∷◌, Option, Some, None, Vec, length, map, reverse, sym, ap, subst, arith}
use Rattle.std.specs.declared.alloc.Global.{Global}
use Rattle.language_types.specs.declared.position.SourcePosition.{SourcePosition}
use Rattle.language_types.specs.declared.position.Span.{Span}
use Rattle.language_types.specs.declared.position.Spanning.{Spanning}
use Rattle.language_values.specs.declared.value.InputValue.{InputValue}
use Rattle.sdl_scalars.specs.declared.scalar.SourceScalar.{SourceScalar}
use Rattle.graphql_lexer.specs.Ahead.{ahead_of, behind, left}
use Rattle.graphql_lexer.specs.Lexemes.{Lexeme}
use Rattle.graphql_lexer.specs.Lexical as token
use Rattle.graphql_lexer.specs.declared.error.ReadError.{ReadError}
use Rattle.graphql_lexer.specs.declared.error.ReadError.TheVariants.{Syntax, OutOfMemory}
use Rattle.graphql_lexer.specs.declared.tokens.Tokens.{Tokens}
use Rattle.value_reader.specs.Faults.{IsFirstFault, IsNone, IsPlaceOf, IsTokenPlace, IsPlaced}
use Rattle.value_reader.specs.Grammar.{Rules, Begins}
use Rattle.value_reader.specs.Machine.{Frame, Turn, going, done, refused, step, takes_value}
use Rattle.value_reader.specs.Seen.{begun_seen, stack_seen, value_seen, IsTurn, IsRefusal}
use Rattle.value_reader.specs.Values.{Value}
use Rattle.value_reader.specs.declared.begun.Begun.{Begun}
use Rattle.value_reader.proofs.Complete.{begins_once}
use Rattle.value_reader.proofs.Reached.{Reached, reached_none, reached_going, reached_done, reached_refused, reached_fault}

head_same : (x y : Lexeme) (xs ys : List Lexeme) → x ∷ xs ≡ y ∷ ys → x ≡ y
head_same x y xs ys e = cc

abbrev Parts : Type 0
Parts = Vec Begun Global

abbrev Read : Type 0
Read = Option (Spanning (InputValue SourceScalar) Span)

pub turn_goes : (parts : Parts) (o : Read) (turn : Turn) → IsTurn parts o turn → turn ≡ refused → ⊥
turn_goes parts None turn h e = cc
turn_goes parts (Some v) turn h e = cc

pub read_begins : (rules : Rules) (ts : List Lexeme) (parts : Parts) → parts.items ≡ [] → Reached rules ts (stack_seen parts) ts
read_begins rules ts parts e = subst (λ items. Reached rules ts (reverse (map begun_seen items)) ts) (sym e) (reached_none rules ts)

pub read_going : (rules : Rules) (ts : List Lexeme) (fs : List Frame) (old new : Tokens) (parts : Parts) (o : Read) → Reached rules ts fs (left old) → IsTurn parts o (step rules fs (ahead_of old)) → o ≡ None → left new ≡ behind old → Reached rules ts (stack_seen parts) (left new)
read_going rules ts fs old new parts o h t n k =
    let e : step rules fs (ahead_of old) ≡ going (stack_seen parts) = subst (λ p. IsTurn parts p (step rules fs (ahead_of old))) n t in
    subst (Reached rules ts (stack_seen parts)) (sym k) (reached_going rules ts fs (stack_seen parts) (ahead_of old) (behind old) h e)

pub read_done : (rules : Rules) (ts : List Lexeme) (fs : List Frame) (old new : Tokens) (parts : Parts) (o : Read) (v : Spanning (InputValue SourceScalar) Span) → Reached rules ts fs (left old) → IsTurn parts o (step rules fs (ahead_of old)) → o ≡ Some v → left new ≡ behind old → Begins rules ts (value_seen v) (left new)
read_done rules ts fs old new parts o v h t n k =
    let e : step rules fs (ahead_of old) ≡ done (value_seen v) = subst (λ p. IsTurn parts p (step rules fs (ahead_of old))) n t in
    subst (Begins rules ts (value_seen v)) (sym k) (reached_done rules ts fs (ahead_of old) (behind old) (value_seen v) h e)

pub read_once : (rules : Rules) (ts : List Lexeme) (new : Tokens) (v w : Value) (rest : List Lexeme) → Begins rules ts v (left new) → Begins rules ts w rest → (w ≡ v) × (rest ≡ left new)
read_once rules ts new v w rest h b = begins_once rules ts v w (left new) rest h b

pub read_none : (rules : Rules) (ts : List Lexeme) (fs : List Frame) (old : Tokens) (e : ReadError) → Reached rules ts fs (left old) → IsRefusal fs (ahead_of old) (step rules fs (ahead_of old)) e → IsNone rules ts e
read_none rules ts fs old OutOfMemory h r = tt
read_none rules ts fs old (Syntax e) h r = reached_refused rules ts fs (ahead_of old) (behind old) h r.0

pub read_fault : (rules : Rules) (ts : List Lexeme) (fs : List Frame) (old new : Tokens) (e : ReadError) → Reached rules ts fs (left old) → IsRefusal fs (ahead_of old) (step rules fs (ahead_of old)) e → left new ≡ left old → IsFirstFault rules ts (left new) e
read_fault rules ts fs old new OutOfMemory h r k = tt
read_fault rules ts fs old new (Syntax e) h r k =
    let f = reached_fault rules ts fs (ahead_of old) (behind old) e.position h r.0 r.1 in
    (f.0, ahead_of old, behind old, k, f.1, f.2)

told : (fits : Bool) (t : token.Token) (start place : SourcePosition) → IsPlaceOf (fits ≡ true) t start place → IsTokenPlace t start place
told fits (token.punctuator p) start place h = h
told fits (token.name s) start place h = h
told fits (token.int s) start place h = h
told fits (token.float s) start place h = h
told true (token.string raw) start place (inside, at) = inr (inside refl)
told false (token.string raw) start place (inside, at) = inl (at (λ e. cc))
told fits (token.block_string raw) start place h = h
told fits token.end start place h = h
told fits token.fault start place h = tt

pub read_placed : (fs : List Frame) (old new : Tokens) (turn : Turn) (e : ReadError) → IsRefusal fs (ahead_of old) turn e → left new ≡ left old → IsPlaced (ahead_of new) e
read_placed fs old new turn OutOfMemory r k = tt
read_placed fs old new turn (Syntax e) r k =
    let same : ahead_of new ≡ ahead_of old = head_same _ _ _ _ k in
    subst (λ x. IsPlaced x (Syntax e)) (sym same) (told (takes_value fs) (ahead_of old).token (ahead_of old).start e.position r.1)

pub read_less : (old new : Tokens) → left new ≡ behind old → length (left new) < length (left old)
read_less old new k = omega (arith, ap length k)
