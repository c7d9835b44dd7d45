-- Reading on from the parts that are begun, over all tokens.
use Rattle.std.proofs.Common.{◌≡◌, ℕ, Bool, true, false, if◌then◌else◌, List, [], ◌∷◌, Some, option_map, Result, Ok, Err, bytes_eq, refl, sym, ap, ◌∙◌}
use Rattle.std.proofs.lemmas.Slice.Eq.{bytes_eq-Decides}
use Rattle.language_types.specs.declared.position.SourcePosition.{SourcePosition}
use Rattle.graphql_lexer.specs.Lexemes.{Lexeme}
use Rattle.graphql_lexer.specs.Lexical as token
use Rattle.graphql_lexer.specs.declared.lexer.Punctuator.TheVariants.{BracketClose}
use Rattle.value_reader.specs.Grammar.{Rules, lexeme, boolean_name, null_name, IsEnumName, IsTextOf}
use Rattle.value_reader.specs.Values.{Plain, string, boolean, null, enum, Value, plain}
use Rattle.value_reader.specs.Machine.{Frame, in_list, at_key, at_colon, at_value, at_name, Turn, going, done, refused, span_of, attach, named, plain_of, attach_plain, value_turn, item_turn, step, step_by, takes_value}
use Rattle.value_reader.proofs.Texts.{string_read}

-- a value and the tokens behind it, or the tokens from the first one at fault on
abbrev pub Read : Type 0
Read = Result (Value × List Lexeme) (List Lexeme)

abbrev pub go_on : (List Frame → Read) → Turn → Lexeme → List Lexeme → Read
go_on next (going fs) x xs = next fs
go_on next (done v) x xs = Ok (v, xs)
go_on next refused x xs = Err (x ∷ xs)

unfoldable pub run : Rules → List Frame → List Lexeme → Read
run rules fs [] = Err []
run rules fs (x ∷ xs) = go_on (λ gs. run rules gs xs) (step rules fs x) x xs

-- what is read after a turn
abbrev pub after : Rules → Turn → List Lexeme → Read
after rules (going fs) rest = run rules fs rest
after rules (done v) rest = Ok (v, rest)
after rules refused rest = Err rest

attached : (rules : Rules) (v : Value) (fs : List Frame) (x : Lexeme) (rest : List Lexeme) → go_on (λ gs. run rules gs rest) (attach v fs) x rest ≡ after rules (attach v fs) rest
attached rules v [] x rest = refl
attached rules v (in_list from vs ∷ fs) x rest = refl
attached rules v (at_key from es ∷ fs) x rest = refl
attached rules v (at_colon from es k ∷ fs) x rest = refl
attached rules v (at_value from es k ∷ fs) x rest = refl
attached rules v (at_name from ∷ fs) x rest = refl

pub run_attached : (rules : Rules) (fs gs : List Frame) (x : Lexeme) (v : Value) (rest : List Lexeme) → step rules fs x ≡ attach v gs → run rules fs (x ∷ rest) ≡ after rules (attach v gs) rest
unfolding run
run_attached rules fs gs x v rest e = ap (λ t. go_on (λ hs. run rules hs rest) t x rest) e ∙ attached rules v gs x rest

pub run_going : (rules : Rules) (fs gs : List Frame) (x : Lexeme) (rest : List Lexeme) → step rules fs x ≡ going gs → run rules fs (x ∷ rest) ≡ run rules gs rest
unfolding run
run_going rules fs gs x rest e = ap (λ t. go_on (λ hs. run rules hs rest) t x rest) e

pub run_refused : (rules : Rules) (fs : List Frame) (x : Lexeme) (rest : List Lexeme) → step rules fs x ≡ refused → run rules fs (x ∷ rest) ≡ Err (x ∷ rest)
unfolding run
run_refused rules fs x rest e = ap (λ t. go_on (λ hs. run rules hs rest) t x rest) e

-- ---- where a value may come next, its first token is taken as such
abbrev pub NoEnd : token.Token → Type 0
NoEnd (token.punctuator BracketClose) = ⊥
NoEnd _ = Unit {0}

item_value : (rules : Rules) (from : SourcePosition) (vs : List Value) (fs : List Frame) (t : token.Token) (a b : SourcePosition) → NoEnd t → item_turn rules from vs fs t a b ≡ value_turn rules (in_list from vs ∷ fs) t a b
item_value rules from vs fs (token.punctuator BracketClose) a b h = absurd h
item_value rules from vs fs _ a b h = refl

pub step_value : (rules : Rules) (fs : List Frame) (t : token.Token) (a b : SourcePosition) → takes_value fs ≡ true → NoEnd t → step_by rules fs t a b ≡ value_turn rules fs t a b
step_value rules [] t a b h n = refl
step_value rules (in_list from vs ∷ fs) t a b h n = item_value rules from vs fs t a b n
step_value rules (at_key from es ∷ fs) t a b h n = cc
step_value rules (at_colon from es k ∷ fs) t a b h n = cc
step_value rules (at_value from es k ∷ fs) t a b h n = refl
step_value rules (at_name from ∷ fs) t a b h n = cc

plain_no_end : (t : token.Token) (p : Plain) → plain_of t ≡ Some p → NoEnd t
plain_no_end (token.punctuator BracketClose) p e = cc
plain_no_end _ p e = tt

plain_value : (rules : Rules) (fs : List Frame) (t : token.Token) (p : Plain) (a b : SourcePosition) → plain_of t ≡ Some p → value_turn rules fs t a b ≡ attach (plain p (span_of a b)) fs
plain_value rules fs (token.punctuator q) p a b e = cc
plain_value rules fs (token.name n) p a b e = ap (λ o. attach_plain o (span_of a b) fs) e
plain_value rules fs (token.int n) p a b e = ap (λ o. attach_plain o (span_of a b) fs) e
plain_value rules fs (token.float n) p a b e = ap (λ o. attach_plain o (span_of a b) fs) e
plain_value rules fs (token.string n) p a b e = ap (λ o. attach_plain o (span_of a b) fs) e
plain_value rules fs (token.block_string n) p a b e = ap (λ o. attach_plain o (span_of a b) fs) e
plain_value rules fs token.end p a b e = cc
plain_value rules fs token.fault p a b e = cc

pub run_plain : (rules : Rules) (fs : List Frame) (t : token.Token) (p : Plain) (a b : SourcePosition) (rest : List Lexeme) → plain_of t ≡ Some p → takes_value fs ≡ true → run rules fs (lexeme t a b ∷ rest) ≡ after rules (attach (plain p (span_of a b)) fs) rest
run_plain rules fs t p a b rest e h =
    run_attached rules fs fs (lexeme t a b) (plain p (span_of a b)) rest (step_value rules fs t a b h (plain_no_end t p e) ∙ plain_value rules fs t p a b e)

-- ---- names
differ : (xs ys : List ℕ) → (xs ≡ ys → ⊥) → bytes_eq xs ys ≡ false
differ xs ys h = differ_if (bytes_eq xs ys) refl
  where
    differ_if : (b : Bool) → bytes_eq xs ys ≡ b → bytes_eq xs ys ≡ false
    differ_if true e = absurd (h ((bytes_eq-Decides xs ys).0 e))
    differ_if false e = e

pub named_enum : (n : List ℕ) → IsEnumName n → named n ≡ enum n
named_enum n (t, f, z) =
    ap (λ b. if b then null else if bytes_eq n (boolean_name true) then boolean true else if bytes_eq n (boolean_name false) then boolean false else enum n) (differ n null_name z)
    ∙ ap (λ b. if b then boolean true else if bytes_eq n (boolean_name false) then boolean false else enum n) (differ n (boolean_name true) t)
    ∙ ap (λ b. if b then boolean false else enum n) (differ n (boolean_name false) f)

pub named_boolean : (b : Bool) → named (boolean_name b) ≡ boolean b
named_boolean true = refl
named_boolean false = refl

pub named_null : named null_name ≡ null
named_null = refl

-- ---- strings
pub text_token : (t : token.Token) (s : List ℕ) → IsTextOf t s → plain_of t ≡ Some (string s)
text_token (token.punctuator p) s h = absurd h
text_token (token.name n) s h = absurd h
text_token (token.int n) s h = absurd h
text_token (token.float n) s h = absurd h
text_token (token.string raw) s h = ap (λ o. option_map string o) (string_read raw s h)
text_token (token.block_string raw) s h = ap (λ t. Some (string t)) (sym h)
text_token token.end s h = absurd h
text_token token.fault s h = absurd h
