-- One token, and the value behind it.
use Rattle.std.proofs.Common.{◌≡◌, List, ◌∷◌, sym, ap, subst, ◌∙◌}
use Rattle.graphql_lexer.specs.Ahead.{ahead_of, behind, left, IsTaken}
use Rattle.graphql_lexer.specs.Lexemes.{Lexeme}
use Rattle.graphql_lexer.specs.Lexical as token
use Rattle.graphql_lexer.specs.declared.error.ReadError.{ReadError}
use Rattle.graphql_lexer.specs.declared.error.ReadError.TheVariants.{Syntax, OutOfMemory}
use Rattle.graphql_lexer.specs.declared.lexer.Punctuator.TheVariants.{Equals}
use Rattle.graphql_lexer.specs.declared.tokens.Tokens.{Tokens}
use Rattle.value_reader.specs.Faults.{IsFirstFault}
use Rattle.value_reader.specs.Grammar.{Rules, lexeme, Begins}
use Rattle.value_reader.specs.Values.{Value}
use Rattle.graphql_reader.specs.Parts.{BeginsDefault, IsDefaultFault}

-- a token at its place
pub at_place : (x : Lexeme) (t : token.Token) → x.token ≡ t → x ≡ lexeme t x.start x.stop
at_place x t e = ap (λ u. lexeme u x.start x.stop) e

-- the token that is taken stands before what is left
pub taken : (t : token.Token) (old new : Tokens) → IsTaken t old new → left old ≡ lexeme t (ahead_of old).start (ahead_of old).stop ∷ left new
taken t old new (e, l, s) =
    ap (λ x. x ∷ behind old) (at_place (ahead_of old) t e) ∙ ap (λ xs. lexeme t (ahead_of old).start (ahead_of old).stop ∷ xs) (sym l)

pub tail_same : (x y : Lexeme) (xs ys : List Lexeme) → x ∷ xs ≡ y ∷ ys → xs ≡ ys
tail_same x y xs ys e = cc

-- this value is the only one that the tokens begin with
abbrev pub Only : Rules → List Lexeme → Value → List Lexeme → Type 0
Only rules ts v rest = (w : Value) (more : List Lexeme) → Begins rules ts w more → (w ≡ v) × (more ≡ rest)

pub default_read : (rules : Rules) (old mid : Tokens) (v : Value) (rest : List Lexeme) → IsTaken (token.punctuator Equals) old mid → Begins rules (left mid) v rest → BeginsDefault rules (left old) v rest
default_read rules old mid v rest t b = ((ahead_of old).start, (ahead_of old).stop, left mid, taken (token.punctuator Equals) old mid t, b)

pub default_once : (rules : Rules) (old mid : Tokens) (v : Value) (rest : List Lexeme) → IsTaken (token.punctuator Equals) old mid → Only rules (left mid) v rest → (w : Value) (more : List Lexeme) → BeginsDefault rules (left old) w more → (w ≡ v) × (more ≡ rest)
default_once rules old mid v rest t only w more (a, b, ts, e, h) =
    let same : ts ≡ left mid = tail_same _ _ ts (left mid) (sym e ∙ taken (token.punctuator Equals) old mid t) in
    only w more (subst (λ xs. Begins rules xs w more) same h)

pub default_fault : (rules : Rules) (old mid : Tokens) (at : List Lexeme) (e : ReadError) → IsTaken (token.punctuator Equals) old mid → IsFirstFault rules (left mid) at e → IsDefaultFault rules (left old) at e
default_fault rules old mid at OutOfMemory t h = tt
default_fault rules old mid at (Syntax e) t h = ((ahead_of old).start, (ahead_of old).stop, left mid, taken (token.punctuator Equals) old mid t, h)
