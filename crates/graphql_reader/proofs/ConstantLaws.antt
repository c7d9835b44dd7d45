-- A text that is a constant, and nothing else.
use Rattle.std.proofs.Common.{◌≡◌, inl, inr, ℕ, Bool, true, false, if◌then◌else◌, List, [], ◌∷◌, sym, ap, subst, ◌∙◌}
use Rattle.graphql_lexer.specs.Ahead.{ahead_of, behind, left, IsFaultAt}
use Rattle.graphql_lexer.specs.Lexemes.{Lexeme, AreLexemes, is_last}
use Rattle.graphql_lexer.specs.Lexical as token
use Rattle.graphql_lexer.specs.Scan.{tokens_from}
use Rattle.graphql_lexer.specs.declared.error.ReadError.{ReadError}
use Rattle.graphql_lexer.specs.declared.error.ReadError.TheVariants.{Syntax, OutOfMemory}
use Rattle.graphql_lexer.specs.declared.tokens.Tokens.{Tokens}
use Rattle.graphql_reader.specs.Constants.{constant, IsConstant, IsNoConstant, IsConstantFault}
use Rattle.value_reader.specs.Faults.{IsFirstFault, IsNone}
use Rattle.value_reader.specs.Grammar.{Begins}
use Rattle.value_reader.specs.Values.{Value}

pub behind_end : (t : Tokens) → (ahead_of t).token ≡ token.end → behind t ≡ []
behind_end t e = ap (λ k. if is_last k then [] else tokens_from t.scanned.stop t.scanned.rest.now) e

head_same : (x y : Lexeme) (xs ys : List Lexeme) → x ∷ xs ≡ y ∷ ys → x ≡ y
head_same x y xs ys e = cc

-- these are the lexemes of the text, and no others
abbrev pub Only : List ℕ → List Lexeme → Type 0
Only text ts = (lexemes : List Lexeme) → AreLexemes text lexemes → lexemes ≡ ts

pub not_so : (b : Bool) (P : Type 0) → (b ≡ true → P) × (P → b ≡ true) → b ≡ false → P → ⊥
not_so b P (f, g) e p = let t : b ≡ true = g p in cc

pub constant_read : (text : List ℕ) (ts : List Lexeme) (new : Tokens) (v : Value) → AreLexemes text ts → Begins constant ts v (left new) → (ahead_of new).token ≡ token.end → IsConstant text v
constant_read text ts new v are b e = (ts, ahead_of new, are, e, subst (λ more. Begins constant ts v (ahead_of new ∷ more)) (behind_end new e) b)

pub constant_begins : (text : List ℕ) (ts : List Lexeme) (v : Value) → Only text ts → IsConstant text v → (last : Lexeme) × (last.token ≡ token.end) × Begins constant ts v (last ∷ [])
constant_begins text ts v only (lexemes, last, are, e, b) = (last, e, subst (λ xs. Begins constant xs v (last ∷ [])) (only lexemes are) b)

pub constant_none : (text : List ℕ) (ts : List Lexeme) (e : ReadError) → Only text ts → IsNone constant ts e → IsNoConstant text e
constant_none text ts OutOfMemory only h = tt
constant_none text ts (Syntax e) only h = λ v is. let b = constant_begins text ts v only is in h v (b.0 ∷ []) b.2

pub constant_fault : (text : List ℕ) (ts at : List Lexeme) (e : ReadError) → AreLexemes text ts → IsFirstFault constant ts at e → IsConstantFault text e
constant_fault text ts at OutOfMemory are h = tt
constant_fault text ts at (Syntax e) are h = (ts, are, inl (at, h))

-- something stands behind the value
pub more_none : (text : List ℕ) (ts : List Lexeme) (new : Tokens) (e : ReadError) → Only text ts → ((w : Value) (rest : List Lexeme) → Begins constant ts w rest → rest ≡ left new) → ((ahead_of new).token ≡ token.end → ⊥) → IsNoConstant text e
more_none text ts new OutOfMemory only once h = tt
more_none text ts new (Syntax e) only once h = λ v is.
    let b = constant_begins text ts v only is in
    let same : b.0 ≡ ahead_of new = head_same b.0 (ahead_of new) [] (behind new) (once v (b.0 ∷ []) b.2) in
    h (sym (ap (λ x. x.token) same) ∙ b.1)

pub more_fault : (text : List ℕ) (ts : List Lexeme) (new : Tokens) (v : Value) (e : ReadError) → AreLexemes text ts → Begins constant ts v (left new) → ((ahead_of new).token ≡ token.end → ⊥) → (((ahead_of new).token ≡ token.fault → ⊥) → IsFaultAt (ahead_of new).start e) → IsConstantFault text e
more_fault text ts new v OutOfMemory are b h p = tt
more_fault text ts new v (Syntax e) are b h p = (ts, are, inr (v, ahead_of new, behind new, b, h, p))
