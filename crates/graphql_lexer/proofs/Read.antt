-- Each token is read as it is written, whatever follows that may follow it.
use Rattle.std.proofs.Common.{◌≡◌, ℕ, List, ◌++◌, false, length, refl, sym, subst}
use Rattle.graphql_strings.specs.Characters.{begins, three_quotes}
use Rattle.graphql_lexer.specs.Lexical.{Token, punctuator, name, int, float, string, block_string, end, fault, spelling, IsToken}
use Rattle.graphql_lexer.specs.Scanning.{token_at, punctuator_of, spread_at}
use Rattle.graphql_lexer.specs.declared.lexer.Punctuator.{Punctuator}
use Rattle.graphql_lexer.specs.declared.lexer.Punctuator.TheVariants.{Bang, Dollar, Ampersand, ParenOpen, ParenClose, Spread, Colon, Equals, At, BracketOpen, BracketClose, BraceOpen, Pipe, BraceClose}
use Rattle.graphql_lexer.proofs.Names.{names_read}
use Rattle.graphql_lexer.proofs.Numbers.{ints_read, floats_read}
use Rattle.graphql_lexer.proofs.Quoted.{strings_read, blocks_read}

punctuators_read : (p : Punctuator) (r : List ℕ) → token_at (spelling p ++ r) ≡ (punctuator p, length (spelling p))
unfolding token_at punctuator_of spread_at
punctuators_read Bang r = refl
punctuators_read Dollar r = refl
punctuators_read Ampersand r = refl
punctuators_read ParenOpen r = refl
punctuators_read ParenClose r = refl
punctuators_read Spread r = refl
punctuators_read Colon r = refl
punctuators_read Equals r = refl
punctuators_read At r = refl
punctuators_read BracketOpen r = refl
punctuators_read BracketClose r = refl
punctuators_read BraceOpen r = refl
punctuators_read Pipe r = refl
punctuators_read BraceClose r = refl

abbrev Reads : Token → List ℕ → List ℕ → Type 0
Reads t r s = token_at (s ++ r) ≡ (t, length s)

pub tokens_read : (t : Token) (s r : List ℕ) → IsToken t s r → token_at (s ++ r) ≡ (t, length s)
tokens_read (punctuator p) s r same = subst (Reads (punctuator p) r) (sym same) (punctuators_read p r)
tokens_read (name n) s r (same, h, e) = subst (Reads (name n) r) (sym same) (names_read n r h e)
tokens_read (int n) s r (same, h, e) = subst (Reads (int n) r) (sym same) (ints_read n r h e)
tokens_read (float n) s r (same, h, e) = subst (Reads (float n) r) (sym same) (floats_read n r h e)
tokens_read (string raw) s r (same, h, u, e) = subst (Reads (string raw) r) (sym same) (strings_read raw r h u (let P = λ (t : List ℕ). begins three_quotes (t ++ r) ≡ false in subst P same e))
tokens_read (block_string raw) s r (same, h, u) = subst (Reads (block_string raw) r) (sym same) (blocks_read raw r h u)
tokens_read end s r h = absurd h
tokens_read fault s r h = absurd h
