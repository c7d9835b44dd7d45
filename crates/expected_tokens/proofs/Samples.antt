-- How what may be expected is written.
use Rattle.std.proofs.Common.{◌≡◌, ◌⊎◌, inl, inr, [], codes, refl, arith}
use Rattle.std.proofs.lemmas.Str.{IsUtf8-nil}
use Rattle.std.specs.List.{Contains}
use Rattle.expected_tokens.specs.Samples.{sample, token_of, word}
use Rattle.expected_tokens.specs.declared.expected.Expected.{Expected}
use Rattle.expected_tokens.specs.declared.expected.Expected.TheVariants as e
use Rattle.expected_tokens.specs.declared.expected.Keyword.{Keyword}
use Rattle.expected_tokens.specs.declared.expected.Keyword.TheVariants as k
use Rattle.expected_tokens.specs.declared.expected.TheConstants.{EXPECTED}
use Rattle.graphql_lexer.specs.Lexical.{IsName, IsToken, no_char, no_block_char}
use Rattle.graphql_lexer.specs.declared.lexer.Punctuator.TheVariants as p

named : (w : Keyword) → IsName (word w)
named k.Query = (113, codes "uery", refl, refl, refl)
named k.Mutation = (109, codes "utation", refl, refl, refl)
named k.Subscription = (115, codes "ubscription", refl, refl, refl)
named k.Fragment = (102, codes "ragment", refl, refl, refl)
named k.On = (111, codes "n", refl, refl, refl)
named k.True = (116, codes "rue", refl, refl, refl)
named k.False = (102, codes "alse", refl, refl, refl)
named k.Null = (110, codes "ull", refl, refl, refl)

-- the end of the text, or a token that is written so
abbrev pub IsWritten : Expected → Type 0
IsWritten x = (x ≡ e.End) ⊎ IsToken (token_of x) (sample x) []

pub written : (x : Expected) → IsWritten x
written (e.Punctuator s) = inr refl
written (e.Keyword w) = inr (refl, named w, refl)
written e.Name = inr (refl, (97, [], refl, refl, refl), refl)
written e.Int = inr (refl, inl (inl refl), refl)
written e.Float = inr (
  refl,
  (codes "0", codes ".0", [], refl, inl (inl refl), inr (inl ((codes "0", refl, (omega arith, refl)), refl))),
  refl,
)
written e.String = inr (refl, no_char, IsUtf8-nil, refl)
written e.BlockString = inr (refl, no_block_char, IsUtf8-nil)
written e.End = inl refl

-- each is asked for
pub every : (x : Expected) → Contains EXPECTED.now x
every (e.Punctuator p.Bang) = (0, omega arith, refl)
every (e.Punctuator p.Dollar) = (1, omega arith, refl)
every (e.Punctuator p.Ampersand) = (2, omega arith, refl)
every (e.Punctuator p.ParenOpen) = (3, omega arith, refl)
every (e.Punctuator p.ParenClose) = (4, omega arith, refl)
every (e.Punctuator p.Spread) = (5, omega arith, refl)
every (e.Punctuator p.Colon) = (6, omega arith, refl)
every (e.Punctuator p.Equals) = (7, omega arith, refl)
every (e.Punctuator p.At) = (8, omega arith, refl)
every (e.Punctuator p.BracketOpen) = (9, omega arith, refl)
every (e.Punctuator p.BracketClose) = (10, omega arith, refl)
every (e.Punctuator p.BraceOpen) = (11, omega arith, refl)
every (e.Punctuator p.Pipe) = (12, omega arith, refl)
every (e.Punctuator p.BraceClose) = (13, omega arith, refl)
every (e.Keyword k.Query) = (14, omega arith, refl)
every (e.Keyword k.Mutation) = (15, omega arith, refl)
every (e.Keyword k.Subscription) = (16, omega arith, refl)
every (e.Keyword k.Fragment) = (17, omega arith, refl)
every (e.Keyword k.On) = (18, omega arith, refl)
every (e.Keyword k.True) = (19, omega arith, refl)
every (e.Keyword k.False) = (20, omega arith, refl)
every (e.Keyword k.Null) = (21, omega arith, refl)
every e.Name = (22, omega arith, refl)
every e.Int = (23, omega arith, refl)
every e.Float = (24, omega arith, refl)
every e.String = (25, omega arith, refl)
every e.BlockString = (26, omega arith, refl)
every e.End = (27, omega arith, refl)
