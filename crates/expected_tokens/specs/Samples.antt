-- What may be expected, as tokens.
use Rattle.std.specs.Prelude.{ℕ, List, [], ◌∷◌, codes}
use Rattle.expected_tokens.specs.declared.expected.Expected.{Expected}
use Rattle.expected_tokens.specs.declared.expected.Expected.TheVariants as e
use Rattle.expected_tokens.specs.declared.expected.TheConstants.{EXPECTED}
use Rattle.expected_tokens.specs.declared.expected.Keyword.{Keyword}
use Rattle.expected_tokens.specs.declared.expected.Keyword.TheVariants as k
use Rattle.graphql_lexer.specs.Lexical as token
use Rattle.graphql_lexer.specs.Lexical.{Token, spelling}

abbrev pub word : Keyword → List ℕ
word k.Query = codes "query"
word k.Mutation = codes "mutation"
word k.Subscription = codes "subscription"
word k.Fragment = codes "fragment"
word k.On = codes "on"
word k.True = codes "true"
word k.False = codes "false"
word k.Null = codes "null"

-- the token, of which a name, a number or a string is a sample
abbrev pub token_of : Expected → Token
token_of (e.Punctuator p) = token.punctuator p
token_of (e.Keyword w) = token.name (word w)
token_of e.Name = token.name (codes "a")
token_of e.Int = token.int (codes "0")
token_of e.Float = token.float (codes "0.0")
token_of e.String = token.string []
token_of e.BlockString = token.block_string []
token_of e.End = token.end

-- how it is written
abbrev pub sample : Expected → List ℕ
sample (e.Punctuator p) = spelling p
sample (e.Keyword w) = word w
sample e.Name = codes "a"
sample e.Int = codes "0"
sample e.Float = codes "0.0"
sample e.String = 34 ∷ 34 ∷ []
sample e.BlockString = 34 ∷ 34 ∷ 34 ∷ 34 ∷ 34 ∷ 34 ∷ []
sample e.End = []

-- all that is asked for
unfoldable pub listed : List Expected
listed = EXPECTED.now
