-- The token that a value of the code's enum stands for.
use Rattle.std.specs.Prelude.{ℕ}
use Rattle.graphql_lexer.specs.Lexical as spec
use Rattle.graphql_lexer.specs.declared.lexer.Token.{Token}
use Rattle.graphql_lexer.specs.declared.lexer.Token.TheVariants.{Punctuator, Name, Int, Float, String, BlockString, End}
use Rattle.graphql_lexer.specs.declared.lexer.Token.TheVariants.{Fault}

abbrev pub seen : Token → spec.Token
seen (Punctuator p) = spec.punctuator p
seen (Name s) = spec.name s.now
seen (Int s) = spec.int s.now
seen (Float s) = spec.float s.now
seen (String s) = spec.string s.now
seen (BlockString s) = spec.block_string s.now
seen End = spec.end
seen (Fault expected passed) = spec.fault

abbrev pub seen_at : Token × ℕ → spec.Token × ℕ
seen_at (token, length) = (seen token, length)
