use Rattle.std.proofs.Common.{ℕ, Bool, nat_lt, get_or, refl, arith}
use Rattle.graphql_lexer.specs.declared.classes.TheConstants.{BYTES}
use Rattle.graphql_lexer.specs.Lexical.{is_name_continue}
use Rattle.graphql_lexer.proofs.Tables.{agree_below, agree_at}
use Rattle.graphql_lexer.proofs.classes.is_name_byte.Goals as goal

read : ℕ → Bool
read k = nat_lt 46 (get_or BYTES k 0)

pub returns : goal.returns
unfolding agree_below read
returns c = agree_at read is_name_continue 256 refl c.args.byte (omega arith)
