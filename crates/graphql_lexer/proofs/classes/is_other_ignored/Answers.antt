use Rattle.std.proofs.Common.{ℕ, Bool, ◌||◌, ◌==◌, nat_lt, get_or, refl, arith}
use Rattle.graphql_strings.specs.Characters.{is_line_end}
use Rattle.graphql_lexer.specs.declared.classes.TheConstants.{BYTES}
use Rattle.graphql_lexer.proofs.Tables.{agree_below, agree_at}
use Rattle.graphql_lexer.proofs.classes.is_other_ignored.Goals as goal

read : ℕ → Bool
read k = nat_lt (get_or BYTES k 0) 44

pub returns : goal.returns
unfolding agree_below read
returns c = agree_at read (λ k. is_line_end k || ((k == 35) || (k == 239))) 256 refl c.args.byte (omega arith)
