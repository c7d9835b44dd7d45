use Rattle.std.proofs.Common.{length}
use Rattle.graphql_lexer.specs.Ahead.{left}
use Rattle.value_reader.specs.Seen.{rules_of, stack_seen}
use Rattle.value_reader.proofs.Reached.{Reached}
use Rattle.value_reader.proofs.reader.read_parts.Given as goal

-- the tokens so far lead to what is begun
abbrev pub invariant-loop-parts : goal.invariant-loop-parts
invariant-loop-parts l = Reached (rules_of l.fn.variables l.fn.max_depth) (left l.fn.tokens) (stack_seen l.parts) (left l.tokens)

abbrev pub decreases-loop-parts : goal.decreases-loop-parts
decreases-loop-parts l = length (left l.tokens)
