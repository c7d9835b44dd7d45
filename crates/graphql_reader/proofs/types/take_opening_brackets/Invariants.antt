use Rattle.graphql_reader.specs.Languages.{Anything, InnerType, Leaves}
use Rattle.graphql_reader.specs.Passed.{Reads}
use Rattle.graphql_reader.specs.Types.{SpellsBrackets}
use Rattle.graphql_reader.proofs.TypeLeaveLaws.{Opened}
use Rattle.graphql_reader.proofs.types.take_opening_brackets.Given as goal

-- so many brackets were taken
abbrev pub invariant-loop-taken : goal.invariant-loop-taken
invariant-loop-taken l = record {
  tree : Reads (SpellsBrackets l.fn.max_depth l.taken) l.fn.tokens l.tokens;
  leaves : Leaves l.fn.max_depth Anything (InnerType 0) (Opened l.taken) l.fn.tokens l.tokens;
}
