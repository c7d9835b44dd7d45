use Rattle.std.proofs.Common.{◌-◌}
use Rattle.language_types.specs.Types.{shape}
use Rattle.graphql_reader.specs.Languages.{AType, Closing, Leaves, NoBang}
use Rattle.graphql_reader.specs.Passed.{Reads}
use Rattle.graphql_reader.proofs.TypeLaws.{Inside}
use Rattle.graphql_reader.proofs.types.read_type.Given as goal

-- the brackets that are not yet closed, and the type behind them
abbrev pub invariant-loop : goal.invariant-loop
invariant-loop l = record {
  tree : Reads (Inside l.fn.max_depth (l.levels - l.counter) (shape l.item)) l.fn.tokens l.tokens;
  leaves : Leaves l.fn.max_depth NoBang AType (Closing (l.levels - l.counter)) l.fn.tokens l.tokens;
}
