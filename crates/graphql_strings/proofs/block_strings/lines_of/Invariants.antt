use Rattle.std.proofs.Common.{map}
use Rattle.graphql_strings.specs.BlockScanning.{LinesRead}
use Rattle.graphql_strings.proofs.block_strings.lines_of.Given as goal

abbrev pub invariant-loop-index : goal.invariant-loop-index
invariant-loop-index l = LinesRead l.raw l.index l.after_return l.start (map (λ x. x.now) l.lines.items)
