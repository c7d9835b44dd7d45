use Rattle.std.proofs.Common.{arith}
use Rattle.graphql_strings.proofs.BlockLaws.{unindent_none}
use Rattle.graphql_strings.proofs.block_strings.unindented.Goals as goal

pub returns-in-None : goal.returns-in-None
returns-in-None c = unindent_none c.args.line.now c.args.index c.args.indent c.if-index-eq0.false c.utf8.line (c.requires (omega arith)) c.in-None.ensures.cases
