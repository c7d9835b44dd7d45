use Rattle.std.proofs.Common.{arith, ◌∙◌, ap}
use Rattle.graphql_lexer.specs.Scanning.{block_turn}
use Rattle.graphql_lexer.proofs.Turns.{block_none, block_some}
use Rattle.graphql_lexer.proofs.lexer.block_length.Goals as goal

pub returns-in-None-clause-exact : goal.returns-in-None-clause-exact
returns-in-None-clause-exact c =
    let step = block_none c.loop-index.escaped c.args.body.now c.loop-index.index (omega arith) (c.in-None.ensures ∙ ap (block_turn c.loop-index.escaped) c.rest.ensures) in
    omega (arith, c.loop-index.invariant)

pub loop-index-preserved : goal.loop-index-preserved
loop-index-preserved c =
    let step = block_some c.loop-index.escaped c.in-Some.left c.args.body.now c.loop-index.index (omega arith) (c.in-Some.ensures ∙ ap (block_turn c.loop-index.escaped) c.rest.ensures) in
    omega (arith, c.loop-index.invariant)
