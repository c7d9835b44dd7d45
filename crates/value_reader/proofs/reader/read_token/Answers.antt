use Rattle.graphql_lexer.specs.Ahead.{ahead_of}
use Rattle.value_reader.specs.Machine.{step}
use Rattle.value_reader.specs.Seen.{rules_seen, stack_seen}
use Rattle.value_reader.proofs.ReadLoop.{turn_goes}
use Rattle.value_reader.proofs.Turns.{not_last}
use Rattle.value_reader.proofs.reader.read_token.Goals as goal

pub returns-clause-taken : goal.returns-clause-taken
returns-clause-taken c =
    let rules = rules_seen c.args.rules in
    let fs = stack_seen c.args.parts.now in
    let x = ahead_of c.args.tokens.now in
    c.advance.ensures.left (not_last rules fs x (turn_goes c.step.new.parts c.in_ok-turn.turn (step rules fs x) c.in_ok-turn.ensures.turn))
