use Rattle.std.proofs.Common.{option_copied}
use Rattle.rules_specified_uses.specs.ValueUses.{use_values}
use Rattle.rules_specified_positions.specs.PlacedUses.{argument_uses}
use Rattle.rules_specified_positions.proofs.Adding.{added_next}
use Rattle.rules_specified_positions.proofs.placed_uses.add_each.Goals as goal

pub loop-argument-preserved : goal.loop-argument-preserved
loop-argument-preserved g c =
    added_next (argument_uses c.args.schema.now (option_copied c.args.known)) c.args.arguments.now c.loop-argument.argument-index c.argument-item.result (use_values c.args.uses.now.items) _ _
    c.argument-item.is c.loop-argument-test.true c.loop-argument.invariant c.in_ok-add_argument.ensures
