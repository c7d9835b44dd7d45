use Rattle.std.proofs.Common.{◌≡◌, option_copied, take}
use Rattle.std.specs.List.{flat_map}
use Rattle.rules_positions.specs.RecordedUses.{with_uses}
use Rattle.rules_specified_uses.specs.ValueUses.{use_values}
use Rattle.rules_specified_positions.specs.PlacedUses.{argument_uses}
use Rattle.rules_specified_positions.proofs.placed_uses.add_each.Given as goal

-- those of the arguments that were seen are added
abbrev pub invariant-loop-argument : goal.invariant-loop-argument
invariant-loop-argument g l =
    use_values l.uses.items ≡ with_uses (flat_map (argument_uses l.schema (option_copied l.known)) (take l.argument-index l.arguments)) (use_values l.fn.uses.items)
