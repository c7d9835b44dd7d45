use Rattle.std.proofs.Common.{◌≡◌, option_map}
use Rattle.rules_specified_uses.specs.InputPlaces.{place_value}
use Rattle.rules_positions.specs.RecordedUses.{with_uses}
use Rattle.rules_specified_uses.specs.ValueUses.{use_values, value_uses}
use Rattle.rules_specified_uses.specs.Waiting.{waiting_uses}
use Rattle.rules_specified_uses.proofs.value_uses.add_value.Given as goal

-- what was added, and what waits
abbrev pub invariant-loop : goal.invariant-loop
invariant-loop g l =
    with_uses (waiting_uses l.schema l.waiting.items) (use_values l.uses.items) ≡ with_uses (value_uses l.schema (option_map place_value l.place) l.value) (use_values l.fn.uses.items)
