use Rattle.std.proofs.Common.{◌≡◌, OnOk, ap, subst}
use Rattle.events.specs.SchemaView.{directive_arguments}
use Rattle.rules_positions.specs.RecordedUses.{with_uses}
use Rattle.rules_specified_uses.specs.ValueUses.{use_values}
use Rattle.rules_specified_positions.specs.PlacedUses.{arguments_uses}
use Rattle.rules_specified_positions.proofs.variables_in_allowed_position.add_directive.Goals as goal

pub returns : goal.returns
returns g c =
    let written = c.args.directive.now.item in
    let before = use_values c.args.uses.now.items in
    subst (λ k. OnOk c.add_arguments.result (use_values c.add_arguments.new.uses.items ≡ with_uses (arguments_uses k (directive_arguments k written.name.item.now) written.arguments) before)) (ap (λ k. k.schema) c.ctx.view_is)
    (subst (λ known. OnOk c.add_arguments.result (use_values c.add_arguments.new.uses.items ≡ with_uses (arguments_uses c.ctx.inside.schema.now known written.arguments) before)) c.arguments_of_directive-known.ensures c.add_arguments.ensures)
