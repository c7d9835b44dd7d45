use Rattle.std.proofs.Common.{◌++◌, ap, ◌∙◌}
use Rattle.std.proofs.lemmas.Result.{on_ok_weaker}
use Rattle.events.specs.Node
use Rattle.events.specs.SchemaView.{directive_arguments}
use Rattle.events.specs.Outline.{outline_of_arguments}
use Rattle.events.specs.TypedEvent.{events_of}
use Rattle.events.specs.EventValue.{typing_of}
use Rattle.events.specs.Cursor.{stack_events}
use Rattle.events.proofs.Events.{around}
use Rattle.events.proofs.cursor.enter_directive.Goals as goal

pub returns : goal.returns
returns g c =
    let schema = c.args.schema.now in
    let types = typing_of c.args.types.now in
    let d = c.args.directive.now in
    on_ok_weaker c.push_written_arguments.result
    (λ h. around (Node.directive d) types (outline_of_arguments schema
    (directive_arguments schema d.item.name.item.now) types d.item.arguments) _ _ _
    (c.in_ok-push_exit.ensures schema)
    (h schema ∙ ap (λ a. events_of
    (outline_of_arguments schema a types d.item.arguments) ++ stack_events schema c.push_exit.new.frames.items) c.arguments_of_directive-known.ensures))
    c.push_written_arguments.ensures
