use Rattle.std.proofs.Common.{◌++◌, ap, ◌∙◌}
use Rattle.std.proofs.lemmas.Result.{on_ok_weaker}
use Rattle.events.specs.Node
use Rattle.events.specs.SchemaView.{field_arguments}
use Rattle.events.specs.Outline.{outline_of_arguments, outline_of_directives, outline_of_set_if_there, outline_in_field}
use Rattle.events.specs.TypedEvent.{events_of}
use Rattle.events.specs.EventValue.{typing_of}
use Rattle.events.specs.Cursor.{stack_events}
use Rattle.events.proofs.Events.{three_parts, around_at}
use Rattle.events.proofs.cursor.enter_field.Goals as goal

pub returns : goal.returns
returns g c =
    let schema = c.args.schema.now in
    let f = c.args.field.now in
    let u = typing_of c.go_to_field.new.self in
    on_ok_weaker c.push_written_arguments.result
    (λ h. around_at (Node.field f) (λ w. outline_in_field schema w f.item) _ _ _ _ _ c.go_to_field.ensures
    (c.in_ok-push_exit.ensures schema)
    (three_parts (outline_of_arguments schema (field_arguments u.parent f.item.name.item.now) u f.item.arguments)
    (outline_of_directives schema u f.item.directives) (outline_of_set_if_there schema u f.item.selection_set) _ _ _ _
    (c.in_ok-push_written_set.ensures schema)
    (c.in_ok-push_written_directives.ensures schema)
    (h schema ∙ ap (λ a. events_of
    (outline_of_arguments schema a u f.item.arguments) ++ stack_events schema c.push_written_directives.new.frames.items) c.arguments_of_field-known.ensures)))
    c.push_written_arguments.ensures
