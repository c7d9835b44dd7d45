use Rattle.std.proofs.Common.{ap, ◌∙◌}
use Rattle.std.proofs.lemmas.Result.{on_ok_weaker}
use Rattle.events.specs.Node
use Rattle.events.specs.Typing.{at_object_field}
use Rattle.events.specs.Outline.{outline_of_value}
use Rattle.events.specs.EventValue.{typing_of}
use Rattle.events.proofs.Events.{around_at}
use Rattle.events.proofs.cursor.enter_entry.Goals as goal

pub returns : goal.returns
returns g c =
    let schema = c.args.schema.now in
    on_ok_weaker c.push_part.result
    (λ h. around_at (Node.object_field c.args.entry.now) (λ u. outline_of_value schema u c.args.entry.now.1) _ _ _ _ _
    (c.go_to_object_field.ensures ∙ ap (λ key. at_object_field schema (typing_of c.args.at.now) key) c.as_str.ensures.value)
    (c.in_ok-push_exit.ensures schema) (h schema))
    c.push_part.ensures
