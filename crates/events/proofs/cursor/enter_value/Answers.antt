use Rattle.std.proofs.Common.{◌++◌, ap, sym, ◌∙◌}
use Rattle.std.proofs.lemmas.Result.{on_ok_weaker}
use Rattle.events.specs.TypedEvent.{events_of}
use Rattle.events.specs.EventValue.{typing_of}
use Rattle.events.specs.Place.{node_of_value, inside_value}
use Rattle.events.specs.Cursor.{stack_events}
use Rattle.events.proofs.Events.{around}
use Rattle.events.proofs.Levels.{of_value}
use Rattle.events.proofs.cursor.enter_value.Goals as goal

pub returns : goal.returns
returns g c =
    let v = c.args.value.now in
    let types = typing_of c.args.types.now in
    on_ok_weaker c.push_inside_value.result
    (λ h schema. around (node_of_value v) types (inside_value schema types v.item) _ _ _ (c.in_ok-push_exit.ensures schema) (h schema)
    ∙ ap (λ z. events_of z ++ stack_events schema c.args.frames.now.items) (sym (of_value schema types v)))
    c.push_inside_value.ensures
