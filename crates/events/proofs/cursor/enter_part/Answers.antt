use Rattle.std.proofs.Common.{◌∷◌, ◌++◌, ap, ◌∙◌}
use Rattle.events.specs.EventValue.{typing_of}
use Rattle.events.specs.Cursor.{stack_events, node_events}
use Rattle.events.proofs.Parts.{node_and_rest}
use Rattle.events.proofs.cursor.enter_part.Goals as goal

pub returns : goal.returns
returns g c =
    let schema = c.args.schema.now in
    let types = typing_of c.args.at.now in
    ap (λ e. e ∷ stack_events schema c.enter_first.new.frames.items) (c.first_event.ensures _)
    ∙ c.in_ok-enter_first.ensures
    ∙ ap (λ z. node_events schema c.args.part.now types ++ z) (c.in_ok-push_rest.ensures schema)
    ∙ node_and_rest schema c.args.part.now types (stack_events schema c.args.frames.now.items)
