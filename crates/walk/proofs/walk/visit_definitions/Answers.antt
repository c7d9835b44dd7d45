use Rattle.std.proofs.Common.{◌≡◌, ap, ◌∙◌}
use Rattle.events.specs.EventValue.{typing_of}
use Rattle.events.specs.Cursor.{events_left}
use Rattle.events.specs.Outline.{each, outline_of_definition}
use Rattle.events.specs.TypedEvent.{events_of}
use Rattle.walk.proofs.Walks.{IfOk-ran}
use Rattle.walk.proofs.walk.visit_definitions.Goals as goal

pub returns-in-Ok-clause-ran : goal.returns-in-Ok-clause-ran
returns-in-Ok-clause-ran g c =
    let e : events_left c.in-Ok.cursor ≡ events_of (each (outline_of_definition c.args.ctx.now.schema (typing_of c.args.types)) c.args.definitions.now) =
    c.in-Ok.ensures
    ∙ ap (λ w. events_of (each (outline_of_definition w.schema (typing_of c.args.types)) c.args.definitions.now)) c.ctx.view_is in
    IfOk-ran g.V.Machine.step _ _ c.args.v.now c.tell_pushed.new.v c.args.ctx.now c.tell_pushed.new.ctx c.tell_pushed.result e c.tell_pushed.ensures.ran
