use Rattle.std.proofs.Common.{refl}
use Rattle.std.proofs.lemmas.Result.{IfOk-weaker}
use Rattle.events.proofs.Parts.{next_left}
use Rattle.events.proofs.cursor.EventCursorOf.next.Goals as goal

pub returns-in-Some : goal.returns-in-Some
returns-in-Some g c =
    let schema = c.args.self.now.schema.now in
    IfOk-weaker c.enter_part.result _ _
    (λ found h. next_left schema found _ _ _ _ _ _ (c.in-Some.ensures schema) refl h)
    c.enter_part.ensures

pub returns-in-None : goal.returns-in-None
returns-in-None g c = c.in-None.ensures c.args.self.now.schema.now
