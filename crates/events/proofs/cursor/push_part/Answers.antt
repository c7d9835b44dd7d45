use Rattle.std.proofs.Common.{ap, ◌∙◌}
use Rattle.events.specs.Cursor.{stack_events}
use Rattle.events.proofs.Events.{stack-pushed}
use Rattle.events.proofs.cursor.push_part.Goals as goal

pub returns : goal.returns
returns g c =
    λ schema. ap (stack_events schema) c.in_ok-push.ensures.items ∙ stack-pushed schema c.args.frames.now.items
    (record { part = c.args.part; types = c.args.types.now })
