use Rattle.std.proofs.Common.{ap, ◌∙◌}
use Rattle.events.specs.Cursor.{stack_events}
use Rattle.events.proofs.Events.{stack-pushed}
use Rattle.events.proofs.cursor.pop_part.Goals as goal

pub returns-in-Some : goal.returns-in-Some
returns-in-Some g c =
    λ schema. ap (stack_events schema) c.in-Some.ensures.items ∙ stack-pushed schema c.pop.new.self.items c.in-Some.frame
