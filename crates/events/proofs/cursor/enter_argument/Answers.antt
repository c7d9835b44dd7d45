use Rattle.std.proofs.lemmas.Result.{on_ok_weaker}
use Rattle.events.specs.Node
use Rattle.events.specs.Outline.{outline_of_value}
use Rattle.events.proofs.Events.{around_at}
use Rattle.events.proofs.cursor.enter_argument.Goals as goal

pub returns : goal.returns
returns g c =
    on_ok_weaker c.push_part.result
    (λ h schema. around_at (Node.argument c.args.argument.now) (λ u. outline_of_value schema u c.args.argument.now.1) _ _ _ _ _
    c.go_to_argument.ensures (c.in_ok-push_exit.ensures schema) (h schema))
    c.push_part.ensures
