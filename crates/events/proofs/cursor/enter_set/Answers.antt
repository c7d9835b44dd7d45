use Rattle.std.proofs.lemmas.Result.{on_ok_weaker}
use Rattle.events.specs.Node
use Rattle.events.specs.Outline.{each, outline_of_selection}
use Rattle.events.proofs.Events.{around_at}
use Rattle.events.proofs.cursor.enter_set.Goals as goal

pub returns : goal.returns
returns g c =
    on_ok_weaker c.push_selections.result
    (λ h schema. around_at (Node.selection_set c.args.set.now) (λ u. each (outline_of_selection schema u) c.args.set.now) _ _ _ _ _
    c.go_to_set.ensures (c.in_ok-push_exit.ensures schema) (h schema))
    c.push_selections.ensures
