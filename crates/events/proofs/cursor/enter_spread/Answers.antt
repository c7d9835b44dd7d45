use Rattle.std.proofs.lemmas.Result.{on_ok_weaker}
use Rattle.events.specs.Node
use Rattle.events.specs.Outline.{outline_of_directives}
use Rattle.events.specs.EventValue.{typing_of}
use Rattle.events.proofs.Events.{around}
use Rattle.events.proofs.cursor.enter_spread.Goals as goal

pub returns : goal.returns
returns g c =
    let types = typing_of c.args.types.now in
    on_ok_weaker c.push_written_directives.result
    (λ h schema. around (Node.fragment_spread c.args.spread.now) types
    (outline_of_directives schema types c.args.spread.now.item.directives) _ _ _
    (c.in_ok-push_exit.ensures schema) (h schema))
    c.push_written_directives.ensures
