use Rattle.std.proofs.lemmas.Result.{on_ok_weaker}
use Rattle.events.specs.Node
use Rattle.events.specs.Outline.{beside, outline_of_directives, outline_of_set}
use Rattle.events.specs.EventValue.{typing_of}
use Rattle.events.proofs.Events.{two_parts, around_at}
use Rattle.events.proofs.cursor.enter_fragment.Goals as goal

pub returns : goal.returns
returns g c =
    let schema = c.args.schema.now in
    let f = c.args.fragment.now in
    let u = typing_of c.go_to_named.new.self in
    on_ok_weaker c.push_written_directives.result
    (λ h. around_at (Node.fragment_definition f) (λ w. beside (outline_of_directives schema w f.item.directives)
    (outline_of_set schema w f.item.selection_set.items)) _ _ _ _ _
    c.go_to_named.ensures (c.in_ok-push_exit.ensures schema)
    (two_parts (outline_of_directives schema u f.item.directives) (outline_of_set schema u f.item.selection_set.items) _ _ _
    (c.in_ok-push_set.ensures schema) (h schema)))
    c.push_written_directives.ensures
