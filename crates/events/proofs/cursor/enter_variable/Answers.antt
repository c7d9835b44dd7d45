use Rattle.std.proofs.lemmas.Result.{on_ok_weaker}
use Rattle.events.specs.Node
use Rattle.events.specs.Outline.{beside, if_there, outline_of_value, outline_of_directives}
use Rattle.events.specs.EventValue.{typing_of}
use Rattle.events.proofs.Events.{two_parts, around_at}
use Rattle.events.proofs.cursor.enter_variable.Goals as goal

pub returns : goal.returns
returns g c =
    let d = c.args.definition.now in
    let u = typing_of c.go_to_variable.new.self in
    on_ok_weaker c.push_default_value.result
    (λ h schema. around_at (Node.variable_definition d) (λ w. beside (if_there (outline_of_value schema w) d.1.default_value)
    (outline_of_directives schema w d.1.directives)) _ _ _ _ _
    c.go_to_variable.ensures (c.in_ok-push_exit.ensures schema)
    (two_parts (if_there (outline_of_value schema u) d.1.default_value) (outline_of_directives schema u d.1.directives) _ _ _
    (c.in_ok-push_written_directives.ensures schema) (h schema)))
    c.push_default_value.ensures
