use Rattle.std.proofs.lemmas.Result.{on_ok_weaker}
use Rattle.events.specs.Node
use Rattle.events.specs.Outline.{beside, outline_of_directives, outline_of_variable_definitions, outline_of_set}
use Rattle.events.specs.EventValue.{typing_of}
use Rattle.events.proofs.Events.{three_parts, around_at}
use Rattle.events.proofs.cursor.enter_operation.Goals as goal

pub returns : goal.returns
returns g c =
    let schema = c.args.schema.now in
    let o = c.args.operation.now in
    let u = typing_of c.go_to_operation.new.self in
    on_ok_weaker c.push_written_variables.result
    (λ h. around_at (Node.operation_definition o) (λ w. beside (outline_of_variable_definitions schema w o.item.variable_definitions)
    (beside (outline_of_directives schema w o.item.directives) (outline_of_set schema w o.item.selection_set.items))) _ _ _ _ _
    c.go_to_operation.ensures (c.in_ok-push_exit.ensures schema)
    (three_parts (outline_of_variable_definitions schema u o.item.variable_definitions)
    (outline_of_directives schema u o.item.directives) (outline_of_set schema u o.item.selection_set.items) _ _ _ _
    (c.in_ok-push_set.ensures schema) (c.in_ok-push_written_directives.ensures schema) (h schema)))
    c.push_written_variables.ensures
