use Rattle.std.proofs.Common.{◌≡◌, ◌&&◌, true, false, ap, sym, ◌∙◌, drop, ◌+◌}
use Rattle.std.specs.List.{list_all}
use Rattle.language_types.specs.Types.{shape}
use Rattle.schema_validation.proofs.Finds.{rest_at}
use Rattle.variable_values.specs.Inputs as input
use Rattle.variable_values.proofs.inputs.has_input_types.Goals as goal

pub returns-then-not-is_input_type : goal.returns-then-not-is_input_type
returns-then-not-is_input_type g c =
    let schema = c.args.schema.now in
    let items = c.definitions_of-definition-items.result.now in
    let i = c.loop-definition.definition-index in
    let no : input.is_input_in schema (shape c.loop-definition-item.result.1.var_type.item).name ≡ false = ap (input.is_input_in schema) (sym c.innermost_name.ensures) ∙ sym c.if-not-is_input_type.ensures in
    sym
    (c.loop-definition.invariant ∙ ap (list_all (input.has_input_type schema)) (rest_at items i c.loop-definition-item.result c.loop-definition-test.true c.loop-definition-item.is)
    ∙ ap (λ b. b && list_all (input.has_input_type schema) (drop (i + 1) items)) no)

pub loop-definition-preserved : goal.loop-definition-preserved
loop-definition-preserved g c =
    let schema = c.args.schema.now in
    let items = c.definitions_of-definition-items.result.now in
    let i = c.loop-definition.definition-index in
    let yes : input.is_input_in schema (shape c.loop-definition-item.result.1.var_type.item).name ≡ true = ap (input.is_input_in schema) (sym c.innermost_name.ensures) ∙ sym c.if-not-is_input_type.ensures in
    c.loop-definition.invariant ∙ ap (list_all (input.has_input_type schema)) (rest_at items i c.loop-definition-item.result c.loop-definition-test.true c.loop-definition-item.is)
    ∙ ap (λ b. b && list_all (input.has_input_type schema) (drop (i + 1) items)) yes
