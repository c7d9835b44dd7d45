use Rattle.std.proofs.Common.{◌++◌, [], ◌∷◌, ap, sym, ◌∙◌, string_bytes, take}
use Rattle.std.proofs.lemmas.List.{take_all}
use Rattle.schema.specs.Possible.{is_among}
use Rattle.variable_values.specs.Keys.{field_names}
use Rattle.variable_values.proofs.KeyLaws.{is_among-more, map_more}
use Rattle.variable_values.proofs.keys.names_of.Goals as goal

pub returns : goal.returns
returns g c = λ n. c.loop-field.invariant n ∙ ap (λ xs. is_among (field_names xs) n) (take_all c.loop-field.field-index c.args.fields.now c.loop-field-test.false)

pub loop-field-preserved : goal.loop-field-preserved
loop-field-preserved g c = λ n.
    let names = field_names (take c.loop-field.field-index c.args.fields.now) in
    is_among-more c.as_str.result c.loop-field.names c.insert.new.self names c.in_ok-insert.ensures.updates c.loop-field.invariant n
    ∙ ap (λ k. is_among (names ++ k ∷ []) n) c.as_str.ensures.value
    ∙ ap (λ xs. is_among xs n) (sym (map_more (λ a. string_bytes a.name) c.args.fields.now c.loop-field.field-index c.field-item.result c.loop-field-test.true c.field-item.is))
