use Rattle.std.proofs.Common.{sym, ap, ◌≡◌, ◌∙◌, ◌++◌, ◌∷◌, [], true, false, append-nil, string_bytes}
use Rattle.language_types.specs.Types.{borrowed_shape, shape}
use Rattle.type_system_report.specs.declared.fault.CoordinateOf.TheVariants as at
use Rattle.type_system_report.specs.declared.fault.FaultKindOf.TheVariants as k
use Rattle.type_system_report.specs.Fault.{fault_if, reported}
use Rattle.type_system.specs.OutputTypes.{is_input_object_named}
use Rattle.type_system.proofs.output_types.report_wrong_output_type.Goals as goal

pub returns-in_ok-report : goal.returns-in_ok-report
returns-in_ok-report g c =
    let old = reported c.args.faults.now in
    let field = c.args.field.now in
    let schema = c.args.schema.now in
    let yes : is_input_object_named schema (shape field.field_type).name ≡ true = ap (λ n. is_input_object_named schema n) (sym c.innermost_name.ensures) ∙ sym c.is_input_object_named.ensures ∙ c.if-is_input_object_named.true in
    c.in_ok-report.ensures
    ∙ ap (λ n. old ++ record { coordinate = at.Field c.args.of.now n; kind = k.NotOutputType (borrowed_shape c.as_borrowed.result) } ∷ []) c.as_str.ensures.value
    ∙ ap (λ t. old ++ record { coordinate = at.Field c.args.of.now (string_bytes field.name); kind = k.NotOutputType t } ∷ []) c.as_borrowed.ensures
    ∙ ap (λ b. old ++ fault_if b (at.Field c.args.of.now (string_bytes field.name)) (k.NotOutputType (shape field.field_type))) (sym yes)

pub returns-else-is_input_object_named : goal.returns-else-is_input_object_named
returns-else-is_input_object_named g c =
    let old = reported c.args.faults.now in
    let field = c.args.field.now in
    let schema = c.args.schema.now in
    let no : is_input_object_named schema (shape field.field_type).name ≡ false = ap (λ n. is_input_object_named schema n) (sym c.innermost_name.ensures) ∙ sym c.is_input_object_named.ensures ∙ c.if-is_input_object_named.false in
    sym (append-nil old) ∙ ap (λ b. old ++ fault_if b (at.Field c.args.of.now (string_bytes field.name)) (k.NotOutputType (shape field.field_type))) (sym no)
