use Rattle.std.proofs.Common.{◌≡◌, Some, ap, sym, ◌∙◌}
use Rattle.language_values.specs.declared.value.InputValue.{InputValue, out-InputValue, out-roll-InputValue, roll-InputValue}
use Rattle.language_values.specs.declared.value.InputValue.TheOpen as v
use Rattle.language_values.specs.declared.value.InputValue.TheVariants as variant
use Rattle.literals.specs.Rows.{item_count}
use Rattle.literals.proofs.rows.count_items.Goals as goal

counted : {S : Type 0} (value : InputValue S) (x : v.InputValue-F S (InputValue S)) → value ≡ roll-InputValue S x
    → item_count x ≡ item_count (out-InputValue S value)
counted {S} value x e = sym (ap (λ u. item_count (out-InputValue S u)) e ∙ ap item_count (out-roll-InputValue S x))

pub returns-in-Null : goal.returns-in-Null
returns-in-Null g c = counted c.args.value.now v.Null (c.in-Null.is ∙ sym variant.rolls-Null)

pub returns-in-Variable : goal.returns-in-Variable
returns-in-Variable g c =
    let x = c.in-Variable.field-0 in
    counted c.args.value.now (v.Variable x) (c.in-Variable.is ∙ sym (variant.rolls-Variable x))

pub returns-in-List : goal.returns-in-List
returns-in-List g c =
    let items = c.in-List.items in
    ap Some (c.len.ensures ∙ items.ok.0) ∙ counted c.args.value.now (v.List items) (c.in-List.is ∙ sym (variant.rolls-List items))

pub returns-in-Scalar : goal.returns-in-Scalar
returns-in-Scalar g c =
    let x = c.in-Scalar.field-0 in
    counted c.args.value.now (v.Scalar x) (c.in-Scalar.is ∙ sym (variant.rolls-Scalar x))

pub returns-in-Enum : goal.returns-in-Enum
returns-in-Enum g c =
    let x = c.in-Enum.field-0 in
    counted c.args.value.now (v.Enum x) (c.in-Enum.is ∙ sym (variant.rolls-Enum x))

pub returns-in-Object : goal.returns-in-Object
returns-in-Object g c =
    let x = c.in-Object.field-0 in
    counted c.args.value.now (v.Object x) (c.in-Object.is ∙ sym (variant.rolls-Object x))
