use Rattle.std.proofs.Common.{◌≡◌, Some, None, Vec, is_some, true, refl, sym, ◌∙◌, ap, string_bytes, option_map}
use Rattle.std.proofs.lemmas.Result.{IfOk-weaker}
use Rattle.std.specs.declared.alloc.Global.{Global}
use Rattle.language_types.specs.declared.position.Span.{Span}
use Rattle.language_types.specs.declared.position.Spanning.{Spanning}
use Rattle.language_values.specs.declared.value.InputValue.{InputValue, out-InputValue, roll-InputValue, roll-out-InputValue}
use Rattle.language_values.specs.declared.value.InputValue.TheOpen as v
use Rattle.language_values.specs.declared.value.InputValue.TheVariants as variant
use Rattle.language_values.specs.Values.{items_layer, list_items}
use Rattle.language_values.specs.ValuesPrinted.{printed_value}
use Rattle.schema.specs.Wrapped.{plain_meta}
use Rattle.literals.specs.Begun.{IsKnown}
use Rattle.literals.specs.Expected.{expected_type}
use Rattle.literals.specs.Judged.{Judged}
use Rattle.literals.proofs.BegunLaws.{all_more, leads_as, leads_begun, leads_here}
use Rattle.literals.proofs.ObjectLaws.{says_items}
use Rattle.literals.proofs.judged.begin.Goals as goal

module _ {S : Type 0} (value : InputValue S) (none : (xs : Vec (Spanning (InputValue S) Span) Global) → value ≡ variant.List xs → ⊥) where
  unlisted_at : (x : v.InputValue-F S (InputValue S)) → value ≡ roll-InputValue S x → is_some (items_layer x) ≡ true → ⊥
  unlisted_at v.Null e l = cc
  unlisted_at (v.Scalar s) e l = cc
  unlisted_at (v.Enum s) e l = cc
  unlisted_at (v.Variable s) e l = cc
  unlisted_at (v.List xs) e l = none xs (e ∙ variant.rolls-List xs)
  unlisted_at (v.Object s) e l = cc

  -- what is no list has no items
  unlisted : is_some (list_items value) ≡ true → ⊥
  unlisted l = unlisted_at (out-InputValue S value) (sym (roll-out-InputValue S value)) l

pub begin_plain-requires : goal.begin_plain-requires
begin_plain-requires g c =
    let known = c.requires.known in
    record { known = (known.0, known.1 ∙ ap (λ m. Some m) (sym c.in-Plain.ensures.metadata)) }

pub returns-in-Conforms-clause-leads : goal.returns-in-Conforms-clause-leads
returns-in-Conforms-clause-leads g c =
    let may = g.S.CheckedScalar.may_answer in
    let shown = printed_value g.S.ScalarValue.text g.S.ScalarValue.str_of in
    let schema = c.args.schema.now in
    leads_here schema may shown c.args.begun.now.items None (Judged schema may shown c.args.value.now (expected_type c.args.expected)) (c.in-Conforms.ensures.row schema None refl)

pub returns-in_ok-null_fault-in-Null-clause-leads : goal.returns-in_ok-null_fault-in-Null-clause-leads
returns-in_ok-null_fault-in-Null-clause-leads g c =
    let may = g.S.CheckedScalar.may_answer in
    let shown = printed_value g.S.ScalarValue.text g.S.ScalarValue.str_of in
    let schema = c.args.schema.now in
    let fault = Some (string_bytes c.in_ok-null_fault-in-Null.field-0) in
    leads_here schema may shown c.args.begun.now.items fault (Judged schema may shown c.args.value.now (expected_type c.args.expected)) (c.in-Null.ensures.row schema fault (ap (λ s. Some s) c.in_ok-null_fault-in-Null.ensures))

pub returns-in_ok-length_fault-in-Length-clause-leads : goal.returns-in_ok-length_fault-in-Length-clause-leads
returns-in_ok-length_fault-in-Length-clause-leads g c =
    let may = g.S.CheckedScalar.may_answer in
    let shown = printed_value g.S.ScalarValue.text g.S.ScalarValue.str_of in
    let schema = c.args.schema.now in
    let fault = Some (string_bytes c.in_ok-length_fault-in-Length.field-0) in
    leads_here schema may shown c.args.begun.now.items fault (Judged schema may shown c.args.value.now (expected_type c.args.expected)) (c.in-Length.ensures.row schema fault (ap (λ s. Some s) c.in_ok-length_fault-in-Length.ensures))

pub returns-in_ok-push-in-List-clause-leads : goal.returns-in_ok-push-in-List-clause-leads
returns-in_ok-push-in-List-clause-leads g c =
    let may = g.S.CheckedScalar.may_answer in
    let shown = printed_value g.S.ScalarValue.text g.S.ScalarValue.str_of in
    let schema = c.args.schema.now in
    leads_begun schema may shown c.args.begun.now.items _ _ (Judged schema may shown c.args.value.now (expected_type c.args.expected)) c.in_ok-push-in-List.ensures.items
    (λ fault h. c.in-Items.ensures.row schema fault
    (says_items schema may shown c.args.value.now c.in-List.items c.as_slice.result.now (expected_type c.in-Items.inner) fault c.in-List.is c.as_slice.ensures.value h))

pub returns-in-Plain-clause-leads : goal.returns-in-Plain-clause-leads
returns-in-Plain-clause-leads g c =
    let may = g.S.CheckedScalar.may_answer in
    let shown = printed_value g.S.ScalarValue.text g.S.ScalarValue.str_of in
    let schema = c.args.schema.now in
    let value = c.args.value.now in
    IfOk-weaker c.begin_plain.result _ _
    (λ a. leads_as schema may shown c.begin_plain.new.begun.items c.args.begun.now.items (option_map string_bytes a) (Judged schema may shown value (plain_meta c.in-Plain.meta.now)) (Judged schema may shown value (expected_type c.args.expected))
    (λ fault h. c.in-Plain.ensures.row schema fault h))
    c.begin_plain.ensures.leads

pub returns-in-Conforms-clause-known : goal.returns-in-Conforms-clause-known
returns-in-Conforms-clause-known g c = λ all. all

pub returns-in_ok-null_fault-in-Null-clause-known : goal.returns-in_ok-null_fault-in-Null-clause-known
returns-in_ok-null_fault-in-Null-clause-known g c = λ all. all

pub returns-in_ok-length_fault-in-Length-clause-known : goal.returns-in_ok-length_fault-in-Length-clause-known
returns-in_ok-length_fault-in-Length-clause-known g c = λ all. all

pub returns-in_ok-push-in-List-clause-known : goal.returns-in_ok-push-in-List-clause-known
returns-in_ok-push-in-List-clause-known g c = λ all.
    let known = c.requires.known in
    all_more (IsKnown c.args.schema.now) c.args.begun.now.items _ _ c.in_ok-push-in-List.ensures.items
    (known.0, known.1 ∙ ap (λ m. Some m) (sym c.in-Items.ensures.metadata)) all

pub returns-in-Plain-clause-known : goal.returns-in-Plain-clause-known
returns-in-Plain-clause-known g c = c.begin_plain.ensures.known

pub unreachable-requires : goal.unreachable-requires
unreachable-requires g c = unlisted c.args.value.now c.in_default.not-List c.in-Items.ensures.items
