use Rattle.std.proofs.Common.{◌≡◌, ℕ, ◌+◌, ◌++◌, ap, sym, ◌∙◌, subst, refl, map, string_bytes, drop_of_length-le}
use Rattle.std.specs.List.{list_all}
use Rattle.events.specs.Node.{VariableEntry}
use Rattle.schema_validation.proofs.Finds.{all-at}
use Rattle.variable_values.specs.InTurn.{InTurn}
use Rattle.variable_values.specs.Inputs.{has_input_type, is_input_in}
use Rattle.variable_values.specs.Messages.{OfDefinition, error_at, texts_of}
use Rattle.variable_values.proofs.InTurns.{Done, done_all, done_more}
use Rattle.variable_values.proofs.variables.validate_input_values.Goals as goal

pub messages_of-requires : goal.messages_of-requires
messages_of-requires g c =
    let schema = c.args.schema.now in
    let items = c.definitions_of-name-items.result.now in
    all-at (has_input_type schema) items c.loop-name-item.result (ap (list_all (has_input_type schema)) c.definitions_of-name-items.ensures ∙ c.requires.known) (c.loop-name.name-index, c.loop-name-test.true, sym c.loop-name-item.is)

pub loop-name-preserved : goal.loop-name-preserved
loop-name-preserved g c =
    let schema = c.args.schema.now in
    let may = g.S.CheckedScalar.may_answer in
    let text = g.S.ScalarValue.text in
    let str_of = g.S.ScalarValue.str_of in
    let values = c.args.values.now in
    let items = c.definitions_of-name-items.result.now in
    let d = c.loop-name-item.result in
    let gives = λ (i : ℕ) (e : VariableEntry g.row.S.Denot). OfDefinition schema may text str_of values e in
    let messages = c.in_ok-messages.messages in
    let errors = map (error_at d.0.span.start) (texts_of messages) in
    let all : c.add_errors.new.errors.items ≡ c.loop-name.errors.items ++ errors = c.in_ok-add_errors.ensures ∙ ap (λ ms. c.loop-name.errors.items ++ map (error_at d.0.span.start) (map string_bytes ms)) c.as_slice.ensures.value in
    subst (Done gives items (c.loop-name.name-index + 1)) (sym all)
    (done_more gives items c.loop-name.name-index d c.loop-name.errors.items errors c.loop-name-test.true c.loop-name-item.is c.loop-name.invariant (texts_of messages, c.in_ok-messages.ensures, refl))

pub returns-clause-faults : goal.returns-clause-faults
returns-clause-faults g c =
    let gives = λ (i : ℕ) (e : VariableEntry g.row.S.Denot). OfDefinition c.args.schema.now g.S.CheckedScalar.may_answer g.S.ScalarValue.text g.S.ScalarValue.str_of c.args.values.now e in
    let items = c.definitions_of-name-items.result.now in
    let es = c.loop-name.errors.items in (
      es,
      subst (λ ds. InTurn gives 0 ds es) c.definitions_of-name-items.ensures (done_all gives items c.loop-name.name-index es (drop_of_length-le items c.loop-name-test.false) c.loop-name.invariant),
      c.sort.ensures.permutation,
    )
