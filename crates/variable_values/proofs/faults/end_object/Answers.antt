use Rattle.std.proofs.lemmas.Result.{on_ok_weaker}
use Rattle.variable_values.specs.Places.{before_path}
use Rattle.variable_values.proofs.BegunLaws.{ends_checked, ends_unchecked}
use Rattle.variable_values.proofs.faults.end_object.Goals as goal

pub returns-then-len-of : goal.returns-then-len-of
returns-then-len-of g c =
    on_ok_weaker c.add_refusal_of_object.result
    (ends_checked g.S.CheckedScalar.may_answer g.S.ScalarValue.text g.S.ScalarValue.str_of c.args.of (before_path c.args.variable.now c.args.steps.now) c.args.messages.now c.add_unknown_keys.new.messages c.add_refusal_of_object.new.messages
    c.len.result c.as_slice.result.now c.as_slice.ensures.value c.in_ok-add_unknown_keys.ensures c.len.ensures c.if-len-of.true)
    c.add_refusal_of_object.ensures

pub returns : goal.returns
returns g c =
    ends_unchecked g.S.CheckedScalar.may_answer g.S.ScalarValue.text g.S.ScalarValue.str_of c.args.of (before_path c.args.variable.now c.args.steps.now) c.args.messages.now c.add_unknown_keys.new.messages
    c.len.result c.as_slice.result.now c.as_slice.ensures.value c.in_ok-add_unknown_keys.ensures c.len.ensures c.if-len-of.false
