use Rattle.std.proofs.Common.{subst, sym}
use Rattle.std.proofs.lemmas.Result.{IfOk-weaker}
use Rattle.answers.specs.Answers.{FaultsIn}
use Rattle.answers.proofs.values.answer_of_faults.Goals as goal

pub returns : goal.returns
returns c =
    let are = subst (FaultsIn c.args.schema.now c.args.values.now c.args.document.now) (sym c.as_slice.ensures.value) c.in_ok-faults.ensures in
    IfOk-weaker c.answer_of_errors.result _ _ (λ told h. record { faults = c.as_slice.result.now; are_faults = are; told = h }) c.answer_of_errors.ensures
