use Rattle.std.proofs.lemmas.Result.{IfOk-weaker}
use Rattle.answers.specs.Answers.{of_values, of_no_values}
use Rattle.answers.proofs.values.answer_of_values.Goals as goal

-- the values were read
pub returns-in-Ok : goal.returns-in-Ok
returns-in-Ok c = IfOk-weaker c.answer_of_faults.result _ _ (λ told h. of_values c.in-Ok.values h) c.answer_of_faults.ensures

-- they were not
pub returns-in-Err : goal.returns-in-Err
returns-in-Err c = IfOk-weaker c.no_values.result _ _ (λ told h. of_no_values h) c.no_values.ensures
