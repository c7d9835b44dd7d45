use Rattle.variable_values.proofs.OneList.{one_list}
use Rattle.variable_values.proofs.laws.one_list_of_faults.Goals as goal

pub returns : goal.returns
returns g c = λ schema. one_list schema g.S.CheckedScalar.may_answer g.S.ScalarValue.text g.S.ScalarValue.str_of g.met.S.CheckedScalar.one_answer
