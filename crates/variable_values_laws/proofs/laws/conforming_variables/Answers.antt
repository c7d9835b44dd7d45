use Rattle.variable_values_laws.proofs.Operations.{no_error}
use Rattle.variable_values_laws.proofs.laws.conforming_variables.Goals as goal

pub returns : goal.returns
returns g c = λ schema. no_error schema g.S.CheckedScalar.may_answer g.S.ScalarValue.text g.S.ScalarValue.str_of g.met.S.CheckedScalar.one_answer
