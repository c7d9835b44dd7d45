use Rattle.variable_values_laws.proofs.Operations.{accepted_where}
use Rattle.variable_values_laws.proofs.laws.accepted_where_conforming.Goals as goal

pub returns : goal.returns
returns g c = λ schema. accepted_where schema g.S.CheckedScalar.may_answer g.S.ScalarValue.text g.S.ScalarValue.str_of
