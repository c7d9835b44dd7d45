use Rattle.variable_values_laws.proofs.Operations.{faultless, none_iff}
use Rattle.variable_values_laws.proofs.laws.faultless_values_conform.Goals as goal

pub returns-clause-faultless : goal.returns-clause-faultless
returns-clause-faultless g c = λ schema. faultless schema g.S.CheckedScalar.may_answer g.S.ScalarValue.text g.S.ScalarValue.str_of

pub returns-clause-collection : goal.returns-clause-collection
returns-clause-collection g c = λ schema. none_iff schema g.S.CheckedScalar.may_answer g.S.ScalarValue.text g.S.ScalarValue.str_of g.met.S.CheckedScalar.one_answer
