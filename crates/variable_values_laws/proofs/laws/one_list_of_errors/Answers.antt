use Rattle.variable_values_laws.proofs.Operations as lemma
use Rattle.variable_values_laws.proofs.laws.one_list_of_errors.Goals as goal

pub returns : goal.returns
returns g c = λ schema. lemma.one_list_of_errors schema g.S.CheckedScalar.may_answer g.S.ScalarValue.text g.S.ScalarValue.str_of g.met.S.CheckedScalar.one_answer
