use Rattle.variable_values.proofs.Accepted as lemma
use Rattle.variable_values.proofs.laws.accepted_where_asked.Goals as goal

pub returns : goal.returns
returns g c = λ schema. lemma.accepted_where_asked schema g.S.CheckedScalar.may_answer g.S.ScalarValue.text g.S.ScalarValue.str_of
