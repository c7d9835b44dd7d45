use Rattle.variable_values_laws.proofs.Operations as lemma
use Rattle.variable_values_laws.proofs.laws.one_answer.Goals as goal

pub returns-clause-alone : goal.returns-clause-alone
returns-clause-alone g c = λ schema. lemma.one_answer schema g.S.CheckedScalar.may_answer g.S.ScalarValue.text g.S.ScalarValue.str_of g.met.S.CheckedScalar.one_answer

pub returns-clause-empty : goal.returns-clause-empty
returns-clause-empty g c = λ schema. lemma.empty_iff schema g.S.CheckedScalar.may_answer g.S.ScalarValue.text g.S.ScalarValue.str_of g.met.S.CheckedScalar.one_answer
