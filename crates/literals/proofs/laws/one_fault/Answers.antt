use Rattle.language_values.specs.ValuesPrinted.{printed_value}
use Rattle.literals.proofs.OneFault as lemma
use Rattle.literals.proofs.laws.one_fault.Goals as goal

pub returns : goal.returns
returns g c = λ schema. lemma.one_fault schema g.S.CheckedScalar.may_answer (printed_value g.S.ScalarValue.text g.S.ScalarValue.str_of) g.met.S.CheckedScalar.one_answer
