use Rattle.language_values.specs.ValuesPrinted.{printed_value}
use Rattle.literals.proofs.SomeFault as lemma
use Rattle.literals.proofs.laws.some_fault.Goals as goal

pub returns : goal.returns
returns g c = λ schema all. lemma.some_fault schema g.S.CheckedScalar.may_answer (printed_value g.S.ScalarValue.text g.S.ScalarValue.str_of) all
