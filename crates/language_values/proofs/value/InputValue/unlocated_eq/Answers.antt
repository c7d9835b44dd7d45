use Rattle.std.proofs.Common.{◌∙◌, ap, sym}
use Rattle.language_values.specs.ValuesEqual.{unlocated_eq}
use Rattle.language_values.proofs.ValueLaws.{unlocated_eq-reflexive, unlocated_eq-symmetric}
use Rattle.language_values.proofs.value.InputValue.unlocated_eq.Goals as goal

pub returns-clause-reflexive : goal.returns-clause-reflexive
returns-clause-reflexive g c = λ same.
    c.values_match.ensures
    ∙ ap (unlocated_eq g.S.PartialEq.eq c.args.self.now) (sym same)
    ∙ unlocated_eq-reflexive g.S.PartialEq.eq g.met.S.Eq.laws c.args.self.now

pub returns-clause-symmetric : goal.returns-clause-symmetric
returns-clause-symmetric g c = λ left right.
    c.values_match.ensures
    ∙ unlocated_eq-symmetric g.S.PartialEq.eq g.met.S.Eq.laws c.args.self.now c.args.other.now left right
