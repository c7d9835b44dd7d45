use Rattle.std.proofs.Common.{Err, refl, subst}
use Rattle.variable_values.proofs.faults.refusal.Goals as goal

-- the text of the refusal is its own
pub returns-in-Err-Refused : goal.returns-in-Err-Refused
returns-in-Err-Refused g c =
    let may = g.S.CheckedScalar.may_answer in
    let value = c.args.value.now in (
      c.in-Err-Refused.why,
      refl,
      subst (λ e. may c.args.check.now value (Err e)) c.in-Err-Refused.field-0-is (subst (may c.args.check.now value) c.in-Err-Refused.is c.run_check.ensures),
    )
