use Rattle.std.proofs.Common.{inl, inr, arith}
use Rattle.std.proofs.lemmas.Result.{IfOk-weaker}
use Rattle.rules_merge.proofs.overlapping_fields_can_be_merged.OverlappingFieldsCanBeMerged.leave.Goals as goal

pub returns-clause-ok : goal.returns-clause-ok
returns-clause-ok g c =
    IfOk-weaker c.leave_within.result _ _
    (λ x told.
    let (es, within, appended) = told in
    (es, elim within [ inl all ↦ all | inr stopped ↦ absurd (omega (arith, stopped.0)) ], appended))
    c.leave_within.ensures.ok
