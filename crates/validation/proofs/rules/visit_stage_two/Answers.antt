use Rattle.std.proofs.Common.{◌≡◌, ◌≤◌, ℕ, inl, inr, subst, sym}
use Rattle.rules_merge.specs.OverlappingFieldsCanBeMerged.{ErrorsWithin}
use Rattle.validation.proofs.Stages.{fewer_asked, some_kept}
use Rattle.validation.proofs.rules.visit_stage_two.Goals as goal

pub returns-in-Ok-clause-appended : goal.returns-in-Ok-clause-appended
returns-in-Ok-clause-appended g c = λ known.
    let (es, told, e) = c.in-Ok.ensures.ok in
    let rule = c.leave_within.new.self in
    let here = subst (λ document. ErrorsWithin g.S.PartialEq.eq c.enough_for-enough.result c.args.ctx.now.schema document rule es) c.shorten.ensures told in
    (es, rule, elim here [ inl all ↦ inl all | inr stopped ↦ inr (some_kept c.args.ctx.now.limit c.enough_for-enough.result (subst (λ (n : ℕ). n ≡ 0 → c.enough_for-enough.result ≡ 0) c.limit.ensures c.enough_for-enough.ensures.all) stopped.0, fewer_asked (subst (λ (n : ℕ). n ≤ c.enough_for-enough.result) c.limit.ensures c.enough_for-enough.ensures.some) stopped.1) ], sym c.compared.ensures, e)

pub returns-in-Ok-clause-only : goal.returns-in-Ok-clause-only
returns-in-Ok-clause-only g c =
    let (es, told, e) = c.in-Ok.ensures.ok in
    (es, tt, e)
