use Rattle.std.proofs.Common.{arith, Bool, ℕ, refl, subst, ap, ◌∙◌}
use Rattle.std.specs.Bool.{OnTrue}
use Rattle.std.specs.Option.{IfSome}
use Rattle.merge_certificates.specs.declared.quiet.Apart.{Apart}
use Rattle.merge_certificates.specs.Quiet.{AllMergeBut, AllQuietBut, Covers, HoldAll}
use Rattle.merge_sets.specs.World.{world}
use Rattle.merge_certificates.proofs.Merged.{quiet_popped, sets_merged}
use Rattle.merge_certificates.proofs.quiet.are_quiet_but.Goals as goal

pub loop-rest-init : goal.loop-rest-init
loop-rest-init g c = (λ none. refl, λ m covers all. all, omega arith, refl)

pub loop-rest-preserved : goal.loop-rest-preserved
loop-rest-preserved g c =
    let v = world g.J.Judge.judgement c.args.graph.now in
    let rest = c.pop.new.self.items in
    let own = c.in-Some-2.set.own.items in
    let next = c.in-Some.next in
    let x = next.flag in
    let told = c.in_ok-is_quiet_set.ensures in
    let step = subst (λ b. OnTrue b ((m : ℕ → Bool) → Covers m c.is_quiet_set.new.apart.names → AllQuietBut v m c.is_quiet_set.new.waiting.items → AllQuietBut v m rest × AllMergeBut v m x own)) c.if-not-branch.false told.quiet in
    let held = subst (λ o. IfSome o (λ p. HoldAll v c.as_slice.result.now p.0.own.items)) c.in-Some-2.is c.in_ok-set.ensures in
    let hold = subst (λ zs. HoldAll v zs own) c.as_slice.ensures.value held in (
      λ none.
          let before = c.loop-rest.invariant.0 none in
          told.full (ap (λ (a : Apart). a.room) before ∙ none) ∙ before,
      λ m covers all.
          let z = step m covers all in
          c.loop-rest.invariant.1 m (λ n h. covers n (told.kept n h)) (quiet_popped v m rest c.loop-rest.waiting.items next c.in-Some.ensures.items z.0 (sets_merged v m x next.sets.items own hold z.1)),
      omega (arith, c.loop-rest.invariant.2, c.is_quiet_set.ensures.spent, c.loop-rest-test.true),
      c.loop-rest.invariant.3,
    )
