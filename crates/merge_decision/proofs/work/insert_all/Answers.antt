use Rattle.std.proofs.Common.{ℕ, inl, inr, sym, subst, ◌∙◌, get_or}
use Rattle.std.specs.List.{Contains}
use Rattle.std.proofs.lemmas.Bool.{cases_eq}
use Rattle.std.proofs.lemmas.List.Elements.{Contains-get_or}
use Rattle.merge_decision.proofs.work.insert_all.Goals as goal

pub loop-s-preserved : goal.loop-s-preserved
loop-s-preserved c = λ t h.
    let list = c.args.sets.now in
    let n = get_or list c.loop-s.s-index 0 in
    elim (cases_eq t n) [
      | inl is ↦ inr (subst (λ (k : ℕ). Contains list k) (sym is) (Contains-get_or list c.loop-s.s-index 0 c.loop-s-test.true))
      | inr other ↦ c.loop-s.invariant t (sym (c.in_ok-insert.ensures.others t other) ∙ h)
    ]
