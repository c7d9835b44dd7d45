use Rattle.std.proofs.Common.{◌≡◌, ◌++◌, ◌∷◌, [], ℕ, take, get_or, inl, inr, sym, subst, ◌∙◌, ap, arith}
use Rattle.std.specs.List.{All, Contains}
use Rattle.std.proofs.lemmas.List.{take_all, length-take}
use Rattle.std.proofs.lemmas.List.Elements.{All-more, All-weaker, Contains-append_left, Contains-get_or, Contains-push, Contains-push_cases}
use Rattle.merge_sets.specs.World.{world, set_of}
use Rattle.merge_certificates.proofs.quiet.add_sets.Goals as goal

pub loop-f-init : goal.loop-f-init
loop-f-init g c = (λ s h. h, λ k d l. absurd (omega (arith, length-take 0 c.args.fragments.now, l)), λ s h. inl h)

pub loop-f-preserved : goal.loop-f-preserved
loop-f-preserved g c =
    let v = world g.J.Judge.judgement c.args.graph.now in
    let old = c.loop-f.sets.items in
    let new = c.push.new.self.items in
    let f = get_or c.args.fragments.now c.loop-f.f-index 0 in
    let one = set_of v f in
    let is : new ≡ old ++ one ∷ [] = c.in_ok-push.ensures.items ∙ ap (λ (s : ℕ). old ++ s ∷ []) c.set.ensures in
    let kept : (s : ℕ) → Contains old s → Contains new s = λ s h. subst (λ zs. Contains zs s) (sym is) (Contains-append_left old (one ∷ []) s h) in (
      λ s h. kept s (c.loop-f.invariant.0 s h),
      All-more (λ h. Contains new (set_of v h)) c.args.fragments.now c.loop-f.f-index 0 c.loop-f-test.true
          (All-weaker (λ h. Contains old (set_of v h)) (λ h. Contains new (set_of v h)) (λ h i. kept (set_of v h) i) (take c.loop-f.f-index c.args.fragments.now) c.loop-f.invariant.1)
          (subst (λ zs. Contains zs one) (sym is) (Contains-push old one)),
      λ s h. elim (Contains-push_cases old one s (subst (λ zs. Contains zs s) is h)) [
        | inl before ↦ c.loop-f.invariant.2 s before
        | inr same ↦ inr (f, Contains-get_or c.args.fragments.now c.loop-f.f-index 0 c.loop-f-test.true, sym same)
      ],
    )

pub returns-clause-kept : goal.returns-clause-kept
returns-clause-kept g c = c.loop-f.invariant.0

pub returns-clause-added : goal.returns-clause-added
returns-clause-added g c =
    let v = world g.J.Judge.judgement c.args.graph.now in
    subst (λ zs. All (λ f. Contains c.loop-f.sets.items (set_of v f)) zs) (take_all c.loop-f.f-index c.args.fragments.now c.loop-f-test.false) c.loop-f.invariant.1

pub returns-clause-only : goal.returns-clause-only
returns-clause-only g c = c.loop-f.invariant.2
