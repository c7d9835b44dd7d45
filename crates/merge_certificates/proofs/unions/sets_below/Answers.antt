use Rattle.std.proofs.Common.{◌≡◌, ◌++◌, ◌∷◌, [], ℕ, Some, take, get_or, ap, sym, subst, ◌∙◌}
use Rattle.std.specs.List.{Contains}
use Rattle.std.proofs.lemmas.List.{take_all}
use Rattle.std.proofs.lemmas.List.Elements.{All-more, All-weaker, Contains-append_left, Contains-push}
use Rattle.merge_sets.specs.declared.node.Entry.{Entry}
use Rattle.merge_certificates.specs.Quiet.{HoldBelow}
use Rattle.merge_sets.proofs.Laws.{same_some, clash_some}
use Rattle.merge_sets.proofs.OneName.{no_entry}
use Rattle.merge_certificates.proofs.unions.sets_below.Goals as goal
use Rattle.merge_certificates.proofs.unions.sets_below.Goals.{in-Some+in_ok-push, in_default}

pub loop-field-preserved : goal.loop-field-preserved
loop-field-preserved c =
    let fields = c.args.fields.now in
    let n = c.loop-field.field-index in
    let old = c.loop-field.sets.items in
    let new = c.match-field.sets.items in
    let a = get_or fields n no_entry in
    elim c.match-field.branch [
      | in-Some+in_ok-push w ↦
          let s = w.in-Some.s in
          let is : new ≡ old ++ s ∷ [] = ap (λ v. v.items) w.sets-is ∙ w.in_ok-push.ensures.items in
          All-more (λ (y : Entry). (t : ℕ) → y.below ≡ Some t → Contains new t) fields n no_entry c.loop-field-test.true
          (All-weaker (λ (y : Entry). (t : ℕ) → y.below ≡ Some t → Contains old t) (λ (y : Entry). (t : ℕ) → y.below ≡ Some t → Contains new t)
          (λ y h t p. subst (λ zs. Contains zs t) (sym is) (Contains-append_left old (s ∷ []) t (h t p))) (take n fields) c.loop-field.invariant)
          (λ t p. subst (λ zs. Contains zs t) (sym is) (subst (λ (u : ℕ). Contains (old ++ s ∷ []) u) (same_some s t a.below w.in-Some.is p) (Contains-push old s)))
      | in_default w ↦
          let is : new ≡ old = ap (λ v. v.items) w.sets-is in
          All-more (λ (y : Entry). (t : ℕ) → y.below ≡ Some t → Contains new t) fields n no_entry c.loop-field-test.true
          (subst (λ zs. HoldBelow zs (take n fields)) (sym is) c.loop-field.invariant)
          (λ t p. absurd (clash_some t a.below p w.in_default.is))
    ]

pub returns : goal.returns
returns c = subst (λ zs. HoldBelow c.loop-field.sets.items zs) (take_all c.loop-field.field-index c.args.fields.now c.loop-field-test.false) c.loop-field.invariant
