use Rattle.std.proofs.Common.{◌≡◌, ◌+◌, ◌++◌, ◌∷◌, [], ℕ, Bool, true, false, not, inl, inr, ap, arith, get_or, refl, subst, sym, take, ◌∙◌}
use Rattle.std.specs.List.{All}
use Rattle.std.proofs.lemmas.Bool.{cases_eq}
use Rattle.std.proofs.lemmas.List.{take_all}
use Rattle.std.proofs.lemmas.List.Elements.{All-nil, All-push, All-weaker}
use Rattle.bit_matrix.specs.Set.{has}
use Rattle.merge_sets.specs.Names.{AreListed, HaveOwnNames}
use Rattle.merge_sets.specs.declared.node.Entry.{Entry}
use Rattle.merge_sets.proofs.Laws.{clash}
use Rattle.merge_sets.proofs.Marks.{stays}
use Rattle.merge_sets.proofs.Naming.{Lists, new_lists, next_listed, next_passed, still_lists, own_names_none, own_names_push}
use Rattle.merge_sets.proofs.OneName.{no_entry}
use Rattle.merge_sets.proofs.groups.list_firsts.Goals as goal
use Rattle.merge_sets.proofs.groups.list_firsts.Goals.{then-branch+in_ok-push, else-branch}

pub loop-field-init : goal.loop-field-init
loop-field-init c = (
  λ k d l. absurd (omega (arith, l)),
  λ n h. absurd (clash (has c.new-seen.result n) h (c.new-seen.ensures n)),
  subst (λ zs. All (λ (f : Entry). has c.new-seen.result f.response ≡ true) zs) (sym c.in_ok-firsts.ensures.items) (All-nil (λ (f : Entry). has c.new-seen.result f.response ≡ true)),
  subst HaveOwnNames (sym c.in_ok-firsts.ensures.items) own_names_none,
)

was_new : (b x : Bool) → b ≡ not x → b ≡ true → x ≡ false
was_new b true h k = cc
was_new b false h k = refl

was_there : (b x : Bool) → b ≡ not x → b ≡ false → x ≡ true
was_there b true h k = refl
was_there b false h k = cc

pub loop-field-preserved : goal.loop-field-preserved
loop-field-preserved c =
    let own = c.args.own.now in
    let k = c.loop-field.field-index in
    let x : Entry = get_or own k no_entry in
    let old = c.loop-field.firsts.items in
    let new = c.if-branch.firsts.items in
    let before = c.loop-field.seen in
    let after = c.insert.new.self in
    let told = c.in_ok-insert.ensures in
    let kept : (n : ℕ) → has before n ≡ true → has after n ≡ true = λ n h. stays before after x.response told.there told.others n h in
    let back : (n : ℕ) → (n ≡ x.response → ⊥) → has after n ≡ true → has before n ≡ true = λ n apart h. sym (told.others n apart) ∙ h in
    elim c.if-branch.branch [
      | then-branch+in_ok-push w ↦
          let fresh : has before x.response ≡ false = was_new c.in_ok-insert.field-0 (has before x.response) told.fresh w.if-branch.true in
          let is : new ≡ old ++ x ∷ [] = ap (λ v. v.items) w.firsts-is ∙ w.in_ok-push.ensures.items in
          let wide : All (λ (f : Entry). has after f.response ≡ true) old = All-weaker (λ (f : Entry). has before f.response ≡ true) (λ (f : Entry). has after f.response ≡ true) (λ f h. kept f.response h) old c.loop-field.invariant.2 in (
            subst (λ zs. AreListed zs (take (k + 1) own)) (sym is) (next_listed own k c.loop-field-test.true old c.loop-field.invariant.0),
            λ n h. subst (λ zs. Lists zs n) (sym is) (elim (cases_eq n x.response) [
              | inl same ↦ subst (λ (m : ℕ). Lists (old ++ x ∷ []) m) (sym same) (new_lists old x)
              | inr apart ↦ still_lists old x n (c.loop-field.invariant.1 n (back n apart h))
            ]),
            subst (λ zs. All (λ (f : Entry). has after f.response ≡ true) zs) (sym is) (All-push (λ (f : Entry). has after f.response ≡ true) old x wide told.there),
            subst HaveOwnNames (sym is) (own_names_push old x c.loop-field.invariant.3
                (All-weaker (λ (f : Entry). has before f.response ≡ true) (λ (f : Entry). f.response ≡ x.response → ⊥)
                (λ f h same. clash (has before x.response) (subst (λ (n : ℕ). has before n ≡ true) same h) fresh) old c.loop-field.invariant.2)),
          )
      | else-branch w ↦
          let there : has before x.response ≡ true = was_there c.in_ok-insert.field-0 (has before x.response) told.fresh w.if-branch.false in
          let is : new ≡ old = ap (λ v. v.items) w.firsts-is in (
            subst (λ zs. AreListed zs (take (k + 1) own)) (sym is) (next_passed own k c.loop-field-test.true old c.loop-field.invariant.0 (c.loop-field.invariant.1 x.response there)),
            λ n h. subst (λ zs. Lists zs n) (sym is) (elim (cases_eq n x.response) [
              | inl same ↦ c.loop-field.invariant.1 n (subst (λ (m : ℕ). has before m ≡ true) (sym same) there)
              | inr apart ↦ c.loop-field.invariant.1 n (back n apart h)
            ]),
            subst (λ zs. All (λ (f : Entry). has after f.response ≡ true) zs) (sym is)
                (All-weaker (λ (f : Entry). has before f.response ≡ true) (λ (f : Entry). has after f.response ≡ true) (λ f h. kept f.response h) old c.loop-field.invariant.2),
            subst HaveOwnNames (sym is) c.loop-field.invariant.3,
          )
    ]

pub returns-clause-listed : goal.returns-clause-listed
returns-clause-listed c = subst (λ zs. AreListed c.loop-field.firsts.items zs) (take_all c.loop-field.field-index c.args.own.now c.loop-field-test.false) c.loop-field.invariant.0

pub returns-clause-once : goal.returns-clause-once
returns-clause-once c = c.loop-field.invariant.3
