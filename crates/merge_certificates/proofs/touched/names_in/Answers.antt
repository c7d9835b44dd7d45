use Rattle.std.proofs.Common.{ℕ, refl, ◌≡◌, ◌-◌, [], ◌∙◌, true, inl, inr, ap, arith, get_or, sym, subst, take}
use Rattle.std.proofs.lemmas.List.{append-nil}
use Rattle.std.specs.List.{All, Contains}
use Rattle.std.proofs.lemmas.List.Elements.{Contains-append_left, Contains-append_right, Contains-get_or, Contains-push_cases}
use Rattle.bit_matrix.specs.Set.{has}
use Rattle.merge_sets.specs.declared.node.Entry.{Entry}
use Rattle.merge_certificates.specs.Quiet.{HoldBelow}
use Rattle.merge_certificates.specs.Touched.{StandsIn}
use Rattle.merge_sets.specs.World.{world, own_of, set_of}
use Rattle.merge_certificates.proofs.Touching.{next_set}
use Rattle.merge_certificates.proofs.touched.names_in.Goals as goal

pub loop-rest-init : goal.loop-rest-init
loop-rest-init g c = (λ s a i m h. inr (s, i, m), omega arith, refl)

pub loop-rest-preserved : goal.loop-rest-preserved
loop-rest-preserved g c = (
  λ s a i m h.
      let v = world g.J.Judge.judgement c.args.graph.now in
      let names = c.args.names.now in
      let next = c.in-Some.next in
      let rest = c.pop.new.self.items in
      let new = c.add_sets.new.sets.items in
      let found = c.add_names.new.found.items in
      let longer = c.in_ok-extend_from_slice.ensures.items in
      let keep : (t : ℕ) → Contains rest t → Contains new t = λ t j. c.in_ok-add_sets.ensures.kept t (subst (λ zs. Contains zs t) (sym longer) (Contains-append_left rest c.as_slice.result.now t j)) in
      let fields = subst (λ zs. All (λ (y : Entry). has names y.response ≡ true → Contains found y.response) zs) c.own-fields.ensures c.in_ok-add_names.ensures.added in
      let here = subst (λ zs. HoldBelow c.in_ok-below.below.items zs) c.own-fields.ensures c.in_ok-below.ensures in
      let below : HoldBelow new (own_of v next) = λ k d l t p. c.in_ok-add_sets.ensures.kept t (subst (λ zs. Contains zs t) (sym longer) (Contains-append_right rest c.as_slice.result.now t (subst (λ zs. Contains zs t) (sym c.as_slice.ensures.value) (here k d l t p)))) in
      let spreads = subst (λ zs. All (λ f. Contains new (set_of v f)) zs) c.spreads.ensures c.in_ok-add_sets.ensures.added in
      elim (c.loop-rest.invariant.0 s a i m h) [
        | inl there ↦ inl (c.in_ok-add_names.ensures.kept a.response there)
        | inr at ↦ elim (Contains-push_cases rest next at.0 (subst (λ zs. Contains zs at.0) c.in-Some.ensures.items at.1)) [
          | inl before ↦ inr (at.0, keep at.0 before, at.2)
          | inr same ↦ next_set v names next found new fields below spreads a (subst (λ (t : ℕ). StandsIn v t a) (sym same) at.2) h
        ]
      ],
  omega (arith, c.loop-rest.invariant.1),
  c.loop-rest.invariant.2,
)

pub returns-in_default-clause-names : goal.returns-in_default-clause-names
returns-in_default-clause-names g c = λ k d l a m h.
    let sets = c.args.sets.items in
    let waiting = c.loop-rest.waiting.items in
    let none : waiting ≡ [] = c.in_default.ensures.items ∙ append-nil c.pop.new.self.items ∙ c.in_default.ensures.rest ∙ ap (λ n. take (n - 1) waiting) c.in_default.ensures.cases.0 in
    elim (c.loop-rest.invariant.0 (get_or sets k d) a (Contains-get_or sets k d l) m h) [
      | inl there ↦ there
      | inr at ↦ absurd (in_none at.0 (subst (λ zs. Contains zs at.0) none at.1))
    ]
  where
    in_none : (t : ℕ) → Contains [] t → ⊥
    in_none t (k, l, is) = absurd (omega (arith, l))
