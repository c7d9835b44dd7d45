use Rattle.std.proofs.Common.{◌≡◌, ◌+◌, ◌∷◌, [], None, Some, ℕ, ap, arith, get_or, inl, inr, length, length-append, subst, sym, ◌∙◌}
use Rattle.std.proofs.lemmas.List.{get_or_past}
use Rattle.std.specs.Option.{IfSome}
use Rattle.std.proofs.lemmas.Option.{slice_get_within}
use Rattle.merge_sets.proofs.OneName.{no_entry}
use Rattle.merge_certificates.specs.Failing.{IsKindAt}
use Rattle.merge_certificates.proofs.KindNumbers.{no_number, one_numbered, told_more}
use Rattle.merge_certificates.proofs.failing.numbers_of.Goals as goal

none_told : (i : ℕ) → None ≡ Some i → ⊥
none_told i is = cc

pub loop-k-init : goal.loop-k-init
loop-k-init g c =
    let none = c.new-numbers.ensures.items in (
      ap length none,
      λ m i a p told. absurd (none_told i (sym (ap (λ zs. get_or zs m None) none ∙ get_or_past [] m None (omega arith)) ∙ told)),
      omega arith,
      λ told. absurd (no_number c.new-numbers.result.items none told),
    )

pub loop-k-preserved : goal.loop-k-preserved
loop-k-preserved g c =
    let old = c.loop-k.numbers.items in
    let one = c.number_of.result in
    let is = c.in_ok-push.ensures.items in
    let longer : length c.push.new.self.items ≡ c.loop-k.k + 1 = ap length is ∙ length-append old (one ∷ []) ∙ ap (λ n. n + 1) c.loop-k.invariant.0 in (
      longer,
      one_numbered (g.J.Judge.are_kin c.args.graph.now.judge) c.args.kinds.now c.args.fields.now old c.push.new.self.items one c.loop-k.k is c.loop-k.invariant.0 c.number_of.ensures.kind c.loop-k.invariant.1,
      omega (arith, c.loop-k.invariant.2, c.number_of.ensures.spent),
      λ told. elim (told_more old c.push.new.self.items one is told) [
        | inl before ↦ omega (arith, c.loop-k.invariant.3 before, c.number_of.ensures.spent)
        | inr here ↦
            let kind = subst (λ o. IfSome o (IsKindAt (g.J.Judge.are_kin c.args.graph.now.judge) c.args.kinds.now (get_or c.args.fields.now c.loop-k.k no_entry).field)) here.1 c.number_of.ensures.kind in
            elim c.number_of.ensures.asks [
              | inl asked ↦ omega (arith, asked, slice_get_within c.args.kinds.now here.0 kind.0 kind.1, c.loop-k.invariant.2)
              | inr untold ↦ absurd (none_told here.0 (sym untold.0 ∙ here.1))
            ]
      ],
    )

pub returns-clause-numbers : goal.returns-clause-numbers
returns-clause-numbers g c = c.loop-k.invariant.1

pub returns-clause-ticks : goal.returns-clause-ticks
returns-clause-ticks g c = c.loop-k.invariant.3
