use Rattle.std.proofs.Common.{◌≡◌, None, Some, ap, arith, get_or, inl, inr, length, refl, slice_get, subst}
use Rattle.std.proofs.lemmas.Option.{slice_get_read}
use Rattle.merge_certificates.proofs.KindNumbers.{kinds_agree}
use Rattle.merge_certificates.specs.Failing.{AgreeKinds}
use Rattle.merge_certificates.proofs.failing.agreeing_with.Goals as goal

pub returns-clause-agree : goal.returns-clause-agree
returns-clause-agree g c stand =
    let j = g.J.Judge.judgement c.args.graph.now.judge in
    let e = c.args.e in
    let kinds = c.args.numbered.now.kinds.items in
    let numbers = c.args.numbered.now.numbers.items in
    let i = c.in-Some.i in
    let one = c.in-Some-get.one.now in
    let told : get_or numbers c.args.k None ≡ Some i = subst (λ zs. get_or zs c.args.k None ≡ Some i) c.as_slice.ensures.value c.in-Some.ensures in
    let look = c.in-Some-get.ensures.lookup in
    let at : slice_get kinds i ≡ Some one = subst (λ zs. slice_get zs i ≡ Some one) c.deref.ensures.value (slice_get_read c.deref.result.now (length c.deref.result.now) i one refl look.3.0 look.1) in
    kinds_agree j e c.args.fields.now numbers kinds c.args.k i one c.in_ok-set.set
    stand told at (subst (λ zs. AgreeKinds j e one zs c.in_ok-set.set) c.as_slice-2.ensures.value c.in_ok-set.ensures.agree)

pub returns-clause-ticks : goal.returns-clause-ticks
returns-clause-ticks g c =
    let look = c.in-Some-get.ensures.lookup in
    elim c.in_ok-set.ensures.asks [
      | inl asked ↦ inr (omega (arith, asked, look.1, look.3.0, ap length c.deref.ensures.value, ap length c.as_slice-2.ensures.value))
      | inr untold ↦ inl untold.0
    ]
