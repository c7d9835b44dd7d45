use Rattle.std.proofs.Common.{◌≡◌, ◌∙◌, ℕ, false, arith, subst, sym}
use Rattle.std.specs.List.{All}
use Rattle.std.proofs.lemmas.List.{length-take, take_all}
use Rattle.std.proofs.lemmas.List.Elements.{All-more}
use Rattle.bit_matrix.specs.Set.{has}
use Rattle.merge_certificates.proofs.touched.has_none.Goals as goal

pub loop-number-init : goal.loop-number-init
loop-number-init c = λ k d l. absurd (omega (arith, length-take 0 c.args.list.now, l))

pub loop-number-preserved : goal.loop-number-preserved
loop-number-preserved c = All-more (λ (n : ℕ). has c.args.names.now n ≡ false) c.args.list.now c.loop-number.number-index 0 c.loop-number-test.true c.loop-number.invariant
    (sym c.contains.ensures ∙ c.if-contains.false)

pub returns : goal.returns
returns c = subst (λ zs. All (λ (n : ℕ). has c.args.names.now n ≡ false) zs) (take_all c.loop-number.number-index c.args.list.now c.loop-number-test.false) c.loop-number.invariant
