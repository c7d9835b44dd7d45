use Rattle.std.proofs.Common.{◌≡◌, ℕ, true, arith, subst}
use Rattle.std.specs.List.{All}
use Rattle.bit_matrix.specs.Set.{has}
use Rattle.merge_certificates.proofs.Touching.{one_listed}
use Rattle.merge_certificates.proofs.touched.names_from.Goals as goal

pub loop-l-init : goal.loop-l-init
loop-l-init c = λ l more less. absurd (omega (arith, more, less))

pub loop-l-preserved : goal.loop-l-preserved
loop-l-preserved c =
    let at = c.in-Some.ensures in
    one_listed c.args.touched.now c.args.from c.loop-l.l c.loop-l.names c.add_all.new.names at.0 at.1 c.in_ok-add_all.ensures.kept
    (subst (λ zs. All (λ (n : ℕ). has c.add_all.new.names n ≡ true) zs) at.2 c.in_ok-add_all.ensures.added) c.loop-l.invariant

pub returns : goal.returns
returns c = λ l more less. c.loop-l.invariant l more (omega (arith, less, c.loop-l-test.false))
