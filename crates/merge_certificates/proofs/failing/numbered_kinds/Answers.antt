use Rattle.std.proofs.Common.{arith, subst}
use Rattle.merge_certificates.specs.Failing.{StandFor}
use Rattle.merge_certificates.proofs.KindNumbers.{kinds_stand}
use Rattle.merge_certificates.proofs.failing.numbered_kinds.Goals as goal

pub returns-clause-stand : goal.returns-clause-stand
returns-clause-stand g c =
    let judge = c.args.graph.now.judge in
    let j = g.J.Judge.judgement judge in
    let fields = c.args.fields.now in
    let numbers = c.in_ok-numbers.numbers.items in
    subst (λ zs. StandFor j zs fields numbers) c.as_slice.ensures.value
    (kinds_stand j (g.J.Judge.are_kin judge) (g.J.Judge.kin_agree judge) c.as_slice.result.now fields numbers c.in_ok-numbers.ensures.numbers)

pub returns-clause-ticks : goal.returns-clause-ticks
returns-clause-ticks g c told = omega (arith, c.in_ok-numbers.ensures.ticks told, c.kinds_of.ensures.spent)
