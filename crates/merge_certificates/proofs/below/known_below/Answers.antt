use Rattle.std.proofs.Common.{◌⊎◌, ◌<◌, subst}
use Rattle.std.specs.Bool.{OnTrue}
use Rattle.merge_sets.specs.Clear.{AreClearBelow, AreLeaves}
use Rattle.merge_sets.specs.World.{world}
use Rattle.merge_sets.proofs.InOrder.{at_of}
use Rattle.merge_certificates.proofs.below.known_below.Goals as goal

pub returns-then-fields-lt-WIDE-clause-knows : goal.returns-then-fields-lt-WIDE-clause-knows
returns-then-fields-lt-WIDE-clause-knows g c = λ k l a b known.
    let never = c.all_or_nothing.ensures.all k l known in cc

pub returns-then-of_all-clause-knows : goal.returns-then-of_all-clause-knows
returns-then-of_all-clause-knows g c = λ k l a b known at to.
    let v = world g.J.Judge.judgement c.args.graph.now in
    let xs = c.args.fields.now in
    let clear = subst (λ z. OnTrue z (AreClearBelow v c.args.e xs xs)) c.if-of_all.true c.in_ok-of_all.ensures.clear in
    clear a b (at_of xs k a at) (at_of xs l b to)

pub returns-then-fields-lt-WIDE-clause-ticks : goal.returns-then-fields-lt-WIDE-clause-ticks
returns-then-fields-lt-WIDE-clause-ticks g c = λ knows.
    let never = c.all_or_nothing.ensures.all knows.0 knows.1 knows.2 in cc

pub returns-then-of_all-clause-ticks : goal.returns-then-of_all-clause-ticks
returns-then-of_all-clause-ticks g c = λ knows.
    subst (λ z. OnTrue z (AreLeaves c.args.fields.now ⊎ (c.are_clear_below.new.budget < c.args.budget.now))) c.if-of_all.true c.in_ok-of_all.ensures.ticks
