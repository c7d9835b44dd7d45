use Rattle.std.proofs.Common.{refl}
use Rattle.merge_sets.proofs.Opened.{gains_none, gains_more, gains_all}
use Rattle.merge_sets.proofs.opening.open_all.Goals as goal

pub loop-f-init : goal.loop-f-init
loop-f-init c = gains_none c.args.fragments.now c.args.opening.now

pub loop-f-preserved : goal.loop-f-preserved
loop-f-preserved c = gains_more c.args.fragments.now c.loop-f.f-index 0 c.loop-f-test.true c.loop-f.invariant c.in_ok-open.ensures

pub returns : goal.returns
returns c = gains_all c.args.fragments.now _ c.loop-f.f-index c.loop-f-test.false refl c.loop-f.invariant
