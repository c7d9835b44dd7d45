use Rattle.sdl_mending.specs.Touched.{named_by}
use Rattle.sdl_mending.proofs.Growth.{grows_next}
use Rattle.sdl_mending.proofs.touched.add_named.Goals as goal

pub loop-reason-preserved : goal.loop-reason-preserved
loop-reason-preserved c =
    grows_next named_by c.args.reasons.now c.loop-reason.reason-index c.reason-item.result _ c.args.types.now c.loop-reason.types c.add_named_by.new.types c.loop-reason-test.true c.reason-item.is c.loop-reason.invariant c.in_ok-add_named_by.ensures
