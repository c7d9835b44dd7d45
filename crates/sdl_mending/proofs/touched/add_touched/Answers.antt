use Rattle.sdl_mending.specs.Touched.{touched_in}
use Rattle.sdl_mending.proofs.Growth.{grows_next}
use Rattle.sdl_mending.proofs.touched.add_touched.Goals as goal

pub loop-definition-preserved : goal.loop-definition-preserved
loop-definition-preserved c =
    grows_next (touched_in c.args.places.now) c.args.document.now c.loop-definition.definition-index c.definition-item.result _ c.args.types.now c.loop-definition.types c.add_touched_in.new.types c.loop-definition-test.true c.definition-item.is c.loop-definition.invariant c.in_ok-add_touched_in.ensures
