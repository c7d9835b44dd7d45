use Rattle.std.proofs.Common.{refl}
use Rattle.sdl_mending.proofs.Growth.{grows_root}
use Rattle.sdl_mending.proofs.touched.add_roots.Goals as goal

pub loop-root-preserved : goal.loop-root-preserved
loop-root-preserved c =
    grows_root c.args.roots.now c.loop-root.root-index _ _ c.args.types.now c.loop-root.types c.add_name.new.types c.loop-root-test.true refl c.loop-root.invariant c.in_ok-add_name.ensures
