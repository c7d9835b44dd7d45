use Rattle.sdl_directive_circles.proofs.Text.{step_written}
use Rattle.sdl_directive_circles.proofs.circles.write_steps.Goals as goal

pub loop-name-preserved : goal.loop-name-preserved
loop-name-preserved g c =
    step_written g.W.Write.write_str_gives c.args.f.now c.loop-name.f c.write.new.self c.args.way.now c.loop-name.name-index _
    c.loop-name-test.true c.loop-name.invariant c.in_ok-write.ensures.writes
