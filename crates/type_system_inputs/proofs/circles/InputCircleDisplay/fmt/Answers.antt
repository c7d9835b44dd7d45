use Rattle.type_system_inputs.proofs.Text.{circle_written}
use Rattle.type_system_inputs.proofs.circles.InputCircleDisplay.fmt.Goals as goal

pub returns-clause-writes : goal.returns-clause-writes
returns-clause-writes g c = λ p ok.
    circle_written g.W.Write.write_str_gives c.args.f.now c.write.new.self c.write-2.new.self c.write_others.new.f c.write_str.new.self c.args.self.now c.as_slice.result.now c.as_slice.ensures.value
    c.in_ok-write.ensures.writes c.in_ok-write-2.ensures.writes c.in_ok-write_others.ensures (λ q. c.write_str.ensures.writes q ok) p
