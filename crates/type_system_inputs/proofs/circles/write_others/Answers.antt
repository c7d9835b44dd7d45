use Rattle.type_system_inputs.proofs.Text.{field_written}
use Rattle.type_system_inputs.proofs.circles.write_others.Goals as goal

pub loop-field-preserved : goal.loop-field-preserved
loop-field-preserved g c =
    field_written g.W.Write.write_str_gives c.args.f.now c.loop-field.f c.write.new.self c.args.fields.now c.loop-field.field-index _ c.loop-field-test.true c.loop-field.invariant c.in_ok-write.ensures.writes
