use Rattle.std.proofs.Common.{arith, ◌-◌}
use Rattle.rules_positions.proofs.LastList.{set_last}
use Rattle.rules_positions.proofs.recorded_uses.add_use.Goals as goal

pub returns-in_ok-push : goal.returns-in_ok-push
returns-in_ok-push g c =
    let lists = c.args.uses.now.items in
    let some = c.if-count-gt0.true in
    let same = c.args.uses.now.ok.0 in
    let counted = c.len-count.ensures in
    set_last g.U.VariableUse.value lists (c.len-count.result - 1) c.index_mut.result.now c.push.new.self c.args.found (omega (arith, some, same, counted)) c.index_mut.ensures.value c.in_ok-push.ensures.items
