use Rattle.std.proofs.Common.{map, take}
use Rattle.variable_usages.proofs.Telling.{map_next}
use Rattle.variable_usages.proofs.Variables.{names_next}
use Rattle.variable_usages.proofs.names.name_set.Goals as goal

pub loop-variable-preserved : goal.loop-variable-preserved
loop-variable-preserved g c =
    let vs = c.args.variables.now in
    let i = c.loop-variable.variable-index in
    names_next (map (λ v. v.0.item.now) (take i vs)) _ c.variable-item.result.0.item.now c.loop-variable.set c.add_name.new.set
    (map_next (λ v. v.0.item.now) vs i c.variable-item.result c.variable-item.is c.loop-variable-test.true) c.loop-variable.invariant c.in_ok-add_name.ensures
