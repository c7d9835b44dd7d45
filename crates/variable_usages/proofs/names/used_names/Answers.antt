use Rattle.std.proofs.Common.{List, map, subst, sym, take}
use Rattle.std.proofs.lemmas.List.{take_more}
use Rattle.variable_usages.specs.declared.uses.VariableUse.{VariableUse}
use Rattle.variable_usages.specs.Names.{HasNames}
use Rattle.variable_usages.specs.Uses.{use_of}
use Rattle.variable_usages.proofs.Variables.{names_used}
use Rattle.variable_usages.proofs.names.used_names.Goals as goal

pub loop-used-preserved : goal.loop-used-preserved
loop-used-preserved c =
    subst (λ (us : List VariableUse). HasNames c.add_use.new.set (map (λ u. u.name) (map use_of us)))
    (sym (take_more c.args.uses.now c.loop-used.used-index _ c.loop-used-test.true))
    (names_used (take c.loop-used.used-index c.args.uses.now) _ c.loop-used.set c.add_use.new.set c.loop-used.invariant c.in_ok-add_use.ensures)
