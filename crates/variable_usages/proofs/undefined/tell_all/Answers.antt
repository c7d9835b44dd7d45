use Rattle.std.proofs.Common.{◌≡◌, ◌++◌, List, map, option_map, subst, sym, take}
use Rattle.std.specs.List.{flat_map}
use Rattle.std.proofs.lemmas.List.{take_more}
use Rattle.variable_usages.specs.declared.uses.VariableUse.{VariableUse}
use Rattle.variable_usages.specs.Names.{has_name}
use Rattle.variable_usages.specs.Undefined.{told_undefined, undefined_of}
use Rattle.variable_usages.specs.Uses.{use_of}
use Rattle.variable_usages.proofs.Telling.{more_told}
use Rattle.variable_usages.proofs.undefined.tell_all.Goals as goal

pub loop-used-preserved : goal.loop-used-preserved
loop-used-preserved c =
    subst (λ (us : List VariableUse). map undefined_of c.tell.new.found.items ≡ map undefined_of c.args.found.now.items ++ flat_map (told_undefined (has_name c.args.defined.now) (option_map (λ n. n.now) c.args.operation) c.args.start) (map use_of us))
    (sym (take_more c.args.uses.now c.loop-used.used-index _ c.loop-used-test.true))
    (more_told (has_name c.args.defined.now) (option_map (λ n. n.now) c.args.operation) c.args.start (take c.loop-used.used-index c.args.uses.now) _
    (map undefined_of c.args.found.now.items) (map undefined_of c.loop-used.found.items) (map undefined_of c.tell.new.found.items)
    c.loop-used.invariant c.in_ok-tell.ensures)
