use Rattle.std.proofs.Common.{map, ◌++◌, ap, ◌∙◌}
use Rattle.std.specs.List.{flat_map}
use Rattle.std.proofs.lemmas.List.{take_all}
use Rattle.variable_usages.specs.Uses.{directive_uses, use_of}
use Rattle.variable_usages.proofs.UseLemmas.{more_uses}
use Rattle.variable_usages.proofs.uses.add_each_directive.Goals as goal

pub loop-directive-preserved : goal.loop-directive-preserved
loop-directive-preserved g c =
    more_uses directive_uses c.args.directives.now c.loop-directive.directive-index c.directive-item.result
    (map use_of c.args.found.now.items) (map use_of c.loop-directive.found.items) (map use_of c.add_arguments.new.found.items)
    c.directive-item.is c.loop-directive-test.true c.loop-directive.invariant c.in_ok-add_arguments.ensures

pub returns : goal.returns
returns g c =
    c.loop-directive.invariant ∙ ap (λ zs. map use_of c.args.found.now.items ++ flat_map directive_uses zs) (take_all c.loop-directive.directive-index c.args.directives.now c.loop-directive-test.false)
