use Rattle.std.proofs.Common.{map, ◌++◌, ap, ◌∙◌}
use Rattle.std.specs.List.{flat_map}
use Rattle.std.proofs.lemmas.List.{take_all}
use Rattle.variable_usages.specs.Uses.{argument_uses, use_of}
use Rattle.variable_usages.proofs.UseLemmas.{more_uses}
use Rattle.variable_usages.proofs.uses.add_each_argument.Goals as goal

pub loop-argument-preserved : goal.loop-argument-preserved
loop-argument-preserved g c =
    more_uses argument_uses c.args.arguments.now c.loop-argument.argument-index c.argument-item.result
    (map use_of c.args.found.now.items) (map use_of c.loop-argument.found.items) (map use_of c.add_argument.new.found.items)
    c.argument-item.is c.loop-argument-test.true c.loop-argument.invariant c.in_ok-add_argument.ensures

pub returns : goal.returns
returns g c =
    c.loop-argument.invariant ∙ ap (λ zs. map use_of c.args.found.now.items ++ flat_map argument_uses zs) (take_all c.loop-argument.argument-index c.args.arguments.now c.loop-argument-test.false)
