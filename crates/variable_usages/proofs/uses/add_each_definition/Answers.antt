use Rattle.std.proofs.Common.{map, ◌++◌, ap, ◌∙◌}
use Rattle.std.specs.List.{flat_map}
use Rattle.std.proofs.lemmas.List.{take_all}
use Rattle.variable_usages.specs.Uses.{variable_definition_uses, use_of}
use Rattle.variable_usages.proofs.UseLemmas.{more_uses}
use Rattle.variable_usages.proofs.uses.add_each_definition.Goals as goal

pub loop-definition-preserved : goal.loop-definition-preserved
loop-definition-preserved g c =
    more_uses variable_definition_uses c.args.definitions.now c.loop-definition.definition-index c.definition-item.result
    (map use_of c.args.found.now.items) (map use_of c.loop-definition.found.items) (map use_of c.add_directives.new.found.items)
    c.definition-item.is c.loop-definition-test.true c.loop-definition.invariant c.in_ok-add_directives.ensures

pub returns : goal.returns
returns g c =
    c.loop-definition.invariant ∙ ap (λ zs. map use_of c.args.found.now.items ++ flat_map variable_definition_uses zs) (take_all c.loop-definition.definition-index c.args.definitions.now c.loop-definition-test.false)
