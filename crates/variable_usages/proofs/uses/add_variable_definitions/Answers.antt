use Rattle.std.proofs.Common.{◌++◌, map, sym, ap, ◌∙◌}
use Rattle.std.specs.List.{flat_map}
use Rattle.std.proofs.lemmas.Result.{on_ok_weaker}
use Rattle.variable_usages.specs.Uses.{use_of, variable_definition_uses, variable_definitions_uses}
use Rattle.variable_usages.proofs.uses.add_variable_definitions.Goals as goal

pub returns-in-Some : goal.returns-in-Some
returns-in-Some g c =
    on_ok_weaker c.add_each_definition.result
    (λ e. e ∙ ap (λ zs. map use_of c.args.found.now.items ++ flat_map variable_definition_uses zs) c.as_slice.ensures.value
    ∙ ap (λ o. map use_of c.args.found.now.items ++ variable_definitions_uses o) (sym c.in-Some.is))
    c.add_each_definition.ensures
