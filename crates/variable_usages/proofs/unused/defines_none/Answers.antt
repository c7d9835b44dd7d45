use Rattle.std.proofs.Common.{sym, ◌∙◌}
use Rattle.variable_usages.proofs.Skipping.{no_items}
use Rattle.variable_usages.proofs.unused.defines_none.Goals as goal

pub returns-in-Some : goal.returns-in-Some
returns-in-Some g c = λ t name own. (c.in-Some.last.now, c.in-Some.ensures.some name own, sym c.variables.ensures ∙ no_items c.variables.result.now c.is_empty.result c.is_empty.ensures t)
