use Rattle.std.proofs.Common.{ap, ◌∙◌}
use Rattle.name_tables.specs.Looking.{index_in}
use Rattle.name_tables.proofs.Looking.{other_empty}
use Rattle.name_tables.proofs.map.NameMap.new.Goals as goal

pub returns-clause-none : goal.returns-clause-none
returns-clause-none g c = λ name. ap (λ s. index_in c.new.result.items s c.new-3.result name) c.new-2.ensures.items ∙ other_empty c.new-3.result c.new-3.ensures.empty name
