use Rattle.schema_validation.proofs.DirectiveLemmas.{directives-named, directives-distinct}
use Rattle.schema_validation.proofs.standard_directives.directives_by_name.Goals as goal

pub map_by_name-requires-clause-named : goal.map_by_name-requires-clause-named
map_by_name-requires-clause-named g c = directives-named c.in_ok-directives.directives.items

pub map_by_name-requires-clause-distinct : goal.map_by_name-requires-clause-distinct
map_by_name-requires-clause-distinct g c = directives-distinct c.in_ok-directives.directives.items c.in_ok-directives.ensures
