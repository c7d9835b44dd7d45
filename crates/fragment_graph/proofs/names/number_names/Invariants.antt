use Rattle.std.proofs.Common.{take}
use Rattle.fragment_graph.specs.declared.numbers.Numbers.{Numbers}
use Rattle.fragment_graph.specs.Numbers.{NumberedDefinitions}
use Rattle.fragment_graph.proofs.Numbering.{by_map}
use Rattle.fragment_graph.proofs.names.number_names.Given as goal

abbrev pub invariant-loop-definition : goal.invariant-loop-definition
invariant-loop-definition g l = (n : Numbers) → NumberedDefinitions (take l.definition-index l.document) (by_map n l.map) l.defined.items
