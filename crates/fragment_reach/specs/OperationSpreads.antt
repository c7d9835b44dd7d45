-- The spreads inside the operations of a document, with the numbers of their targets.
use Rattle.std.specs.Prelude.{List, map}
use Rattle.language.specs.declared.tree.Definition.{Definition}
use Rattle.fragment_graph.specs.declared.graph.Spread.{Spread}
use Rattle.fragment_graph.specs.declared.numbers.Numbers.{Numbers}
use Rattle.fragment_graph.specs.DocumentGraph.{resolved}
use Rattle.fragment_reach.specs.Reach.{definition_spreads, operation_spreads}

abbrev pub resolved_spreads : {S : Type 0} → Numbers → Definition S → List Spread
resolved_spreads numbers d = map (resolved numbers) (definition_spreads d)

-- One list for each definition, which is empty for a fragment.
abbrev pub resolved_lists : {S : Type 0} → Numbers → List (Definition S) → List (List Spread)
resolved_lists numbers document = map (resolved_spreads numbers) document

-- Those of all operations, one after the other.
abbrev pub resolved_starts : {S : Type 0} → Numbers → List (Definition S) → List Spread
resolved_starts numbers document = map (resolved numbers) (operation_spreads document)
