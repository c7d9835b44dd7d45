-- The graph of a document.
use Rattle.std.specs.Prelude.{ℕ, ◌+◌, List, ◌++◌, length, map, ◌≡◌, Some}
use Rattle.std.specs.Option.{unwrap_or}
use Rattle.language.specs.declared.tree.Definition.{Definition}
use Rattle.language.specs.declared.tree.Definition.TheVariants as definition
use Rattle.fragment_graph.specs.declared.graph.Node.{Node}
use Rattle.fragment_graph.specs.declared.graph.Spread.{Spread}
use Rattle.fragment_graph.specs.declared.numbers.Numbers.{Numbers}
use Rattle.fragment_graph.specs.declared.document_graph.DocumentGraph.{DocumentGraph}
use Rattle.fragment_graph.specs.Graph.{spreads_of, spread_count}
use Rattle.fragment_graph.specs.Numbers.{defined_number, number_of, names_of, HasNumber, NumbersOf}
use Rattle.fragment_graph.specs.Spreads.{PlacedSpread, definition_spreads, fragment_spreads, spreads_named}
use Rattle.fragment_graph.specs.Spreads.{spreads_of_name}

-- A spread with its target's number, which is past the last where no fragment has the name.
abbrev pub resolved : Numbers → PlacedSpread → Spread
resolved n s = record { target = unwrap_or (number_of n s.name) (length (names_of n)); place = s.place }

abbrev pub IsNumbered : {S : Type 0} → Numbers → Definition S → Type 0
IsNumbered n (definition.Operation o) = Unit {0}
IsNumbered n (definition.Fragment f) = HasNumber n f.item.name.item.now

-- A definition's spreads were added to the node of its name.
pub record JoinsDefinition {S : Type 0} (n : Numbers) (d : Definition S) (old new : List Node) : Type 0 where
  pub sized : length new ≡ length old
  pub joined : (name : List ℕ) (k : ℕ) → number_of n name ≡ Some k
      → spreads_of new k ≡ spreads_of old k ++ map (resolved n) (spreads_named name d)
  pub counted : spread_count new ≡ spread_count old + length (definition_spreads d)

-- Each node has the spreads of all definitions of its name, and there are no others.
pub record Joined {S : Type 0} (n : Numbers) (document : List (Definition S)) (nodes : List Node) : Type 0 where
  pub sized : length nodes ≡ length (names_of n)
  pub joined : (name : List ℕ) (k : ℕ) → number_of n name ≡ Some k → spreads_of nodes k ≡ map (resolved n) (spreads_of_name document name)
  pub counted : spread_count nodes ≡ length (fragment_spreads document)

pub record IsGraphOf {S : Type 0} (document : List (Definition S)) (g : DocumentGraph) : Type 0 where
  pub numbers : NumbersOf document g.numbers
  -- each definition has the number of its name
  pub defined : g.defined.items ≡ map (defined_number g.numbers) document
  pub nodes : Joined g.numbers document g.nodes.items
