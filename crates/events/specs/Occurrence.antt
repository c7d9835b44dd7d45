-- The occurrences of a document: its nodes with their types, without the order of a walk.
use Rattle.std.specs.Prelude.{List, [], ◌∷◌, ◌++◌, Bool, true, false}
use Rattle.language.specs.declared.tree.Definition.{Definition}
use Rattle.schema.specs.Catalog.{Catalog}
use Rattle.events.specs.Node.{Node, document}
use Rattle.events.specs.Typing.{Typing}
use Rattle.events.specs.Outline.{Outline, empty, entry, outline_of_definition, outline_of_document}

-- a node, with the types that the nodes above it give it
pub record Occurrence (S C : Type 0) : Type 0 where
  pub node : Node S
  pub types : Typing S C

module _ {S C : Type 0} where
  -- the nodes of an outline, each before what stands in it
  abbrev pub occurrences_of : Outline S C → List (Occurrence S C)
  occurrences_of empty = []
  occurrences_of (entry node types inside after) =
      record { node = node; types = types } ∷ (occurrences_of inside ++ occurrences_of after)

  -- every node of a definition
  abbrev pub occurrences_in : Catalog S C → Typing S C → Definition S → List (Occurrence S C)
  occurrences_in schema t d = occurrences_of (outline_of_definition schema t d)

  -- every node of a document
  abbrev pub occurrences : Catalog S C → Typing S C → List (Definition S) → List (Occurrence S C)
  occurrences schema t doc = occurrences_of (outline_of_document schema t doc)

abbrev pub is_document : {S : Type 0} → Node S → Bool
is_document (document doc) = true
is_document _ = false
