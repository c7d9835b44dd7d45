-- The typed events of a document: each node is entered, then comes what stands in it, and then it is left.
use Rattle.std.specs.Prelude.{List, [], ◌∷◌, ◌++◌}
use Rattle.language.specs.declared.tree.Definition.{Definition}
use Rattle.schema.specs.Catalog.{Catalog}
use Rattle.events.specs.Node.{Node}
use Rattle.events.specs.Typing.{Typing}
use Rattle.events.specs.Outline.{Outline, empty, entry, outline_of_document}

pub data Side : Type 0 where
  entering : Side
  leaving : Side

-- a node is entered or left, at its types
pub record TypedEvent (S C : Type 0) : Type 0 where
  pub side : Side
  pub node : Node S
  pub types : Typing S C

module _ {S C : Type 0} where
  abbrev pub events_of : Outline S C → List (TypedEvent S C)
  events_of empty = []
  events_of (entry node types inside after) =
      record { side = entering; node = node; types = types }
      ∷ (events_of inside ++ (record { side = leaving; node = node; types = types } ∷ events_of after))

  -- the typed events of a document, in the order of a walk
  abbrev pub typed_events : Catalog S C → Typing S C → List (Definition S) → List (TypedEvent S C)
  typed_events schema t doc = events_of (outline_of_document schema t doc)
