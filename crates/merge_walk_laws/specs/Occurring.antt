-- What occurs in a document.
use Rattle.std.specs.Prelude.{◌≡◌, List, [], Option, Some, None, true}
use Rattle.std.specs.List.{Contains}
use Rattle.language.specs.declared.tree.Arguments.{Arguments}
use Rattle.language.specs.declared.tree.Definition.{Definition}
use Rattle.language.specs.declared.tree.Field.{Field}
use Rattle.meta.specs.declared.kinds.MetaTypeOf.{MetaTypeOf}
use Rattle.schema.specs.Catalog.{Catalog}
use Rattle.merge_field_pairs.specs.SameArguments.{Given, are_tidy}
use Rattle.events.specs.Node.{Node, Placed, field}
use Rattle.events.specs.Occurrence.{Occurrence, occurrences}
use Rattle.events.specs.Typing.{Typing}

-- the arguments that are written
abbrev pub given_in : {S : Type 0} → Option (Placed (Arguments S)) → List (Given S)
given_in None = []
given_in (Some list) = list.item.items.items

module _ {S C : Type 0} (schema : Catalog S C) (t : Typing S C) (document : List (Definition S)) where
  -- the node stands in the document
  abbrev pub Occurs : Node S → Type 0
  Occurs node = (o : Occurrence S C) × Contains (occurrences schema t document) o × (o.node ≡ node)

  -- and its parent is this type: of a set the type that its fields are of, of a field that of its set
  abbrev pub OccursUnder : Option (MetaTypeOf S C) → Node S → Type 0
  OccursUnder parent node =
      (o : Occurrence S C) × Contains (occurrences schema t document) o × (o.node ≡ node) × (o.types.parent ≡ parent)

  -- no field that occurs repeats an argument, nor a key in one
  abbrev pub AreFieldsTidy : Type 0
  AreFieldsTidy = (f : Placed (Field S)) → Occurs (field f) → are_tidy f.item.arguments ≡ true
