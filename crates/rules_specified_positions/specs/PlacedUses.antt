-- The variables in the arguments of a definition, where a type is expected (section 5.8.5).
use Rattle.std.specs.Prelude.{List, [], Option}
use Rattle.std.specs.List.{flat_map}
use Rattle.std.specs.Option.{option_map_or}
use Rattle.language.specs.declared.tree.Arguments.{Arguments}
use Rattle.language.specs.declared.tree.Definition.{Definition}
use Rattle.meta.specs.declared.arguments.Argument.{Argument}
use Rattle.meta.specs.declared.kinds.MetaTypeOf.{MetaTypeOf}
use Rattle.schema.specs.Catalog.{Catalog}
use Rattle.walk.specs.ContextState.{DocumentScope}
use Rattle.events.specs.Node.{Node, Placed, ArgumentEntry, directive, field}
use Rattle.events.specs.Occurrence.{Occurrence, occurrences_in}
use Rattle.events.specs.SchemaView.{directive_arguments, field_arguments}
use Rattle.events.specs.Typing.{Typing}
use Rattle.rules_positions.specs.RecordedUses.{next_recorded}
use Rattle.rules_specified_uses.specs.InputPlaces.{argument_place}
use Rattle.rules_specified_uses.specs.ValueUses.{UseValue, value_uses}

module _ {S C : Type 0} (schema : Catalog S C) where
  -- the uses in an argument, by the arguments that its field or its directive defines
  abbrev pub argument_uses : Option (List (Argument S)) → ArgumentEntry S → List UseValue
  argument_uses known a = value_uses schema (argument_place known a.0.item.now) a.1

  -- those of each argument of a list, if there is one
  abbrev pub arguments_uses : Option (List (Argument S)) → Option (Placed (Arguments S)) → List UseValue
  arguments_uses known written = option_map_or (λ list. flat_map (argument_uses known) list.item.items.items) written []

  -- those of a node, a field or a directive, by the type around it
  abbrev pub uses_at_node : Option (MetaTypeOf S C) → Node S → List UseValue
  uses_at_node parent (field f) = arguments_uses (field_arguments parent f.item.name.item.now) f.item.arguments
  uses_at_node parent (directive d) = arguments_uses (directive_arguments schema d.item.name.item.now) d.item.arguments
  uses_at_node parent _ = []

  abbrev pub uses_at : Occurrence S C → List UseValue
  uses_at o = uses_at_node o.types.parent o.node

  -- the uses in a definition: those in the arguments of its fields and of its directives
  abbrev pub placed_uses : Typing S C → Definition S → List UseValue
  placed_uses t d = flat_map uses_at (occurrences_in schema t d)

-- a list more at each definition, and the uses at any other node in the last list
abbrev pub next_uses : {S C : Type 0} → DocumentScope S C → Occurrence S C → List (List UseValue) → List (List UseValue)
next_uses = next_recorded uses_at
