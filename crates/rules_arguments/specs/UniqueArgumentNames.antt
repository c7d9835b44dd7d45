-- Later arguments of a name (section 5.4.2).
use Rattle.std.specs.Prelude.{◌≡◌, ℕ, List, [], ◌++◌, true, Option, Some, None, map, codes}
use Rattle.language_values.specs.ValuesEqual.{are_distinct}
use Rattle.language.specs.declared.tree.Arguments.{Arguments}
use Rattle.walk.specs.ContextState.{DocumentScope}
use Rattle.walk.specs.ErrorValue.{ErrorValue}
use Rattle.events.specs.Node.{Node, Placed, field, directive}
use Rattle.events.specs.Occurrence.{Occurrence}
use Rattle.rules_support.specs.Names.{text_name}
use Rattle.rules_support.specs.Repeats.{repeats}

abbrev pub repeated_argument_message : List ℕ → List ℕ
repeated_argument_message name = (codes "There can only be one argument named \"" ++ name) ++ codes "\""

-- those of a list of arguments, if there is one
abbrev pub repeated_in : {S : Type 0} → Option (Placed (Arguments S)) → List ErrorValue
repeated_in None = []
repeated_in (Some arguments) = repeats repeated_argument_message (map text_name arguments.item.items.items)

-- at a node: a field or a directive
abbrev pub repeated_at : {S : Type 0} → Node S → List ErrorValue
repeated_at (field f) = repeated_in f.item.arguments
repeated_at (directive d) = repeated_in d.item.arguments
repeated_at _ = []

-- at a field and at a directive: each argument whose name stands earlier in the list
abbrev pub repeated_arguments : {S C : Type 0} → DocumentScope S C → Occurrence S C → List ErrorValue
repeated_arguments scope o = repeated_at o.node

-- no two of a list of arguments, if there is one, have the same name
abbrev pub AreDistinctArguments : {S : Type 0} → Option (Placed (Arguments S)) → Type 0
AreDistinctArguments None = Unit {0}
AreDistinctArguments (Some arguments) = are_distinct (map (λ a. a.0.item.now) arguments.item.items.items) ≡ true

-- at a node: those of a field, and those of a directive
abbrev pub HasDistinctArguments : {S : Type 0} → Node S → Type 0
HasDistinctArguments (field f) = AreDistinctArguments f.item.arguments
HasDistinctArguments (directive d) = AreDistinctArguments d.item.arguments
HasDistinctArguments _ = Unit {0}
