-- What is true of documents in which the rules of the first stage find nothing.
use Rattle.std.specs.Prelude.{◌≡◌, ℕ, List, [], Option, Some, None, true, map, string_bytes}
use Rattle.std.specs.List.{Contains, flat_map}
use Rattle.std.specs.Option.{option_map}
use Rattle.language_values.specs.ValuesEqual.{are_distinct, has_unique_keys}
use Rattle.language.specs.declared.tree.Arguments.{Arguments}
use Rattle.language.specs.declared.tree.Definition.{Definition}
use Rattle.language.specs.declared.tree.Definition.TheVariants as definition
use Rattle.language.specs.declared.tree.FragmentSpread.{FragmentSpread}
use Rattle.language.specs.declared.tree.Operation.{Operation}
use Rattle.meta.specs.declared.kinds.MetaTypeOf.{MetaTypeOf}
use Rattle.schema.specs.Catalog.{Catalog, type_in}
use Rattle.events.specs.Node.{Node, Name, Placed, ArgumentEntry, ObjectEntry, directive, field, fragment_definition}
use Rattle.events.specs.Node.{fragment_spread, inline_fragment, object_value}
use Rattle.events.specs.Occurrence.{Occurrence, occurrences}
use Rattle.events.specs.Typing.{Typing}
use Rattle.walk.specs.ContextState.{scope_of}
use Rattle.walk.specs.Names.{fragment_names}
use Rattle.walk.specs.Rule.{Condition}
use Rattle.rules_support.specs.Noting.{to_list}
use Rattle.fragment_graph.specs.DocumentCycles.{HasNoCycle}
use Rattle.fragment_graph.specs.Numbers.{Defines}
use Rattle.variable_values.specs.Inputs.{HasInputTypes, definitions_of}

-- the names of entries that have them first
abbrev pub names_in : {T : Type 0} → List (Name × T) → List (List ℕ)
names_in entries = map (λ e. e.0.item.now) entries

module _ {S : Type 0} where
  -- the name of an operation, where it has one
  abbrev pub name_of_operation : Definition S → List (List ℕ)
  name_of_operation (definition.Operation o) = to_list (option_map (λ name. name.item.now) o.item.name)
  name_of_operation (definition.Fragment f) = []

  -- the names of a document's operations, in their order, with repeats
  abbrev pub operation_names : List (Definition S) → List (List ℕ)
  operation_names doc = flat_map name_of_operation doc

  abbrev pub listed_arguments : Option (Placed (Arguments S)) → List (ArgumentEntry S)
  listed_arguments None = []
  listed_arguments (Some list) = list.item.items.items

  -- the arguments that a node has
  abbrev pub arguments_of : Node S → List (ArgumentEntry S)
  arguments_of (field f) = listed_arguments f.item.arguments
  arguments_of (directive d) = listed_arguments d.item.arguments
  arguments_of _ = []

  -- the type condition that a node has
  abbrev pub condition_of : Node S → Option Name
  condition_of (fragment_definition f) = Some f.item.type_condition
  condition_of (inline_fragment i) = i.item.type_condition
  condition_of _ = None

  -- the keys of an object
  abbrev pub keys_of : List (ObjectEntry S) → List (List ℕ)
  keys_of entries = map (λ e. string_bytes e.0.item) entries

module _ {S C : Type 0} (schema : Catalog S C) where
  abbrev pub IsKnownType : List ℕ → Type 0
  IsKnownType name = (m : MetaTypeOf S C) × (type_in name schema ≡ Some m)

  module _ (t : Typing S C) (doc : List (Definition S)) where
    -- the node stands in the document
    abbrev pub Occurs : Node S → Type 0
    Occurs node = (o : Occurrence S C) × Contains (occurrences schema t doc) o × (o.node ≡ node)

    pub record CleanDocument : Type 0 where
      -- no fragment leads back to itself
      pub no_cycle : HasNoCycle doc
      -- all operations that have names have different ones, and so have all fragments
      pub operations : are_distinct (operation_names doc) ≡ true
      pub fragments : are_distinct (fragment_names doc) ≡ true
      -- and the variables of an operation, the arguments of a node, the keys of an object
      pub variables : (o : Placed (Operation S)) → Contains doc (definition.Operation o)
          → are_distinct (names_in (definitions_of o.item)) ≡ true
      pub arguments : (node : Node S) → Occurs node → are_distinct (names_in (arguments_of node)) ≡ true
      pub keys : (v : Placed (List (ObjectEntry S))) → Occurs (object_value v) → are_distinct (keys_of v.item) ≡ true
      -- so the value of no argument repeats a key, at any depth
      pub values : (node : Node S) → Occurs node → (a : ArgumentEntry S) → Contains (arguments_of node) a → has_unique_keys a.1.item ≡ true
      -- each spread names a fragment of the document, and each condition a type of the schema
      pub spreads : (s : Placed (FragmentSpread S)) → Occurs (fragment_spread s) → Defines doc s.item.name.item.now
      pub conditions : (node : Node S) → Occurs node → (name : Name) → condition_of node ≡ Some name → IsKnownType name.item.now
      -- the type of each variable is built of an input type, which is what judging its value asks
      pub variable_types : (o : Placed (Operation S)) → Contains doc (definition.Operation o) → HasInputTypes schema o.item

-- a document that meets the condition is such a document
abbrev pub IsCleanWhere : {S C : Type 0} → Condition S C → Type 0
IsCleanWhere {S} {C} condition =
    (schema : Catalog S C) (t : Typing S C) (doc : List (Definition S)) → condition (scope_of schema doc) t doc → CleanDocument schema t doc
