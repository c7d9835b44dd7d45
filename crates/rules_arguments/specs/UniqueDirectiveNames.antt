-- Later directives of a name, where the name may stand once (section 5.7.3).
use Rattle.std.specs.Prelude.{◌≡◌, ℕ, List, [], ◌∷◌, ◌++◌, Bool, true, false, not, Option, Some, None, if◌then◌else◌}
use Rattle.std.specs.Prelude.{codes, map}
use Rattle.std.specs.declared.alloc.Global.{Global}
use Rattle.std.specs.declared.vec.Vec.{Vec}
use Rattle.std.specs.List.{filter, flat_map}
use Rattle.language_values.specs.ValuesEqual.{are_distinct}
use Rattle.language.specs.declared.tree.Directive.{Directive}
use Rattle.schema.specs.Catalog.{Catalog, directive_in}
use Rattle.schema_validation.specs.declared.directives.DirectiveType.{DirectiveType}
use Rattle.walk.specs.ContextState.{DocumentScope}
use Rattle.walk.specs.ErrorValue.{ErrorValue}
use Rattle.events.specs.Node.{Node, Placed, operation_definition, fragment_definition, variable_definition, field}
use Rattle.events.specs.Node.{fragment_spread, inline_fragment}
use Rattle.events.specs.Occurrence.{Occurrence}
use Rattle.rules_support.specs.Names.{Named}
use Rattle.rules_support.specs.Repeats.{repeats}
use Rattle.rules_arguments.specs.declared.unique_directive_names.Whole.{Whole}

abbrev pub repeated_directive_message : List ℕ → List ℕ
repeated_directive_message name = (codes "Directive \"" ++ name) ++ codes "\" may be used only once here"

-- the name of a directive, with the place where the whole directive starts
abbrev pub whole_name : Whole → Named
whole_name w = (w.name.now, w.start)

-- it is known, and isn't repeatable
abbrev pub is_once_by : {S : Type 0} → Option (DirectiveType S) → Bool
is_once_by None = false
is_once_by (Some known) = not known.is_repeatable

-- the directives of a node, where it may have some
abbrev pub directives_at : {S : Type 0} → Node S → Option (Vec (Placed (Directive S)) Global)
directives_at (operation_definition o) = o.item.directives
directives_at (fragment_definition f) = f.item.directives
directives_at (variable_definition d) = d.1.directives
directives_at (field f) = f.item.directives
directives_at (fragment_spread s) = s.item.directives
directives_at (inline_fragment i) = i.item.directives
directives_at _ = None

module _ {S C : Type 0} where
  -- by what the schema says of it
  abbrev pub is_once : Catalog S C → Placed (Directive S) → Bool
  is_once schema d = is_once_by (directive_in d.item.name.item.now schema)

  -- such a directive, by its name
  abbrev pub once_here : Catalog S C → Placed (Directive S) → List Named
  once_here schema d = if is_once schema d then (d.item.name.item.now, d.span.start) ∷ [] else []

  -- those of a list
  abbrev pub once_among : Catalog S C → List (Placed (Directive S)) → List Named
  once_among schema ds = flat_map (once_here schema) ds

  -- those whose name stands earlier among them, if there is a list
  abbrev pub repeated_in : Catalog S C → Option (Vec (Placed (Directive S)) Global) → List ErrorValue
  repeated_in schema None = []
  repeated_in schema (Some ds) = repeats repeated_directive_message (once_among schema ds.items)

  -- at each node that may have directives: each that may stand once and stands earlier in the node's list
  abbrev pub repeated_directives : DocumentScope S C → Occurrence S C → List ErrorValue
  repeated_directives scope o = repeated_in scope.schema (directives_at o.node)

  -- the names of those of a list that may stand once
  abbrev pub once_names : Catalog S C → List (Placed (Directive S)) → List (List ℕ)
  once_names schema ds = map (λ d. d.item.name.item.now) (filter (is_once schema) ds)

  -- no two of them are the same, if there is a list
  abbrev pub AreDistinctDirectives : Catalog S C → Option (Vec (Placed (Directive S)) Global) → Type 0
  AreDistinctDirectives schema None = Unit {0}
  AreDistinctDirectives schema (Some ds) = are_distinct (once_names schema ds.items) ≡ true
