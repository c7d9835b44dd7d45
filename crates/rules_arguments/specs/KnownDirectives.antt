-- Directives that the schema does not define, or that are not allowed where they stand (sections 5.7.1 and 5.7.2).
use Rattle.std.specs.Prelude.{◌≡◌, ℕ, List, [], ◌∷◌, ◌++◌, Bool, Option, Some, None, if◌then◌else◌, codes}
use Rattle.std.specs.declared.alloc.Global.{Global}
use Rattle.std.specs.declared.vec.Vec.{Vec}
use Rattle.std.specs.List.{Contains, flat_map, list_any}
use Rattle.std.specs.Str.{bytes_eq}
use Rattle.language.specs.declared.tree.Directive.{Directive}
use Rattle.language.specs.declared.tree.OperationType.{OperationType}
use Rattle.language.specs.declared.tree.OperationType.TheVariants as kind
use Rattle.schema.specs.Catalog.{Catalog, directive_in}
use Rattle.schema_validation.specs.Locations.{location_words}
use Rattle.schema_validation.specs.declared.directives.DirectiveLocation.{DirectiveLocation}
use Rattle.schema_validation.specs.declared.directives.DirectiveLocation.TheVariants as l
use Rattle.schema_validation.specs.declared.directives.DirectiveType.{DirectiveType}
use Rattle.walk.specs.ContextState.{DocumentScope}
use Rattle.walk.specs.ErrorValue.{ErrorValue}
use Rattle.events.specs.Node.{Node, Placed, operation_definition, fragment_definition, variable_definition, field}
use Rattle.events.specs.Node.{fragment_spread, inline_fragment}
use Rattle.events.specs.Occurrence.{Occurrence}

abbrev pub unknown_directive_message : List ℕ → List ℕ
unknown_directive_message name = (codes "Unknown directive \"" ++ name) ++ codes "\""

abbrev pub misplaced_message : List ℕ → List ℕ → List ℕ
misplaced_message name place = (codes "Directive \"" ++ name) ++ (codes "\" may not be used on " ++ place)

-- places are one if their words are
abbrev pub is_one_place : DirectiveLocation → DirectiveLocation → Bool
is_one_place one other = bytes_eq (location_words one) (location_words other)

-- the place is one of those
abbrev pub is_listed : DirectiveLocation → List DirectiveLocation → Bool
is_listed place locations = list_any (λ location. is_one_place location place) locations

-- where the directives of an operation stand
abbrev pub operation_place : OperationType → DirectiveLocation
operation_place kind.Query = l.Query
operation_place kind.Mutation = l.Mutation
operation_place kind.Subscription = l.Subscription

module _ {S : Type 0} where
  -- a directive with what the schema says of it
  abbrev pub unsuitable_by : DirectiveLocation → Placed (Directive S) → Option (DirectiveType S) → List ErrorValue
  unsuitable_by place d None = record { locations = d.span.start ∷ []; message = unknown_directive_message d.item.name.item.now } ∷ []
  unsuitable_by place d (Some known) =
      if is_listed place known.locations.items then [] else record
      { locations = d.span.start ∷ []; message = misplaced_message d.item.name.item.now (location_words place) } ∷
      []

module _ {S C : Type 0} where
  -- a directive at a place: it is known, and the place is listed
  abbrev pub unsuitable : Catalog S C → DirectiveLocation → Placed (Directive S) → List ErrorValue
  unsuitable schema place d = unsuitable_by place d (directive_in d.item.name.item.now schema)

  -- each directive of a list, if there is one
  abbrev pub unsuitable_among : Catalog S C → DirectiveLocation → Option (Vec (Placed (Directive S)) Global) → List ErrorValue
  unsuitable_among schema place None = []
  unsuitable_among schema place (Some ds) = flat_map (unsuitable schema place) ds.items

  -- at a node: its directives, at the place that the node is
  abbrev pub unsuitable_at : Catalog S C → Node S → List ErrorValue
  unsuitable_at schema (operation_definition o) = unsuitable_among schema (operation_place o.item.operation_type) o.item.directives
  unsuitable_at schema (fragment_definition f) = unsuitable_among schema l.FragmentDefinition f.item.directives
  unsuitable_at schema (variable_definition d) = unsuitable_among schema l.VariableDefinition d.1.directives
  unsuitable_at schema (field f) = unsuitable_among schema l.Field f.item.directives
  unsuitable_at schema (fragment_spread s) = unsuitable_among schema l.FragmentSpread s.item.directives
  unsuitable_at schema (inline_fragment i) = unsuitable_among schema l.InlineFragment i.item.directives
  unsuitable_at schema _ = []

  -- at each node that may have directives: those that are not known, and those that are not allowed there
  abbrev pub unsuitable_directives : DocumentScope S C → Occurrence S C → List ErrorValue
  unsuitable_directives scope o = unsuitable_at scope.schema o.node

  -- the directive is known, and may stand at the place
  abbrev pub IsSuitable : Catalog S C → DirectiveLocation → Placed (Directive S) → Type 0
  IsSuitable schema place d =
      (known : DirectiveType S) × (directive_in d.item.name.item.now schema ≡ Some known)
      × Contains known.locations.items place

  -- each directive of a list, if there is one
  abbrev pub AreSuitable : Catalog S C → DirectiveLocation → Option (Vec (Placed (Directive S)) Global) → Type 0
  AreSuitable schema place None = Unit {0}
  AreSuitable schema place (Some ds) = (d : Placed (Directive S)) → Contains ds.items d → IsSuitable schema place d

  -- at a node: its directives, at the place that the node is
  abbrev pub HasSuitable : Catalog S C → Node S → Type 0
  HasSuitable schema (operation_definition o) = AreSuitable schema (operation_place o.item.operation_type) o.item.directives
  HasSuitable schema (fragment_definition f) = AreSuitable schema l.FragmentDefinition f.item.directives
  HasSuitable schema (variable_definition d) = AreSuitable schema l.VariableDefinition d.1.directives
  HasSuitable schema (field f) = AreSuitable schema l.Field f.item.directives
  HasSuitable schema (fragment_spread s) = AreSuitable schema l.FragmentSpread s.item.directives
  HasSuitable schema (inline_fragment i) = AreSuitable schema l.InlineFragment i.item.directives
  HasSuitable schema _ = Unit {0}
