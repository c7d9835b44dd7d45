-- Arguments that their field or their directive does not define (section 5.4.1).
use Rattle.std.specs.Prelude.{◌≡◌, ℕ, List, [], ◌∷◌, ◌++◌, Bool, true, Option, Some, None, is_some, find, if◌then◌else◌}
use Rattle.std.specs.Prelude.{codes, string_bytes}
use Rattle.std.specs.List.{Contains, flat_map}
use Rattle.std.specs.Option.{option_map, option_map_or}
use Rattle.std.specs.Str.{bytes_eq}
use Rattle.language.specs.declared.tree.Arguments.{Arguments}
use Rattle.language.specs.declared.tree.Directive.{Directive}
use Rattle.language.specs.declared.tree.Field.{Field}
use Rattle.meta.specs.declared.arguments.Argument.{Argument}
use Rattle.meta.specs.declared.kinds.MetaTypeOf.{MetaTypeOf}
use Rattle.schema.specs.Catalog.{Catalog}
use Rattle.walk.specs.ContextState.{DocumentScope}
use Rattle.walk.specs.ErrorValue.{ErrorValue}
use Rattle.events.specs.Node.{Node, Name, Placed, ArgumentEntry, field, directive}
use Rattle.events.specs.Occurrence.{Occurrence}
use Rattle.events.specs.SchemaView.{field_of, directive_arguments}
use Rattle.rules_arguments.specs.Bearers.{name_of_known}
use Rattle.rules_arguments.specs.declared.bearers.Bearer.{Bearer}
use Rattle.rules_arguments.specs.declared.bearers.Bearer.TheVariants as bearer

abbrev pub unknown_on_field_message : List ℕ → List ℕ → List ℕ → List ℕ
unknown_on_field_message name parent argument =
    (((((codes "Unknown argument \"" ++ argument) ++ codes "\" on field \"") ++ name) ++ codes "\" of type \"") ++ parent) ++ codes "\""

abbrev pub unknown_on_directive_message : List ℕ → List ℕ → List ℕ
unknown_on_directive_message name argument =
    (((codes "Unknown argument \"" ++ argument) ++ codes "\" on directive \"") ++ name) ++ codes "\""

abbrev pub unknown_message : Bearer → List ℕ → List ℕ
unknown_message (bearer.Field name parent) = unknown_on_field_message name.now parent.now
unknown_message (bearer.Directive name) = unknown_on_directive_message name.now

module _ {S : Type 0} where
  -- one of these arguments has the name
  abbrev pub is_known : List (Argument S) → List ℕ → Bool
  is_known known name = is_some (find (λ a. bytes_eq (string_bytes a.name) name) known)

  -- a name that is not among these, reported
  abbrev pub unknown_name : (List ℕ → List ℕ) → List (Argument S) → Name → List ErrorValue
  unknown_name message known name =
      if is_known known name.item.now then [] else record { locations = name.span.start ∷ []; message = message name.item.now } ∷ []

  -- an argument, by its name
  abbrev pub unknown_argument : (List ℕ → List ℕ) → List (Argument S) → ArgumentEntry S → List ErrorValue
  unknown_argument message known a = unknown_name message known a.0

  -- each of the arguments that is not among these
  abbrev pub unknown_among : (List ℕ → List ℕ) → List (Argument S) → Option (Placed (Arguments S)) → List ErrorValue
  unknown_among message known None = []
  unknown_among message known (Some written) = flat_map (unknown_argument message known) written.item.items.items

  -- where no list of arguments is known, none is unknown
  abbrev pub unknown_where_known : (List ℕ → List ℕ) → Option (List (Argument S)) → Option (Placed (Arguments S)) → List ErrorValue
  unknown_where_known message None written = []
  unknown_where_known message (Some known) written = unknown_among message known written

  -- each argument that is written is one of these, where a list of them is known
  abbrev pub AreKnown : Option (List (Argument S)) → Option (Placed (Arguments S)) → Type 0
  AreKnown (Some known) (Some written) = (a : ArgumentEntry S) → Contains written.item.items.items a → is_known known a.0.item.now ≡ true
  AreKnown _ _ = Unit {0}

module _ {S C : Type 0} where
  -- the arguments of a field that the type has; without a list of them it has none
  abbrev pub known_on_field : Option (MetaTypeOf S C) → List ℕ → Option (List (Argument S))
  known_on_field parent name = option_map (λ f. option_map_or (λ v. v.items) f.arguments []) (field_of parent name)

  -- of a field that the type has, each argument that the field does not define
  abbrev pub unknown_on_field : Option (MetaTypeOf S C) → Field S → List ErrorValue
  unknown_on_field parent f =
      unknown_where_known (unknown_on_field_message f.name.item.now (name_of_known parent))
      (known_on_field parent f.name.item.now) f.arguments

  -- of a directive that is known, each argument that is none of its own
  abbrev pub unknown_on_directive : Catalog S C → Directive S → List ErrorValue
  unknown_on_directive schema d =
      unknown_where_known (unknown_on_directive_message d.name.item.now) (directive_arguments schema d.name.item.now) d.arguments

  -- at a node: a field or a directive
  abbrev pub unknown_at : Catalog S C → Option (MetaTypeOf S C) → Node S → List ErrorValue
  unknown_at schema parent (field f) = unknown_on_field parent f.item
  unknown_at schema parent (directive d) = unknown_on_directive schema d.item
  unknown_at schema parent _ = []

  -- at a field and at a directive: each argument that it does not define
  abbrev pub unknown_arguments : DocumentScope S C → Occurrence S C → List ErrorValue
  unknown_arguments scope o = unknown_at scope.schema o.types.parent o.node

  -- at a node: the arguments of a field, and of a directive
  abbrev pub HasKnown : Catalog S C → Option (MetaTypeOf S C) → Node S → Type 0
  HasKnown schema parent (field f) = AreKnown (known_on_field parent f.item.name.item.now) f.item.arguments
  HasKnown schema parent (directive d) = AreKnown (directive_arguments schema d.item.name.item.now) d.item.arguments
  HasKnown schema parent _ = Unit {0}
