-- Required arguments that are not given (section 5.4.2.1).
use Rattle.std.specs.Prelude.{◌≡◌, true, ℕ, List, [], ◌∷◌, ◌++◌, Bool, false, ◌&&◌, not, Option, Some, None, is_some}
use Rattle.std.specs.Prelude.{is_none, if◌then◌else◌, codes, string_bytes}
use Rattle.std.specs.List.{Contains, flat_map}
use Rattle.language.specs.Pairs.{first_of_name}
use Rattle.language_types.specs.Types.{shape, is_never_null, printed}
use Rattle.language_types.specs.declared.position.SourcePosition.{SourcePosition}
use Rattle.language.specs.declared.tree.Arguments.{Arguments}
use Rattle.language.specs.declared.tree.Directive.{Directive}
use Rattle.language.specs.declared.tree.Field.{Field}
use Rattle.meta.specs.declared.arguments.Argument.{Argument}
use Rattle.meta.specs.declared.kinds.MetaTypeOf.{MetaTypeOf}
use Rattle.schema.specs.Catalog.{Catalog}
use Rattle.walk.specs.ContextState.{DocumentScope}
use Rattle.walk.specs.ErrorValue.{ErrorValue}
use Rattle.events.specs.Node.{Node, Placed, field, directive}
use Rattle.events.specs.Occurrence.{Occurrence}
use Rattle.events.specs.SchemaView.{field_arguments, directive_arguments}
use Rattle.rules_arguments.specs.declared.bearers.Bearer.{Bearer}
use Rattle.rules_arguments.specs.declared.bearers.Bearer.TheVariants as bearer

-- the words of the message for a field
abbrev pub on_field : List ℕ → List ℕ
on_field name = (codes "Field \"" ++ name) ++ codes "\" argument \""

-- the words of the message for a directive
abbrev pub on_directive : List ℕ → List ℕ
on_directive name = (codes "Directive \"@" ++ name) ++ codes "\" argument \""

-- the words before an argument's name, the name and the type
abbrev pub missing_message : List ℕ → List ℕ → List ℕ → List ℕ
missing_message words argument t = (((words ++ argument) ++ codes "\" of type \"") ++ t) ++ codes "\" is required but not provided"

abbrev pub words_before : Bearer → List ℕ
words_before (bearer.Field name parent) = on_field name.now
words_before (bearer.Directive name) = on_directive name.now

module _ {S : Type 0} where
  -- on a field: its type is not null, and no default value stands in for it
  abbrev pub required_on_field : Argument S → Bool
  required_on_field a = is_never_null (shape a.arg_type) && is_none a.default_value

  -- on a directive a default value does not count
  abbrev pub required_on_directive : Argument S → Bool
  required_on_directive a = is_never_null (shape a.arg_type)

  -- an argument of this name is written
  abbrev pub is_given : Option (Placed (Arguments S)) → List ℕ → Bool
  is_given None name = false
  is_given (Some written) name = is_some (first_of_name name written.item.items.items)

  -- a required argument that is not among those that were written, reported at a place
  abbrev pub missing_argument : (Argument S → Bool) → List ℕ → SourcePosition → Option (Placed (Arguments S)) → Argument S → List ErrorValue
  missing_argument required words place written a =
      if required a && not (is_given written (string_bytes a.name)) then record
      { locations = place ∷ []; message = missing_message words (string_bytes a.name) (printed (shape a.arg_type)) }
      ∷ [] else []

  -- each of the known arguments, where a list of them is known
  abbrev pub missing_where_known : (Argument S → Bool) → List ℕ → SourcePosition → Option (List (Argument S))
      → Option (Placed (Arguments S)) → List ErrorValue
  missing_where_known required words place None written = []
  missing_where_known required words place (Some known) written = flat_map (missing_argument required words place written) known

  abbrev pub is_required : Bearer → Argument S → Bool
  is_required (bearer.Field name parent) a = required_on_field a
  is_required (bearer.Directive name) a = required_on_directive a

  -- each required argument is given, where a list of the known ones is known
  abbrev pub AreGiven : (Argument S → Bool) → Option (List (Argument S)) → Option (Placed (Arguments S)) → Type 0
  AreGiven required None written = Unit {0}
  AreGiven required (Some known) written =
      (a : Argument S) → Contains known a → required a ≡ true → is_given written (string_bytes a.name) ≡ true

module _ {S C : Type 0} where
  -- the missing arguments of a field
  abbrev pub missing_on_field : Option (MetaTypeOf S C) → Placed (Field S) → List ErrorValue
  missing_on_field parent f =
      missing_where_known required_on_field (on_field f.item.name.item.now) f.span.start
      (field_arguments parent f.item.name.item.now) f.item.arguments

  -- the missing arguments of a directive
  abbrev pub missing_on_directive : Catalog S C → Placed (Directive S) → List ErrorValue
  missing_on_directive schema d =
      missing_where_known required_on_directive (on_directive d.item.name.item.now) d.span.start
      (directive_arguments schema d.item.name.item.now) d.item.arguments

  -- at a node: a field or a directive
  abbrev pub missing_at : Catalog S C → Option (MetaTypeOf S C) → Node S → List ErrorValue
  missing_at schema parent (field f) = missing_on_field parent f
  missing_at schema parent (directive d) = missing_on_directive schema d
  missing_at schema parent _ = []

  -- at a field and at a directive: each required argument that is not given
  abbrev pub missing_arguments : DocumentScope S C → Occurrence S C → List ErrorValue
  missing_arguments scope o = missing_at scope.schema o.types.parent o.node

  -- at a node: the required arguments of a field, and of a directive
  abbrev pub HasRequired : Catalog S C → Option (MetaTypeOf S C) → Node S → Type 0
  HasRequired schema parent (field f) = AreGiven required_on_field (field_arguments parent f.item.name.item.now) f.item.arguments
  HasRequired schema parent (directive d) =
      AreGiven required_on_directive (directive_arguments schema d.item.name.item.now) d.item.arguments
  HasRequired schema parent _ = Unit {0}
