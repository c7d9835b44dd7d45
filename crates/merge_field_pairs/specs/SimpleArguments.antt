-- Arguments that are compared without memory.
use Rattle.std.specs.Prelude.{◌≡◌, Option, Some, None}
use Rattle.std.specs.List.{All}
use Rattle.language_values.specs.Values.{list_items, object_entries}
use Rattle.language_types.specs.declared.position.Span.{Span}
use Rattle.language_types.specs.declared.position.Spanning.{Spanning}
use Rattle.language.specs.declared.tree.Arguments.{Arguments}
use Rattle.language_values.specs.declared.value.InputValue.{InputValue}
use Rattle.merge_field_pairs.specs.Entries.{PlainEntry}

module _ {S : Type 0} where
  -- a value that is no list and no object
  abbrev pub IsSimple : InputValue S → Type 0
  IsSimple v = (list_items v ≡ None) × (object_entries v ≡ None)

  -- each argument's value is simple
  abbrev pub AreSimple : Option (Spanning (Arguments S) Span) → Type 0
  AreSimple None = Unit {0}
  AreSimple (Some l) = All (λ p. IsSimple p.1.item) l.item.items.items

  -- the arguments of a field
  abbrev pub HasSimpleArguments : {C : Type 0} → PlainEntry S C → Type 0
  HasSimpleArguments a = AreSimple a.field.item.arguments
