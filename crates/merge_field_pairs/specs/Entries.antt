-- A field of a selection set with what the schema says of it (section 5.3.2).
use Rattle.std.specs.Prelude.{◌≡◌, ℕ, List, Bool, true, false, not, ◌||◌, Option, Some, None, option_and_then}
use Rattle.std.specs.Prelude.{string_bytes}
use Rattle.std.specs.Option.{option_map_or, option_copied}
use Rattle.std.specs.Str.{bytes_eq}
use Rattle.language_types.specs.declared.position.Span.{Span}
use Rattle.language_types.specs.declared.position.Spanning.{Spanning}
use Rattle.language.specs.declared.tree.Field.{Field}
use Rattle.meta.specs.declared.fields.Field as metadata
use Rattle.meta.specs.declared.kinds.MetaTypeOf.{MetaTypeOf}
use Rattle.meta.specs.declared.kinds.MetaTypeOf.TheVariants as m
use Rattle.merge_field_pairs.specs.SameArguments.{are_tidy}
use Rattle.merge_field_pairs.specs.declared.entry.Entry.{Entry}

-- an entry by its values alone: of two references to equal values both give one
pub record PlainEntry (S C : Type 0) : Type 0 where
  pub parent : Option (MetaTypeOf S C)
  pub field : Spanning (Field S) Span
  pub metadata : Option (metadata.Field S)

-- two names that differ
abbrev pub are_different : Option (List ℕ) → Option (List ℕ) → Bool
are_different (Some l) (Some r) = not (bytes_eq l r)
are_different (Some l) None = false
are_different None (Some r) = false
are_different None None = false

module _ {S C : Type 0} where
  abbrev pub plain : Entry S C → PlainEntry S C
  plain a = record { parent = option_copied a.parent; field = a.field.now; metadata = option_copied a.metadata }

  -- the alias, or the name
  abbrev pub response_of : PlainEntry S C → List ℕ
  response_of a = option_map_or (λ n. n.item.now) a.field.item.alias a.field.item.name.item.now

  -- the name of an object type
  abbrev pub object_name : MetaTypeOf S C → Option (List ℕ)
  object_name (m.Object x) = Some (string_bytes x.name)
  object_name _ = None

  -- two object types of different names
  abbrev pub are_two_objects : Option (MetaTypeOf S C) → Option (MetaTypeOf S C) → Bool
  are_two_objects p q = are_different (option_and_then object_name p) (option_and_then object_name q)

  -- the flag, or the types around the fields are two object types
  abbrev pub exclusive_of : Bool → PlainEntry S C → PlainEntry S C → Bool
  exclusive_of flag a b = flag || are_two_objects a.parent b.parent

  -- no two of its arguments have one name, and no two entries of an object in their values one key
  abbrev pub IsTidy : PlainEntry S C → Type 0
  IsTidy a = are_tidy a.field.item.arguments ≡ true
