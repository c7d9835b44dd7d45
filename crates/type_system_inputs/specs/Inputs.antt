-- Input objects that lead back to themselves by required fields (section 3.10).
use Rattle.std.specs.Prelude.{◌≡◌, ◌≤◌, ℕ, List, Some, slice_get, string_bytes}
use Rattle.std.specs.List.{Contains}
use Rattle.language_types.specs.Types.{non_null_named, shape}
use Rattle.meta.specs.declared.arguments.Argument.{Argument}
use Rattle.meta.specs.declared.kinds.MetaTypeOf.{MetaTypeOf}
use Rattle.meta.specs.declared.kinds.TypeKind.TheVariants as k
use Rattle.meta.specs.Kinds.{input_fields_of, kind_of_meta, name_of_meta}
use Rattle.schema.specs.Catalog.{Catalog}
use Rattle.type_system_circles.specs.Named.{FindsNamedCircles}

-- a field of an input object: the name of the type, and its own
pub record FieldName : Type 0 where
  pub of : List ℕ
  pub name : List ℕ

module _ {S C : Type 0} where
  -- the type of this name is at this place of the list
  abbrev pub IsTypeAt : List (MetaTypeOf S C) → List ℕ → ℕ → Type 0
  IsTypeAt ts n i = (t : MetaTypeOf S C) × (slice_get ts i ≡ Some t) × (name_of_meta t ≡ Some n)

  -- the list has an input object of this name
  abbrev pub HasInputObject : List (MetaTypeOf S C) → List ℕ → Type 0
  HasInputObject ts n = (t : MetaTypeOf S C) × Contains ts t × (name_of_meta t ≡ Some n) × (kind_of_meta t ≡ Some k.InputObject)

  -- the list has an input object with the field, whose type is that of this name, non-null and no list
  pub record HasRequiredField (ts : List (MetaTypeOf S C)) (f : FieldName) (n : List ℕ) : Type 0 where
    pub object : MetaTypeOf S C
    pub listed : Contains ts object
    pub named : name_of_meta object ≡ Some f.of
    pub field : Argument S
    pub own : Contains (input_fields_of object) field
    pub field_named : string_bytes field.name ≡ f.name
    pub required : shape field.arg_type ≡ non_null_named n

  -- and that is an input object, too
  pub record Requires (ts : List (MetaTypeOf S C)) (f : FieldName) (n : List ℕ) : Type 0 where
    pub field : HasRequiredField ts f n
    pub target : HasInputObject ts n

  -- the type of the first name stands no later in the list than that of the second
  abbrev pub IsNoLater : List (MetaTypeOf S C) → List ℕ → List ℕ → Type 0
  IsNoLater ts a b = (i j : ℕ) → IsTypeAt ts a i → IsTypeAt ts b j → i ≤ j

  -- What was told of a schema's input objects. Each list of fields is a circle, passes no type twice and begins at its
  -- first type, and each circle has a field of one of them. There is none if and only if no input object leads back to
  -- itself.
  abbrev pub FindsInputCircles : Catalog S C → List (List FieldName) → Type 0
  FindsInputCircles schema told = FindsNamedCircles (λ (f : FieldName). f.of) (Requires schema.types) (IsNoLater schema.types) told
