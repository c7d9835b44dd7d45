-- The graph of input objects, by numbers: its nodes are the types of a list, and its edges their required fields.
use Rattle.std.specs.Prelude.{◌≡◌, ◌<◌, ◌+◌, ℕ, List, [], ◌∷◌, ◌++◌, Option, None, Some, length, slice_get}
use Rattle.std.specs.Prelude.{string_bytes, if◌then◌else◌}
use Rattle.std.specs.List.{All}
use Rattle.std.specs.Option.{option_map_or}
use Rattle.std.specs.Str.{bytes_eq}
use Rattle.language_types.specs.declared.types.TypeModifier.{TypeModifier}
use Rattle.language_types.specs.declared.types.TypeModifier.TheVariants as modifier
use Rattle.language_types.specs.Types.{TypeShape, shape}
use Rattle.meta.specs.declared.arguments.Argument.{Argument}
use Rattle.meta.specs.declared.kinds.MetaTypeOf.{MetaTypeOf}
use Rattle.meta.specs.declared.kinds.MetaTypeOf.TheVariants as m
use Rattle.meta.specs.declared.kinds.TypeKind.TheVariants as k
use Rattle.meta.specs.Kinds.{input_fields_of, kind_of_meta, name_of_meta}
use Rattle.name_tables.specs.Adding.{or_else}
use Rattle.name_tables.specs.declared.map.NameMap.{NameMap}
use Rattle.name_tables.specs.Maps.{value_of}
use Rattle.type_system_circles.specs.declared.graph.Edge.{Edge}
use Rattle.type_system_circles.specs.declared.graph.Link.{Link}
use Rattle.type_system_circles.specs.declared.search.Circle.{Circle}
use Rattle.type_system_inputs.specs.Inputs.{FieldName}

-- something, if a type with these modifiers is non-null and no list
abbrev pub if_required : {A : Type 0} → List TypeModifier → Option A → Option A
if_required (modifier.NonNull ∷ []) o = o
if_required _ o = None

-- the place of the input object that a type requires
abbrev pub required_place : NameMap ℕ → TypeShape → Option ℕ
required_place places t = if_required t.modifiers (value_of places t.name)

-- the edge of the field at an index to that place
abbrev pub edge_to : ℕ → Option ℕ → List Edge
edge_to i None = []
edge_to i (Some v) = record { target = v; field = i } ∷ []

module _ {S : Type 0} (places : NameMap ℕ) where
  -- the edges of fields, of which the first has this index
  abbrev pub edges_from : ℕ → List (Argument S) → List Edge
  edges_from i [] = []
  edges_from i (a ∷ fs) = edge_to i (required_place places (shape a.arg_type)) ++ edges_from (i + 1) fs

module _ {S C : Type 0} where
  -- an input object of this name is at this place
  pub record IsInputAt (ts : List (MetaTypeOf S C)) (n : List ℕ) (v : ℕ) : Type 0 where
    pub object : MetaTypeOf S C
    pub there : slice_get ts v ≡ Some object
    pub named : name_of_meta object ≡ Some n
    pub input : kind_of_meta object ≡ Some k.InputObject

  -- The map has the input objects of the list, each with a place.
  pub record HasPlaces (ts : List (MetaTypeOf S C)) (places : NameMap ℕ) : Type 0 where
    pub real : (n : List ℕ) (v : ℕ) → value_of places n ≡ Some v → IsInputAt ts n v
    pub whole : (n : List ℕ) (v : ℕ) → IsInputAt ts n v → (w : ℕ) × (value_of places n ≡ Some w)

  -- the place of an input object is noted, unless its name has one; of another type nothing is
  abbrev pub IsNoted : MetaTypeOf S C → ℕ → NameMap ℕ → NameMap ℕ → Type 0
  IsNoted (m.InputObject x) place old new =
      (n : List ℕ) → value_of new n ≡ or_else (value_of old n)
      (if bytes_eq (string_bytes x.name) n then Some place else None)
  IsNoted _ place old new = new ≡ old

  -- the name of a type that has one
  abbrev pub type_name : MetaTypeOf S C → List ℕ
  type_name t = option_map_or (λ n. n) (name_of_meta t) []

  -- the name of the type at a place
  abbrev pub name_at : List (MetaTypeOf S C) → ℕ → List ℕ
  name_at ts v = option_map_or type_name (slice_get ts v) []

  -- the name of the input field at an index
  abbrev pub input_field_at : MetaTypeOf S C → ℕ → List ℕ
  input_field_at t i = option_map_or (λ a. string_bytes a.name) (slice_get (input_fields_of t) i) []

  -- the link stands for a field of the list
  abbrev pub IsFieldLink : List (MetaTypeOf S C) → Link → Type 0
  IsFieldLink ts l = (t : MetaTypeOf S C) × (slice_get ts l.from ≡ Some t) × (l.edge.field < length (input_fields_of t))

  -- the field for which it stands
  abbrev pub field_of : List (MetaTypeOf S C) → Link → FieldName
  field_of ts l = record { of = name_at ts l.from; name = option_map_or (λ t. input_field_at t l.edge.field) (slice_get ts l.from) [] }

  -- links, at least one, that stand for fields
  pub record IsFieldCircle (ts : List (MetaTypeOf S C)) (c : Circle) : Type 0 where
    pub some : 0 < length c.links.items
    pub fields : All (IsFieldLink ts) c.links.items
