-- The names of types that metadata names (section 3.3).
use Rattle.std.specs.Prelude.{ℕ, List, [], ◌∷◌, ◌++◌, codes, map, string_bytes}
use Rattle.std.specs.List.{flat_map}
use Rattle.language_types.specs.Types.{shape}
use Rattle.meta.specs.declared.arguments.Argument.{Argument}
use Rattle.meta.specs.declared.fields.Field.{Field}
use Rattle.meta.specs.declared.kinds.MetaTypeOf.{MetaTypeOf}
use Rattle.meta.specs.declared.kinds.MetaTypeOf.TheVariants as m
use Rattle.meta.specs.Arguments.{arguments_of}
use Rattle.meta.specs.Kinds.{fields_of, input_fields_of}

-- the innermost name of the type of an argument or an input field
abbrev pub argument_type : {S : Type 0} → Argument S → List ℕ
argument_type a = (shape a.arg_type).name

-- those of a field's arguments
abbrev pub field_inputs : {S : Type 0} → Field S → List (List ℕ)
field_inputs f = map argument_type (arguments_of f)

-- that of a field's own type, and those of its arguments
abbrev pub field_names : {S : Type 0} → Field S → List (List ℕ)
field_names f = (shape f.field_type).name ∷ field_inputs f

module _ {S C : Type 0} where
  -- the interfaces of an object or an interface
  abbrev pub interfaces_of : MetaTypeOf S C → List (List ℕ)
  interfaces_of (m.Object x) = map string_bytes x.interface_names.items
  interfaces_of (m.Interface x) = map string_bytes x.interface_names.items
  interfaces_of _ = []

  -- the members of a union
  abbrev pub members_of : MetaTypeOf S C → List (List ℕ)
  members_of (m.Union x) = map string_bytes x.of_type_names.items
  members_of _ = []

  -- the types of the arguments and the input fields of a type
  abbrev pub inputs_in : MetaTypeOf S C → List (List ℕ)
  inputs_in t = flat_map field_inputs (fields_of t) ++ map argument_type (input_fields_of t)

  -- all types that a type names
  abbrev pub names_in : MetaTypeOf S C → List (List ℕ)
  names_in t = flat_map field_names (fields_of t) ++ (map argument_type (input_fields_of t) ++ (interfaces_of t ++ members_of t))

-- the types of the arguments of the fields and the directives that a schema adds
abbrev pub added_inputs : List (List ℕ)
added_inputs = codes "String" ∷ codes "Boolean" ∷ []

-- all types that they name
abbrev pub added_names : List (List ℕ)
added_names = codes "__Schema" ∷ codes "__Type" ∷ added_inputs

module _ {S C : Type 0} (ts : List (MetaTypeOf S C)) where
  -- all types that a list of types, and what a schema adds to it, name
  abbrev pub all_names : List (List ℕ)
  all_names = flat_map names_in ts ++ added_names

  -- those of arguments and input fields
  abbrev pub all_inputs : List (List ℕ)
  all_inputs = flat_map inputs_in ts ++ added_inputs

  -- the members of all unions
  abbrev pub all_members : List (List ℕ)
  all_members = flat_map members_of ts
