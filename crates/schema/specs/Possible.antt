-- The possible types of a type at run time, and which types overlap (section 5.5.2.3).
use Rattle.std.specs.Prelude.{ℕ, List, Bool, false, ◌&&◌, ◌||◌, find, map, string_bytes, option_to_list}
use Rattle.std.specs.List.{list_any, filter, filter_map}
use Rattle.std.specs.Option.{option_map_or}
pub use Rattle.language_types.specs.Names.{is_among}
use Rattle.meta.specs.declared.kinds.MetaTypeOf.{MetaTypeOf}
use Rattle.meta.specs.declared.kinds.MetaTypeOf.TheVariants as m
use Rattle.schema_validation.specs.Accepted.{is_named}
use Rattle.meta.specs.Kinds.{name_of_meta, is_object_meta}
use Rattle.schema_validation.specs.Names.{interfaces_of}

-- some name is in both lists
abbrev pub do_meet : List (List ℕ) → List (List ℕ) → Bool
do_meet xs ys = list_any (is_among ys) xs

module _ {S C : Type 0} where
  -- an object that implements the interface of this name
  abbrev pub is_implementer : List ℕ → MetaTypeOf S C → Bool
  is_implementer interface t = is_object_meta t && is_among (interfaces_of t) interface

  -- the names of the objects that list the interface
  abbrev pub implementer_names : List ℕ → List (MetaTypeOf S C) → List (List ℕ)
  implementer_names interface ts = filter_map name_of_meta (filter (is_implementer interface) ts)

  -- the members of a union, the objects that implement an interface, and of any other type its own name
  abbrev pub possible_names : List (MetaTypeOf S C) → MetaTypeOf S C → List (List ℕ)
  possible_names ts (m.Union x) = map string_bytes x.of_type_names.items
  possible_names ts (m.Interface x) = implementer_names (string_bytes x.name) ts
  possible_names ts t = option_to_list (name_of_meta t)

  -- the types of the names, where they are listed
  abbrev pub types_named : List (MetaTypeOf S C) → List (List ℕ) → List (MetaTypeOf S C)
  types_named ts names = filter_map (λ n. find (is_named n) ts) names

  -- the name of the second is that of a possible type of the first
  abbrev pub is_possible_for : List (MetaTypeOf S C) → MetaTypeOf S C → MetaTypeOf S C → Bool
  is_possible_for ts t u = option_map_or (is_among (possible_names ts t)) (name_of_meta u) false

  -- both have a name, and it is one name
  abbrev pub have_one_name : MetaTypeOf S C → MetaTypeOf S C → Bool
  have_one_name t u = option_map_or (λ n. is_named n u) (name_of_meta t) false

  -- they have one name, or a possible type in common
  abbrev pub do_overlap : List (MetaTypeOf S C) → MetaTypeOf S C → MetaTypeOf S C → Bool
  do_overlap ts t u = have_one_name t u || do_meet (possible_names ts t) (possible_names ts u)
