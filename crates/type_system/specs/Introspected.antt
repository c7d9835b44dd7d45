-- Names that introspection reserves (sections 3.3 and 4.1).
use Rattle.std.specs.Prelude.{ℕ, List, Bool, ◌&&◌, ◌||◌, codes, nat_eq}
use Rattle.std.specs.List.{starts_with}
use Rattle.std.specs.Str.{bytes_eq}
use Rattle.schema.specs.Catalog.{Catalog}

-- the name begins with `__`
abbrev pub is_reserved : List ℕ → Bool
is_reserved name = starts_with nat_eq name (codes "__")

-- a type of introspection
abbrev pub is_introspection_type : List ℕ → Bool
is_introspection_type n =
    bytes_eq n (codes "__Schema")
    || bytes_eq n (codes "__Type")
    || bytes_eq n (codes "__Field")
    || bytes_eq n (codes "__InputValue")
    || bytes_eq n (codes "__EnumValue")
    || bytes_eq n (codes "__TypeKind")
    || bytes_eq n (codes "__Directive")
    || bytes_eq n (codes "__DirectiveLocation")

module _ {S C : Type 0} (schema : Catalog S C) (of : List ℕ) where
  -- the type of this name is the query root
  abbrev pub is_query_root : Bool
  is_query_root = bytes_eq schema.roots.query of

  -- a field of introspection of the type of this name: `__typename`, and of the query root `__schema` and `__type`
  abbrev pub is_introspection_field : List ℕ → Bool
  is_introspection_field field =
      bytes_eq field (codes "__typename") || (is_query_root && (bytes_eq field (codes "__schema") || bytes_eq field (codes "__type")))
