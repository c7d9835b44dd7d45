-- The orders in which a schema lists its types and its directives (section 4.2).
use Rattle.std.specs.Prelude.{ℕ, List, [], string_bytes, map, unwrap_or}
use Rattle.std.specs.Ordering.{nat_cmp, ordering_then}
use Rattle.std.specs.Cmp.Lexicographic.{slice_cmp}
use Rattle.std.specs.declared.cmp.Ordering.{Ordering}
use Rattle.meta.specs.declared.kinds.MetaTypeOf.{MetaTypeOf}
use Rattle.meta.specs.declared.kinds.MetaTypeOf.TheVariants as m
use Rattle.schema_validation.specs.declared.directives.DirectiveType.{DirectiveType}
use Rattle.schema.specs.declared.model.types.TypeTypeOf.{TypeTypeOf}
use Rattle.meta.specs.Kinds.{name_of_meta}
use Rattle.schema.specs.Wrapped.{wrapped_of}

module _ {S C : Type 0} where
  -- the place of the kind in the list of types
  abbrev pub kind_rank : MetaTypeOf S C → ℕ
  kind_rank (m.Enum x) = 0
  kind_rank (m.InputObject x) = 1
  kind_rank (m.Interface x) = 2
  kind_rank (m.Scalar x) = 3
  kind_rank (m.Object x) = 4
  kind_rank (m.Union x) = 5
  kind_rank _ = 6

  -- the bytes of the name, if there is one
  abbrev pub name_bytes : MetaTypeOf S C → List ℕ
  name_bytes t = unwrap_or (name_of_meta t) []

  -- by kind, then by the bytes of the name
  abbrev pub type_cmp : MetaTypeOf S C → MetaTypeOf S C → Ordering
  type_cmp t u = ordering_then (nat_cmp (kind_rank t) (kind_rank u)) (slice_cmp nat_cmp (name_bytes t) (name_bytes u))

  -- the metadata of a list of types
  abbrev pub metas_of : List (TypeTypeOf S C) → List (MetaTypeOf S C)
  metas_of ts = map (λ t. (wrapped_of t).meta) ts

-- by the bytes of the name
abbrev pub directive_cmp : {S : Type 0} → DirectiveType S → DirectiveType S → Ordering
directive_cmp d e = slice_cmp nat_cmp (string_bytes d.name) (string_bytes e.name)
