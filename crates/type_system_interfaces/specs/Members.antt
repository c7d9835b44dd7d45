-- The members of a type.
use Rattle.std.specs.Prelude.{ℕ, List, [], unwrap_or}
use Rattle.meta.specs.declared.enum_values.EnumValue.{EnumValue}
use Rattle.meta.specs.declared.kinds.MetaTypeOf.{MetaTypeOf}
use Rattle.meta.specs.declared.kinds.MetaTypeOf.TheVariants as m
use Rattle.meta.specs.Kinds.{name_of_meta}

module _ {S C : Type 0} where
  -- the name of a type, which each type of a schema has
  abbrev pub name_in : MetaTypeOf S C → List ℕ
  name_in t = unwrap_or (name_of_meta t) []

  -- the values of an enum
  abbrev pub values_of : MetaTypeOf S C → List EnumValue
  values_of (m.Enum x) = x.values.items
  values_of _ = []
