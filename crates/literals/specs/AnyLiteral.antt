-- Where lists and objects are literals of a scalar (sections 3.5 and 5.6.1).
use Rattle.std.specs.Prelude.{Bool, false}
use Rattle.meta.specs.Kinds.{is_any_literal_meta}
use Rattle.meta.specs.declared.kinds.MetaTypeOf.{MetaTypeOf}
use Rattle.schema.specs.declared.model.dialect.Dialect.{Dialect}
use Rattle.schema.specs.declared.model.dialect.Dialect.TheVariants as d
use Rattle.schema.specs.Catalog.{Catalog}

module _ {S C : Type 0} where
  -- a scalar that takes any literal, by October 2021; by juniper's rules there is none
  abbrev pub takes_any_in : Dialect → MetaTypeOf S C → Bool
  takes_any_in d.Juniper meta = false
  takes_any_in d.October2021 meta = is_any_literal_meta meta

  -- the same, in a schema
  abbrev pub takes_any : Catalog S C → MetaTypeOf S C → Bool
  takes_any schema meta = takes_any_in schema.dialect meta
