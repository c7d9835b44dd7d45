-- The schema that a list of types makes (section 3.3).
use Rattle.std.specs.Prelude.{◌≡◌, List, None, map}
use Rattle.meta.specs.declared.kinds.MetaTypeOf.{MetaTypeOf}
use Rattle.schema_validation.specs.Accepted.{Roots}
use Rattle.schema_validation.specs.Added.{IsExtended, directive_shape, standard_directives}
use Rattle.schema.specs.declared.model.dialect.Dialect.TheVariants.{Juniper}
use Rattle.schema.specs.Catalog.{Catalog}

-- The types are those of the list, with the two fields added; the directives are the four that every schema has.
pub record IsSchemaOf {S C : Type 0} (roots : Roots) (ts : List (MetaTypeOf S C)) (c : Catalog S C) : Type 0 where
  pub types : IsExtended roots.query ts c.types
  pub roots_kept : c.roots ≡ roots
  pub directives : map directive_shape c.directives ≡ standard_directives
  pub no_description : c.description ≡ None
  pub dialect : c.dialect ≡ Juniper
