-- Where October 2021 takes values that juniper refuses.
use Rattle.std.specs.Prelude.{◌&&◌, Bool, Option, false, is_some, not}
use Rattle.language.specs.declared.tree.VariableDefinition.{VariableDefinition}
use Rattle.language_types.specs.Types.{is_never_null, shape}
use Rattle.meta.specs.Kept.{takes_any_literal}
use Rattle.meta.specs.declared.arguments.Argument.{Argument}
use Rattle.meta.specs.declared.scalars.ScalarMetaOf.{ScalarMetaOf}
use Rattle.schema.specs.Catalog.{Catalog}
use Rattle.schema.specs.declared.model.dialect.Dialect.{Dialect}
use Rattle.schema.specs.declared.model.dialect.Dialect.TheVariants as d

-- in October 2021 this, and never in juniper
abbrev pub in_october_2021 : Dialect → Bool → Bool
in_october_2021 d.Juniper b = false
in_october_2021 d.October2021 b = b

module _ {S C : Type 0} (schema : Catalog S C) where
  -- lists and objects, too, may stand for the scalar (section 3.5)
  abbrev pub takes_any_value : ScalarMetaOf C → Bool
  takes_any_value s = in_october_2021 schema.dialect (takes_any_literal s)

  -- a default stands in for the input field where it is left out (section 3.10)
  abbrev pub has_default : Argument S → Bool
  has_default a = in_october_2021 schema.dialect (is_some a.default_value)

  -- the input field has to be given: its type is non-null, and no default stands in for it
  abbrev pub is_needed : Argument S → Bool
  is_needed a = is_never_null (shape a.arg_type) && not (has_default a)

  -- a default stands in for the variable, of which no value is there (section 6.1.2)
  abbrev pub stands_in : {A : Type 0} → VariableDefinition S → Option A → Bool
  stands_in d value = in_october_2021 schema.dialect (not (is_some value) && is_some d.default_value)
