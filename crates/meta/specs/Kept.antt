-- The checks that metadata keeps, and which scalars take any literal.
use Rattle.std.specs.Prelude.{Bool, true}
use Rattle.meta.specs.declared.scalars.ScalarMetaOf.{ScalarMetaOf}
use Rattle.meta.specs.declared.enums.EnumMetaOf.{EnumMetaOf}
use Rattle.meta.specs.declared.inputs.InputObjectMetaOf.{InputObjectMetaOf}

abbrev pub scalar_check : {C : Type 0} → ScalarMetaOf C → C
scalar_check m = m.check

abbrev pub enum_check : {C : Type 0} → EnumMetaOf C → C
enum_check m = m.check

abbrev pub input_object_check : {S C : Type 0} → InputObjectMetaOf S C → C
input_object_check m = m.check

-- the check of the scalar is asked of lists and objects, too
abbrev pub takes_any_literal : {C : Type 0} → ScalarMetaOf C → Bool
takes_any_literal m = m.any_literal

abbrev pub taking_any_literal : {C : Type 0} → ScalarMetaOf C → ScalarMetaOf C
taking_any_literal m = record m { any_literal = true }
