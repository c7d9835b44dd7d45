-- The metadata that a type of a schema is.
use Rattle.std.specs.Prelude.{Option, Some, None}
use Rattle.meta.specs.declared.kinds.MetaTypeOf.{MetaTypeOf}
use Rattle.schema.specs.declared.model.types.TypeTypeOf.{TypeTypeOf, out-TypeTypeOf}
use Rattle.schema.specs.declared.model.types.TypeTypeOf.TheOpen as open_type

-- one level of a type
abbrev pub concrete_layer : {S C A : Type 0} → open_type.TypeTypeOf-F S C A → Option (MetaTypeOf S C)
concrete_layer (open_type.Concrete x) = Some x.now
concrete_layer (open_type.NonNull x) = None
concrete_layer (open_type.List x n) = None

-- The metadata of a type without modifiers:
--   concrete_of (Concrete t)  = Some t
--   concrete_of (NonNull t)   = None
--   concrete_of (List t size) = None
abbrev pub concrete_of : {S C : Type 0} → TypeTypeOf S C → Option (MetaTypeOf S C)
concrete_of {S} {C} t = concrete_layer (out-TypeTypeOf S C t)
