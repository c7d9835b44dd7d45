use Rattle.std.proofs.Common.{◌≡◌, Some, take}
use Rattle.language_types.specs.Types.{borrowed_shape}
use Rattle.schema.specs.Catalog.{type_in}
use Rattle.schema.specs.Wrapped.{wrapped_of}
use Rattle.schema.proofs.model.schemas.SchemaTypeOf.make_type.Given as goal

abbrev pub invariant-loop-modifier : goal.invariant-loop-modifier
invariant-loop-modifier g l =
    (type_in (borrowed_shape l.named).name l.self ≡ Some (wrapped_of l.made).meta) × ((wrapped_of l.made).modifiers ≡ take l.modifier-index l.modifier-items)
