use Rattle.std.proofs.Common.{◌≡◌, map, take, string_bytes}
use Rattle.schema.specs.Possible.{types_named}
use Rattle.schema.proofs.model.schemas.SchemaTypeOf.types_of_names.Given as goal

abbrev pub invariant-loop-name : goal.invariant-loop-name
invariant-loop-name g l = map (λ r. r.now) l.list.items ≡ types_named l.self.types (map string_bytes (take l.name-index l.names))
