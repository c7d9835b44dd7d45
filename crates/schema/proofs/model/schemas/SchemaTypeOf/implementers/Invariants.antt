use Rattle.std.proofs.Common.{◌≡◌, ◌++◌, map}
use Rattle.std.specs.List.{filter}
use Rattle.schema.specs.Possible.{is_implementer}
use Rattle.schema.proofs.model.schemas.SchemaTypeOf.implementers.Given as goal

abbrev pub invariant-loop-meta : goal.invariant-loop-meta
invariant-loop-meta g l = map (λ r. r.now) l.list.items ++ filter (is_implementer l.interface) l.meta-iterator ≡ filter (is_implementer l.interface) l.self.types
