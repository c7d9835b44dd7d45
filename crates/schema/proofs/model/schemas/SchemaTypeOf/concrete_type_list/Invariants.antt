use Rattle.std.proofs.Common.{◌≡◌, ◌++◌, map}
use Rattle.schema.proofs.model.schemas.SchemaTypeOf.concrete_type_list.Given as goal

abbrev pub invariant-loop-listed : goal.invariant-loop-listed
invariant-loop-listed g l = map (λ r. r.now) l.list.items ++ l.listed-iterator ≡ l.self.types
