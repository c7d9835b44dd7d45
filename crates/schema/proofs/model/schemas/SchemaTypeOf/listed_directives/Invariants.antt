use Rattle.std.proofs.Common.{◌≡◌, ◌++◌, map}
use Rattle.schema.proofs.model.schemas.SchemaTypeOf.listed_directives.Given as goal

abbrev pub invariant-loop-directive : goal.invariant-loop-directive
invariant-loop-directive g l = map (λ r. r.now) l.list.items ++ l.directive-iterator ≡ l.self.directives
