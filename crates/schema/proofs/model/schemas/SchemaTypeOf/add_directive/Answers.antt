use Rattle.std.proofs.Common.{rules}
use Rattle.std.specs.Prelude.{IfErr}
use Rattle.schema.specs.Changes.{directive_types, IsTrueOfArguments}
use Rattle.schema.proofs.ChangeLemmas.{memory-refused}
use Rattle.schema.proofs.model.schemas.SchemaTypeOf.add_directive.Goals as goal

pub returns-in_err-check_arguments-clause-memory_alone :
    goal.returns-in_err-check_arguments-clause-memory_alone
returns-in_err-check_arguments-clause-memory_alone g c =
    let ts = c.args.self.now.types in
    let ns = directive_types c.args.directive in
    let refused : IfErr c.from_residual.result (IsTrueOfArguments ts ns) = search rules in
    λ input. memory-refused ts ns input c.from_residual.result refused
