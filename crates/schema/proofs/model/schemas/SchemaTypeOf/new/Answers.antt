use Rattle.std.proofs.Common.{subst}
use Rattle.std.specs.Prelude.{OnOk, IfOk, IfErr}
use Rattle.schema_validation.specs.Accepted.{IsAccepted, IsTrueRefusal, roots_of}
use Rattle.schema.proofs.AcceptedLemmas.{refused-memory, ok-memory}
use Rattle.schema.specs.Built.{IsSchemaOf}
use Rattle.schema.proofs.model.schemas.SchemaTypeOf.new.Goals as goal

pub returns-clause-accepted : goal.returns-clause-accepted
returns-clause-accepted g c = subst (λ r. OnOk c.from_list.result (IsAccepted r c.args.types.items)) c.new.ensures c.from_list.ensures.accepted

pub returns-clause-built : goal.returns-clause-built
returns-clause-built g c = subst (λ r. IfOk c.from_list.result (λ s. IsSchemaOf r c.args.types.items s)) c.new.ensures c.from_list.ensures.built

pub returns-clause-refused : goal.returns-clause-refused
returns-clause-refused g c = subst (λ r. IfErr c.from_list.result (λ e. IsTrueRefusal r c.args.types.items e)) c.new.ensures c.from_list.ensures.refused

pub returns-clause-memory_alone : goal.returns-clause-memory_alone
returns-clause-memory_alone g c =
    refused-memory (roots_of c.args.query.now c.args.mutation.now c.args.subscription.now) c.args.types.items c.from_list.result
    (subst (λ r. IfErr c.from_list.result (λ e. IsTrueRefusal r c.args.types.items e)) c.new.ensures c.from_list.ensures.refused)

pub returns-clause-no_refusal : goal.returns-clause-no_refusal
returns-clause-no_refusal g c =
    ok-memory (roots_of c.args.query.now c.args.mutation.now c.args.subscription.now) c.args.types.items c.from_list.result (returns-clause-accepted g c)
