use Rattle.std.proofs.Common.{refl, subst}
use Rattle.schema_answers.specs.SchemaAnswers.{IsSchemaAnswer}
use Rattle.vorxindak.specs.Calls.{opened}
use Rattle.vorxindak.proofs.opening.read.Goals as goal

-- the texts are a schema
pub returns-in_ok-held_of-in-Schema : goal.returns-in_ok-held_of-in-Schema
returns-in_ok-held_of-in-Schema c =
    let told = subst (IsSchemaAnswer c.args.texts.now c.args.dialect) c.in-Schema.is c.in_ok-schema.ensures in
    opened c.in-Schema.schema refl told.0 told.1 c.in_ok-held_of-in-Schema.ensures.schema c.in_ok-held_of-in-Schema.ensures.report
