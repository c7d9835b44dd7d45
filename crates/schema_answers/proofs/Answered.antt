-- What is told of bytes that are a text.
use Rattle.std.proofs.Common.{ℕ, List}
use Rattle.std.specs.Str.{IsUtf8}
use Rattle.schema.specs.declared.model.dialect.Dialect.{Dialect}
use Rattle.schema_answers.specs.SchemaAnswers.{IsSchemaAnswer, IsTextAnswer}
use Rattle.schema_answers.specs.declared.schemas.SchemaAnswer.{SchemaAnswer}
use Rattle.schema_answers.specs.declared.schemas.SchemaAnswer.TheVariants as answer

pub told_text : (bytes : List ℕ) (dialect : Dialect) (told : SchemaAnswer) → IsUtf8 bytes → IsTextAnswer dialect told → IsSchemaAnswer bytes dialect told
told_text bytes dialect (answer.Schema schema) utf8 h = (utf8, h)
told_text bytes dialect (answer.Faults report) utf8 h = (utf8, h)
told_text bytes dialect (answer.NotUtf8 report) utf8 h = absurd h
