-- What is known of the rules of each dialect, for the scalars of queries.
use Rattle.schema.specs.declared.model.dialect.Dialect.{Dialect}
use Rattle.sdl_scalars.specs.declared.check.SourceCheck.{SourceCheck}
use Rattle.sdl_scalars.specs.declared.scalar.SourceScalar.{SourceScalar}
use Rattle.validation.specs.Stages.{Rules}

abbrev pub SourceRules : Type 1
SourceRules = Dialect → Rules SourceScalar SourceCheck
