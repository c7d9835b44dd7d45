-- A check returns the same for the same value.
use Rattle.std.specs.Prelude.{◌≡◌, Result, Ok, Err}
use Rattle.std.proofs.Common.{sym, ◌∙◌}
use Rattle.language_types.specs.declared.error.CheckError.{CheckError}
use Rattle.language_types.specs.declared.error.CheckError.TheVariants as e
use Rattle.language_values.specs.declared.value.InputValue.{InputValue}
use Rattle.meta.specs.Answers.{SameAnswer}
use Rattle.sdl_scalars.specs.declared.scalar.SourceScalar.{SourceScalar}
use Rattle.sdl_scalars.specs.declared.check.SourceCheck.{SourceCheck}
use Rattle.sdl_scalars.specs.Checks.{MayAnswer}

pub one_answer : (c : SourceCheck) (v : InputValue SourceScalar) (r s : Result (Unit {0}) CheckError) → MayAnswer c v r
    → MayAnswer c v s → SameAnswer r s
one_answer c v (Ok a) (Ok b) p q = tt
one_answer c v (Ok a) (Err (e.Refused m)) p q = absurd (q.0 p)
one_answer c v (Ok a) (Err e.OutOfMemory) p q = tt
one_answer c v (Err (e.Refused m)) (Ok b) p q = absurd (p.0 q)
one_answer c v (Err (e.Refused m)) (Err (e.Refused n)) p q = p.1 ∙ sym q.1
one_answer c v (Err (e.Refused m)) (Err e.OutOfMemory) p q = tt
one_answer c v (Err e.OutOfMemory) (Ok b) p q = tt
one_answer c v (Err e.OutOfMemory) (Err f) p q = tt
