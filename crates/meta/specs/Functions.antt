-- The functions of the caller that a check keeps. Its type carries their types F and T, and what calls of them may
-- return.
use Rattle.std.specs.Prelude.{ℕ, List, Option, Result}
use Rattle.std.specs.declared.alloc.Global.{Global}
use denote.Ref.{Bor}
use denote.Param.Members.{Mut}
use Rattle.language_values.specs.declared.value.InputValue.{InputValue}
use Rattle.language_values.specs.declared.value.DefaultScalarValue.{DefaultScalarValue}
use Rattle.language_types.specs.declared.error.CheckError.{CheckError}
use Rattle.language_types.specs.declared.error.ParseError.{ParseError}
use Rattle.meta.specs.declared.default_check.DefaultCheck.{DefaultCheck}
use Rattle.meta.specs.declared.default_check.ScalarTokenKind.{ScalarTokenKind}

module _ {F T : Type 0} {Calls : Mut F (Global × (Bor (InputValue DefaultScalarValue) × Unit {0}))
    (Result (Unit {0}) CheckError)} {Tokens : Mut T (Global × (ScalarTokenKind × (Bor (List ℕ) × Unit {0})))
    (Result DefaultScalarValue ParseError)} where
  -- the function that the check calls
  abbrev pub function_of : DefaultCheck F T Calls Tokens → F
  function_of c = c.run

  -- its token function, if it has one
  abbrev pub token_function_of : DefaultCheck F T Calls Tokens → Option T
  token_function_of c = c.token
