use Rattle.std.proofs.Common.{◌≡◌, drop}
use Rattle.sdl_directives.specs.Arguments.{is_parameter}
use Rattle.sdl_directives.proofs.arguments.is_parameter.Given as goal

-- what is left decides
abbrev pub invariant-loop-parameter : goal.invariant-loop-parameter
invariant-loop-parameter l = is_parameter l.name l.parameters ≡ is_parameter l.name (drop l.parameter-index l.parameters)
