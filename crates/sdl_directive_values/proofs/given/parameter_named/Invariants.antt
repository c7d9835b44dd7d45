use Rattle.std.proofs.Common.{◌≡◌, drop}
use Rattle.sdl_directive_values.specs.Given.{parameter_named}
use Rattle.sdl_directive_values.proofs.given.parameter_named.Given as goal

-- what is left decides
abbrev pub invariant-loop-parameter : goal.invariant-loop-parameter
invariant-loop-parameter l = parameter_named l.name l.parameters ≡ parameter_named l.name (drop l.parameter-index l.parameters)
