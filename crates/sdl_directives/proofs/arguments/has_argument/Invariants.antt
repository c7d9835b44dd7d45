use Rattle.std.proofs.Common.{◌≡◌, drop}
use Rattle.sdl_directives.specs.Arguments.{has_argument}
use Rattle.sdl_directives.proofs.arguments.has_argument.Given as goal

-- what is left decides
abbrev pub invariant-loop-argument : goal.invariant-loop-argument
invariant-loop-argument l = has_argument l.name l.arguments ≡ has_argument l.name (drop l.argument-index l.arguments)
