use Rattle.std.proofs.Common.{◌≡◌, drop}
use Rattle.sdl_directives.specs.Known.{definitions_of, directive_named}
use Rattle.sdl_directives.proofs.known.directive_named.Given as goal

-- what is left decides
abbrev pub invariant-loop-directive : goal.invariant-loop-directive
invariant-loop-directive l = directive_named (definitions_of l.known) l.name ≡ directive_named (definitions_of (drop l.directive-index l.known)) l.name
