use Rattle.std.proofs.Common.{◌≡◌, drop}
use Rattle.sdl_directives.specs.Judged.{has_name}
use Rattle.sdl_directives.proofs.judging.has_name.Given as goal

-- what is left decides
abbrev pub invariant-loop-directive : goal.invariant-loop-directive
invariant-loop-directive l = has_name l.name l.directives ≡ has_name l.name (drop l.directive-index l.directives)
