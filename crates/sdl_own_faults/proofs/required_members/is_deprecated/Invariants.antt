use Rattle.std.proofs.Common.{◌≡◌, codes, drop}
use Rattle.sdl_directives.specs.Judged.{has_name}
use Rattle.sdl_own_faults.proofs.required_members.is_deprecated.Given as goal

-- what is left decides
abbrev pub invariant-loop-directive : goal.invariant-loop-directive
invariant-loop-directive l = has_name (codes "deprecated") l.directive-items ≡ has_name (codes "deprecated") (drop l.directive-index l.directive-items)
