use Rattle.std.proofs.Common.{◌≡◌, ◌++◌, map, take}
use Rattle.std.specs.List.{flat_map}
use Rattle.type_system_defaults.specs.Given.{given_values, directive_defaults}
use Rattle.type_system_defaults.proofs.given.add_directives.Given as goal

-- those of the items that were seen were appended
abbrev pub invariant-loop-directive : goal.invariant-loop-directive
invariant-loop-directive g l = given_values l.given ≡ given_values l.fn.given ++ flat_map directive_defaults (map (λ r. r.now) (take l.directive-index l.directives))
