use Rattle.std.proofs.Common.{◌≡◌, take}
use Rattle.std.specs.List.{flat_map}
use Rattle.walk.specs.ContextState.{with_errors}
use Rattle.rules_arguments.specs.KnownDirectives.{unsuitable}
use Rattle.rules_arguments.proofs.known_directives.report_each.Given as goal

-- the unsuitable ones of the directives that were seen were reported
abbrev pub invariant-loop-directive : goal.invariant-loop-directive
invariant-loop-directive g l =
    l.ctx ≡ with_errors l.fn.ctx (flat_map (unsuitable l.fn.ctx.schema l.place) (take l.directive-index l.directive-items))
