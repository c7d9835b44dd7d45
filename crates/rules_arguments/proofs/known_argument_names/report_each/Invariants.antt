use Rattle.std.proofs.Common.{◌≡◌, take}
use Rattle.std.specs.List.{flat_map}
use Rattle.walk.specs.ContextState.{with_errors}
use Rattle.rules_arguments.specs.KnownArgumentNames.{unknown_argument, unknown_message}
use Rattle.rules_arguments.proofs.known_argument_names.report_each.Given as goal

-- the unknown ones of the arguments that were seen were reported
abbrev pub invariant-loop-argument : goal.invariant-loop-argument
invariant-loop-argument g l =
    l.ctx ≡ with_errors l.fn.ctx (flat_map (unknown_argument (unknown_message l.bearer) l.known) (take l.argument-index l.argument-items))
