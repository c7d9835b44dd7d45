use Rattle.std.proofs.Common.{◌≡◌, take}
use Rattle.std.specs.List.{flat_map}
use Rattle.walk.specs.ContextState.{with_errors}
use Rattle.rules_arguments.specs.ProvidedNonNullArguments.{is_required, missing_argument, words_before}
use Rattle.rules_arguments.proofs.provided_non_null_arguments.report_each.Given as goal

-- the missing ones of the known arguments that were seen were reported
abbrev pub invariant-loop-argument : goal.invariant-loop-argument
invariant-loop-argument g l =
    l.ctx ≡ with_errors l.fn.ctx (flat_map (missing_argument (is_required l.bearer) (words_before l.bearer) l.place l.written) (take l.argument-index l.known))
