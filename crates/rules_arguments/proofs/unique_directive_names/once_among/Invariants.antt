use Rattle.std.proofs.Common.{◌≡◌, map, take}
use Rattle.rules_arguments.specs.UniqueDirectiveNames.{once_among, whole_name}
use Rattle.rules_arguments.proofs.unique_directive_names.once_among.Given as goal

-- those of the directives that were seen which may stand once
abbrev pub invariant-loop-directive : goal.invariant-loop-directive
invariant-loop-directive g l = map whole_name l.once.items ≡ once_among l.schema (take l.directive-index l.directive-items)
