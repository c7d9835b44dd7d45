use Rattle.std.proofs.Common.{◌≡◌, drop, Bool}
use Rattle.std.specs.List.{list_any}
use Rattle.language_types.specs.Position.{Placed}
use Rattle.language.specs.declared.tree.Directive.{Directive}
use Rattle.rules_specified.specs.Collected.{leaves_out}
use Rattle.rules_specified.proofs.collected.some_leaves_out.Given as goal

-- what is left decides
abbrev pub invariant-loop-directive : goal.invariant-loop-directive
invariant-loop-directive g l =
    let leaves : Placed (Directive g.row.S.Denot) → Bool = λ d. leaves_out g.S.ScalarValue.bool_of d.item in
    list_any leaves l.directives ≡ list_any leaves (drop l.directive-index l.directives)
