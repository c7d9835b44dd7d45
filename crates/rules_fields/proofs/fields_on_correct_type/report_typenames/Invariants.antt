use Rattle.std.proofs.Common.{◌≡◌, take}
use Rattle.std.specs.List.{flat_map}
use Rattle.walk.specs.ContextState.{with_errors}
use Rattle.rules_fields.specs.FieldsOnCorrectType.{root_typename}
use Rattle.rules_fields.proofs.fields_on_correct_type.report_typenames.Given as goal

-- what is found at the selections that were seen was reported
abbrev pub invariant-loop-selection : goal.invariant-loop-selection
invariant-loop-selection g l = l.ctx ≡ with_errors l.fn.ctx (flat_map root_typename (take l.selection-index l.selection-items))
