use Rattle.std.proofs.Common.{subst, sym}
use Rattle.answers.proofs.Told.{both_ok}
use Rattle.answers.specs.Answers.{FaultsAt, HasKnownTypes}
use Rattle.answers.proofs.values.faults_at.Goals as goal

pub validate_input_values-requires : goal.validate_input_values-requires
validate_input_values-requires c = record { known = subst (HasKnownTypes c.args.schema.now) c.in-Operation.is c.requires }

pub returns-in-Operation : goal.returns-in-Operation
returns-in-Operation c =
    both_ok c.validate_input_values.result _ _ _
    (λ errors h sorted. subst (λ def. FaultsAt c.args.schema.now c.args.values.now def errors.items) (sym c.in-Operation.is) (record { found = h.0; all = h.1; ordered = h.2; sorted = sorted }))
    c.validate_input_values.ensures.faults c.validate_input_values.ensures.sorted

pub returns-in-Fragment : goal.returns-in-Fragment
returns-in-Fragment c = subst (λ def. FaultsAt c.args.schema.now c.args.values.now def c.new.result.items) (sym c.in-Fragment.is) c.new.ensures.items
