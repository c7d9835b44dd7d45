use Rattle.std.proofs.Common.{subst, sym}
use Rattle.lint_app.specs.Told.{Adds, HasKnownTypes, TellsFaultsAt}
use Rattle.lint_app.proofs.Telling.{faults_told, no_fault}
use Rattle.lint_app.proofs.documents.Judge.add_faults_at.Goals as goal

pub validate_input_values-requires : goal.validate_input_values-requires
validate_input_values-requires c = record { known = subst (HasKnownTypes c.args.self.now.root.now) c.in-Operation.is c.requires }

pub returns-in_ok-add_errors-in-Operation : goal.returns-in_ok-add_errors-in-Operation
returns-in_ok-add_errors-in-Operation c =
    let root = c.args.self.now.root.now in
    subst (λ def. Adds (TellsFaultsAt root c.args.values.now c.args.joined.now c.args.file def) c.args.issues.now.items c.add_errors.new.issues.items) (sym c.in-Operation.is)
    (faults_told root c.args.values.now c.args.joined.now c.args.file c.in-Operation.operation c.as_slice.result.now _ c.args.issues.now.items c.add_errors.new.issues.items c.as_slice.ensures.value c.in_ok-found-in-Operation.ensures.faults c.in_ok-found-in-Operation.ensures.sorted c.in_ok-add_errors-in-Operation.ensures)

pub returns-in-Fragment : goal.returns-in-Fragment
returns-in-Fragment c =
    let root = c.args.self.now.root.now in
    subst (λ def. Adds (TellsFaultsAt root c.args.values.now c.args.joined.now c.args.file def) c.args.issues.now.items c.args.issues.now.items) (sym c.in-Fragment.is)
    (no_fault root c.args.values.now c.args.joined.now c.args.file c.in-Fragment.field-0 c.args.issues.now.items)
