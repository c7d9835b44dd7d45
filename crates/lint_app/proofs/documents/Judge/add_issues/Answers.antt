use Rattle.lint_app.specs.contracts.rules.SourceScalarLintRules.TheImpl.{rules-value}
use Rattle.lint_app.proofs.Telling.{are_errors, has_items, no_items, tells_errors, tells_faults}
use Rattle.std.proofs.lemmas.Result.{on_ok_weaker}
use Rattle.std.specs.Option.{option_copied}
use Rattle.lint_app.proofs.documents.Judge.add_issues.Goals as goal

-- there is no error
pub add_faults-requires : goal.add_faults-requires
add_faults-requires c =
    let es = are_errors rules-value.it c.args.self.now.root.now (option_copied c.args.self.now.values) c.args.joined.now c.args.file c.args.document.now c.as_slice-errors.result.now _ c.as_slice-errors.ensures.value c.in_ok-found.ensures.all c.in_ok-found.ensures.valid c.in_ok-found.ensures.sorted in
    es.valid.0 (no_items c.as_slice-errors.result.now c.is_empty.result c.is_empty.ensures c.if-not-is_empty.false)

pub returns-then-not-is_empty : goal.returns-then-not-is_empty
returns-then-not-is_empty c =
    let errors = c.as_slice-errors.result.now in
    let es = are_errors rules-value.it c.args.self.now.root.now (option_copied c.args.self.now.values) c.args.joined.now c.args.file c.args.document.now errors _ c.as_slice-errors.ensures.value c.in_ok-found.ensures.all c.in_ok-found.ensures.valid c.in_ok-found.ensures.sorted in
    on_ok_weaker c.add_limit_note.result
    (λ noted. tells_errors rules-value.it c.args.self.now.root.now (option_copied c.args.self.now.values) c.args.joined.now c.args.file c.args.document.now errors c.args.issues.now.items c.add_errors.new.issues.items c.add_limit_note.new.issues.items es
    (has_items errors c.is_empty.result c.is_empty.ensures c.if-not-is_empty.true) c.in_ok-add_errors.ensures noted)
    c.add_limit_note.ensures

pub returns : goal.returns
returns c =
    let errors = c.as_slice-errors.result.now in
    let es = are_errors rules-value.it c.args.self.now.root.now (option_copied c.args.self.now.values) c.args.joined.now c.args.file c.args.document.now errors _ c.as_slice-errors.ensures.value c.in_ok-found.ensures.all c.in_ok-found.ensures.valid c.in_ok-found.ensures.sorted in
    tells_faults rules-value.it c.args.self.now.root.now (option_copied c.args.self.now.values) c.args.joined.now c.args.file c.args.document.now errors c.args.issues.now.items c.add_errors.new.issues.items c.add_faults.new.issues.items es (no_items errors c.is_empty.result c.is_empty.ensures c.if-not-is_empty.false) c.in_ok-add_errors.ensures c.in_ok-add_faults.ensures
