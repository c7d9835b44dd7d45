use Rattle.std.proofs.Common.{◌∙◌, ◌++◌, ◌∷◌, [], ap, string_bytes, sym, take}
use Rattle.std.proofs.lemmas.List.{flat_map_more, take_more}
use Rattle.std.specs.List.{flat_map}
use Rattle.lint_report.specs.Github.{fault_command, issue_command}
use Rattle.lint_report.proofs.github_report.write_faults.Goals as goal

-- one more was written
pub loop-fault-preserved : goal.loop-fault-preserved
loop-fault-preserved c =
    let faults = c.args.faults.now in
    let fault = c.fault-item.result in
    let next = ap (λ x. take c.loop-fault.fault-index faults ++ x ∷ []) c.fault-item.is ∙ sym (take_more faults c.loop-fault.fault-index fault c.loop-fault-test.true) in
    c.in_ok-write_issue.ensures ∙ ap (λ sources. string_bytes c.loop-fault.text ++ issue_command sources c.fault-item.result.issue) c.as_slice.ensures.value
    ∙ ap (λ text. text ++ fault_command fault) c.loop-fault.invariant
    ∙ flat_map_more fault_command (string_bytes c.args.text.now) (take c.loop-fault.fault-index faults) fault ∙ ap (λ shown. string_bytes c.args.text.now ++ flat_map fault_command shown) next
