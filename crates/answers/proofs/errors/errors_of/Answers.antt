use Rattle.std.proofs.Common.{ap, ◌∙◌}
use Rattle.walk.specs.ContextState.{limited}
use Rattle.answers.proofs.Found.{errors_told}
use Rattle.answers.proofs.Told.{both_ok}
use Rattle.answers.specs.contracts.rules.SourceScalarAnswerRules.TheImpl.{rules-value}
use Rattle.answers.proofs.errors.errors_of.Goals as goal

pub returns : goal.returns
returns c =
    both_ok c.into_errors.result _ _ _
    (λ errors all sorted. errors_told rules-value.it c.args.choices c.args.schema.now c.args.document.now c.args.alloc c.set_limit.new.self c.visit_dialect_rules.new.ctx c.report_introspection.new.ctx _ errors.items
    (c.set_limit.ensures ∙ ap (λ w. limited w c.args.choices.max_errors) c.in_ok-ctx.ensures) c.in_ok-visit_dialect_rules.ensures.appended c.in_ok-report_introspection.ensures (c.clean_by_each_dialect.ensures c.args.schema.now.dialect) all sorted)
    c.into_errors.ensures.all c.into_errors.ensures.sorted
