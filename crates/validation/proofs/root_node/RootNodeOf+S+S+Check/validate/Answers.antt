use Rattle.std.proofs.Common.{ap, ◌∙◌}
use Rattle.std.proofs.lemmas.Result.{IfOk-weaker}
use Rattle.walk.specs.ContextState.{limited}
use Rattle.validation.proofs.ByDialect.{reported_by}
use Rattle.validation.proofs.Reports.{told_more, told_up_to}
use Rattle.validation.proofs.Root.{root_valid_up_to}
use Rattle.validation.proofs.root_node.RootNodeOf+S+S+Check.validate.Goals as goal

pub returns-clause-all : goal.returns-clause-all
returns-clause-all g c =
    let root = c.args.self.now in
    let document = c.args.document.now in
    let ctx = c.set_limit.new.self in
    let fresh = c.set_limit.ensures ∙ ap (λ w. limited w root.max_errors) c.in_ok-ctx.ensures in
    IfOk-weaker c.into_errors.result _ _
    (λ errors sorted.
    let told = told_up_to _ document root.max_errors root.introspection_disabled _ root.schema _ _ errors.items _ fresh
    (told_more _ document root.introspection_disabled _ _ _ _ c.in_ok-visit_dialect_rules.ensures.appended c.in_ok-report_introspection.ensures.appended)
    sorted in (
      _,
      record {
        report = told.report;
        reported = reported_by _ _ ctx.schema.dialect root.schema.dialect document (ap (λ w. w.schema.dialect) fresh)
            root.max_errors root.introspection_disabled root.schema told.report _ told.reported;
        kept = told.kept;
      },
    ))
    c.into_errors.ensures.all

pub returns-clause-valid : goal.returns-clause-valid
returns-clause-valid g c =
    IfOk-weaker c.into_errors.result _ _
    (λ errors (pairs, report).
    root_valid_up_to _ c.args.self.now.schema c.args.document.now c.args.self.now.max_errors c.args.self.now.introspection_disabled errors.items pairs report
    (c.clean_by_each_dialect.ensures c.args.self.now.schema.dialect))
    (returns-clause-all g c)
