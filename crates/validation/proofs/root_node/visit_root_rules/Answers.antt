use Rattle.validation.proofs.Reports.{only_more, told_more}
use Rattle.validation.proofs.root_node.visit_root_rules.Goals as goal

pub returns-clause-appended : goal.returns-clause-appended
returns-clause-appended g c =
    told_more _ c.args.document.now c.args.introspection_disabled
    c.args.ctx.now c.visit_all_rules.new.ctx c.report_introspection.new.ctx c.in_ok-compared.compared c.in_ok-compared.ensures.appended c.in_ok-report_introspection.ensures.appended

pub returns-clause-only : goal.returns-clause-only
returns-clause-only g c =
    only_more c.args.ctx.now c.visit_all_rules.new.ctx c.report_introspection.new.ctx c.in_ok-compared.ensures.only
    c.in_ok-report_introspection.ensures.only
