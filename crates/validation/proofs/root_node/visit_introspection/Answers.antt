use Rattle.walk.specs.Entering.{found}
use Rattle.rules_fields.specs.DisableIntrospection.{introspection_fields}
use Rattle.validation.proofs.Reports.{appended_alone}
use Rattle.validation.proofs.root_node.visit_introspection.Goals as goal

pub returns-clause-appended : goal.returns-clause-appended
returns-clause-appended g c =
    λ known. appended_alone (found introspection_fields) c.args.document.now c.args.ctx.now c.visit_rules.new.ctx (c.in_ok-visit_rules.ensures.appended known)
