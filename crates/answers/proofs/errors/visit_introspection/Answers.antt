use Rattle.walk.specs.Entering.{found}
use Rattle.rules_fields.specs.DisableIntrospection.{introspection_fields}
use Rattle.validation.proofs.Reports.{appended_alone}
use Rattle.answers.proofs.errors.visit_introspection.Goals as goal

pub returns : goal.returns
returns c =
    λ known. appended_alone (found introspection_fields) c.args.document.now c.args.ctx.now c.visit_rules.new.ctx (c.in_ok-visit_rules.ensures.appended known)
