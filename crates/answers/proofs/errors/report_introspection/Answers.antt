use Rattle.std.proofs.Common.{sym, subst}
use Rattle.std.proofs.lemmas.Result.{on_ok_weaker}
use Rattle.walk.specs.Rule.{AppendsAllowed}
use Rattle.validation.specs.RootRules.{introspection}
use Rattle.validation.proofs.Reports.{none_appended}
use Rattle.answers.proofs.errors.report_introspection.Goals as goal

pub returns-then-is_closed : goal.returns-then-is_closed
returns-then-is_closed c =
    on_ok_weaker c.visit_introspection.result
    (λ told known. subst (λ b. AppendsAllowed (introspection b) c.args.document.now c.args.ctx.now c.visit_introspection.new.ctx) (sym c.if-is_closed.true) (told known))
    c.visit_introspection.ensures

pub returns : goal.returns
returns c =
    λ known. subst (λ b. AppendsAllowed (introspection b) c.args.document.now c.args.ctx.now c.args.ctx.now) (sym c.if-is_closed.false) (none_appended c.args.document.now c.args.ctx.now)
